use Rattle.std.proofs.Common.{◌≡◌, true, false, is_some}
use Rattle.admit_core.specs.Conn.{judged_by, needed, progress_of}
use Rattle.admit_core.specs.Connection.{wants_held}
use Rattle.admit_core.specs.Naming.{names_held, names_table_of}
use Rattle.admit_core.proofs.NeedLemmas.{conn_free, conn_held, conn_table, of_needed}
use Rattle.admit_core.proofs.conn.Conn.want.Goals as goal

pub returns-clause-table : goal.returns-clause-table
returns-clause-table g c =
    let conn = c.args.self.now in
    of_needed (λ need. names_table_of (judged_by conn) need ≡ true) c.next.result (needed conn) c.next.ensures.needed (conn_table conn)

pub returns-clause-held : goal.returns-clause-held
returns-clause-held g c =
    let conn = c.args.self.now in
    of_needed (λ need. is_some (progress_of conn).given ≡ false → names_held (progress_of conn).held need ≡ true) c.next.result (needed conn) c.next.ensures.needed (conn_held conn)

pub returns-clause-free : goal.returns-clause-free
returns-clause-free g c =
    let conn = c.args.self.now in
    of_needed (λ need. wants_held (progress_of conn).held need ≡ false) c.next.result (needed conn) c.next.ensures.needed (conn_free conn)
