-- A connection goes on, one move after another.
use Rattle.std.proofs.Common.{◌≡◌, ◌<◌, ◌^◌, ℕ, zero, suc, refl, sym, ap, subst, ◌∙◌, Bool, true, List}
use Rattle.rule_model.specs.declared.sections.Setup.{Setup}
use Rattle.admit_core.specs.Conn.{judged_by, needed, progress_of, Stands}
use Rattle.admit_core.specs.Connection.{Connection, Progress}
use Rattle.admit_core.specs.Left.{is_still}
use Rattle.admit_core.specs.declared.conn.Conn.{Conn}
use Rattle.admit_drive.specs.Balance.{IsCovered}
use Rattle.admit_drive.specs.DriveCode.{HasMoved, HasComeToRest, IsLiving}
use Rattle.admit_drive.specs.Moves.{Goes, Moves}
use Rattle.admit_drive.specs.Tables.{AreTablesOf, TableState}
use Rattle.shard_port.specs.declared.reference.Reference.{Reference}
use Rattle.admit_port.proofs.CommonLemmas.{need_same, setup_same}
use Rattle.admit_drive.proofs.KeepingLemmas.{IsKept, move_kept}

-- one move more
pub goes_more : (now count : ℕ) (old middle new : List TableState) (connection next after : Connection Reference) (was_refused : Bool) → Goes now count old connection middle next → Moves now middle next new after was_refused → Goes now (suc count) old connection new after
goes_more now zero old middle new connection next after was_refused goes moves = (
  new,
  after,
  was_refused,
  subst (λ (ts : List TableState). Moves now ts connection new after was_refused) goes.0 (subst (λ (c : Connection Reference). Moves now middle c new after was_refused) goes.1 moves),
  (refl, refl),
)
goes_more now (suc count) old middle new connection next after was_refused goes moves =
    (goes.0, goes.1, goes.2, goes.3, goes_more now count goes.0 middle new goes.1 next after was_refused goes.4 moves)

-- ---- on the code

-- what the code keeps as it moves: it is a connection that came, its tables are those of its setup, and what it holds is out
pub record IsReady (tables : List TableState) (conn : Conn Reference) : Type 0 where
  pub living : IsLiving conn
  pub tables_are : AreTablesOf (judged_by conn) tables
  pub covered : IsCovered tables (progress_of conn).held

-- one that has kept what a connection keeps is ready
ready_after : (setup : Setup) (old new : List TableState) (connection after : Connection Reference) (later : Conn Reference) → setup ≡ connection.setup → Stands later after → IsKept setup old connection new after → IsReady new later
ready_after setup old new connection after later is stands kept =
    let same : judged_by later ≡ setup = setup_same later after stands ∙ kept.same.setup ∙ sym is in
    record {
      living = (after, stands, kept.same.lived);
      tables_are = subst (λ (s : Setup). AreTablesOf s new) (sym same) kept.tables;
      covered = subst (λ (p : Progress Reference). IsCovered new p.held) (sym stands.progress) kept.covered;
    }

covered_of : (tables : List TableState) (conn : Conn Reference) (connection : Connection Reference) → Stands conn connection → IsCovered tables (progress_of conn).held → IsCovered tables connection.progress.held
covered_of tables conn connection stands covered = subst (λ (p : Progress Reference). IsCovered tables p.held) stands.progress covered

pub ready_moved : (now : ℕ) (old new : List TableState) (conn later : Conn Reference) (was_refused : Bool) → now < 2 ^ 62 → IsReady old conn → HasMoved now old conn new later was_refused → IsReady new later × (judged_by later ≡ judged_by conn)
ready_moved now old new conn later was_refused moment ready moved =
    let connection : Connection Reference = ready.living.0 in
    let stands = ready.living.1 in
    let next = moved connection stands in
    let kept = move_kept now (judged_by conn) old connection new next.0 was_refused moment ready.tables_are (covered_of old conn connection stands ready.covered) ready.living.2 next.2 in (
      ready_after (judged_by conn) old new connection next.0 later (setup_same conn connection stands) next.1 kept,
      setup_same later next.0 next.1 ∙ kept.same.setup ∙ sym (setup_same conn connection stands),
    )

-- whatever connection it is, that has gone on so
abbrev pub HasGone : ℕ → List TableState → Conn Reference → List TableState → Conn Reference → Type 0
HasGone now old conn new later = (connection : Connection Reference) → Stands conn connection → (count : ℕ) × (after : Connection Reference) × Stands later after × Goes now count old connection new after

pub gone_more : (now : ℕ) (old middle new : List TableState) (conn next later : Conn Reference) (was_refused : Bool) → HasGone now old conn middle next → HasMoved now middle next new later was_refused → HasGone now old conn new later
gone_more now old middle new conn next later was_refused gone moved connection stands =
    let so_far = gone connection stands in
    let one = moved so_far.1 so_far.2 in
    (suc so_far.0, one.0, one.1, goes_more now so_far.0 old middle new connection so_far.1 one.0 was_refused so_far.3 one.2)

pub gone_to_rest : (now : ℕ) (old new : List TableState) (conn later : Conn Reference) → is_still (needed later) ≡ true → HasGone now old conn new later → HasComeToRest now old conn new later
gone_to_rest now old new conn later still gone connection stands =
    let all = gone connection stands in
    (all.1, all.2, record { count = all.0; goes = all.3; still = ap is_still (sym (need_same later all.1 all.2)) ∙ still })
