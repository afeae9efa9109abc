use Rattle.std.proofs.Common.{◌≡◌, ◌++◌, List, None, length, take, drop, subst, sym, ap, ◌∙◌, arith, is_some}
use Rattle.std.specs.BTreeMap.{insert_entry}
use Rattle.std.specs.Ordering.{nat_cmp}
use Rattle.std.proofs.lemmas.Grind.{common_steps}
use Rattle.admit_core.specs.Connection.{arrived}
use Rattle.shard_book.specs.BooksState.{BooksState}
use Rattle.shard_book.specs.declared.named.Named.{Named}
use Rattle.admit_drive.specs.Moves.{ComesToRest}
use Rattle.admit_drive.specs.Tables.{AreTablesOf, table_states}
use Rattle.shard_port.specs.declared.reference.Reference.{Reference}
use Rattle.admit_port.proofs.CommonLemmas.{setup_same}
use Rattle.admit_drive.proofs.LivedLemmas.{arrived_lived}
use Rattle.stickd_script.specs.Guests.{Guest, guest_of, without}
use Rattle.stickd_script.specs.Script.{OpensAt, samples_of}
use Rattle.stickd_script.specs.Seen.{script_state}
use Rattle.stickd_script.proofs.GuestLemmas.{found_with, with_and_without, with_both}
use Rattle.stickd_script.proofs.ServerLemmas.{none_of, opened_admitted, opened_rejected}
use Rattle.stickd_script.proofs.server.ScriptServer.open_from.Goals as goal

pub advance_to_rest-requires-clause-tables : goal.advance_to_rest-requires-clause-tables
advance_to_rest-requires-clause-tables g c =
    subst (λ s. AreTablesOf s (table_states c.as_mut_slice.result.now)) (sym (setup_same c.new-conn.result _ c.new-conn.ensures.stands))
    (subst (λ (ts : List (Named BooksState)). AreTablesOf c.args.self.now.setup.now (table_states ts)) (sym c.as_mut_slice.ensures.value) c.requires.served.tables)

pub advance_to_rest-requires-clause-living : goal.advance_to_rest-requires-clause-living
advance_to_rest-requires-clause-living g c = (_, c.new-conn.ensures.stands, arrived_lived c.args.self.now.setup.now c.samples_of-samples.result)

pub keep_guest-requires : goal.keep_guest-requires
keep_guest-requires g c = ap (λ gs. is_some (guest_of c.args.id gs)) c.in-Ok.ensures.ok ∙ ap is_some (found_with c.args.id c.new-place.result c.args.self.now.guests.entries)

pub returns-in-Admitted : goal.returns-in-Admitted
returns-in-Admitted g c =
    let server = c.args.self.now in
    let setup = server.setup.now in
    let id = c.args.id in
    let before : List Guest = server.guests.entries in
    let old = script_state setup server.tables.items before in
    let tables = c.advance_to_rest.new.tables in
    let free : guest_of id before ≡ None = none_of (guest_of id before) (sym c.is_open.ensures ∙ c.if-is_open.false) in
    let rested = c.advance_to_rest.ensures.rested _ c.new-conn.ensures.stands in
    let comes : ComesToRest c.args.moment (table_states server.tables.items) (arrived setup (samples_of setup c.args.source c.args.port)) (table_states tables) rested.0 =
    subst (λ s. ComesToRest c.args.moment (table_states server.tables.items) (arrived setup s) (table_states tables) rested.0) c.samples_of-samples.ensures
    (subst (λ (ts : List (Named BooksState)). ComesToRest c.args.moment (table_states ts) (arrived setup c.samples_of-samples.result) (table_states tables) rested.0) c.as_mut_slice.ensures.value rested.2) in
    let refilled : take server.tables.len (tables ++ drop (length tables) server.tables.items) ≡ tables = grind (arith, common_steps) in
    let after : c.keep_guest.new.guests.entries ≡ insert_entry nat_cmp before id c.advance_to_rest.new.conn =
    c.keep_guest.ensures ∙ ap (λ gs. insert_entry nat_cmp gs id c.advance_to_rest.new.conn) c.in-Ok.ensures.ok ∙ with_both id c.advance_to_rest.new.conn c.new-place.result before in
    subst (λ (ts : List (Named BooksState)). OpensAt (guest_of id before) c.args.moment id c.args.source c.args.port old c.opened-in-Admitted.result (script_state setup ts c.keep_guest.new.guests.entries)) (sym refilled)
    (opened_admitted c.args.moment id old (table_states tables) c.args.source c.args.port c.opened-in-Admitted.result c.keep_guest.new.guests.entries c.advance_to_rest.new.conn rested.0 free rested.1 comes
    (sym (ap (λ (p : Rattle.admit_core.specs.Connection.Progress Reference). p.phase) rested.1.progress) ∙ sym c.phase.ensures ∙ c.in-Admitted.is) after c.opened-in-Admitted.ensures)

pub returns-in_default-phase : goal.returns-in_default-phase
returns-in_default-phase g c =
    let server = c.args.self.now in
    let setup = server.setup.now in
    let id = c.args.id in
    let before : List Guest = server.guests.entries in
    let old = script_state setup server.tables.items before in
    let tables = c.advance_to_rest.new.tables in
    let free : guest_of id before ≡ None = none_of (guest_of id before) (sym c.is_open.ensures ∙ c.if-is_open.false) in
    let rested = c.advance_to_rest.ensures.rested _ c.new-conn.ensures.stands in
    let comes : ComesToRest c.args.moment (table_states server.tables.items) (arrived setup (samples_of setup c.args.source c.args.port)) (table_states tables) rested.0 =
    subst (λ s. ComesToRest c.args.moment (table_states server.tables.items) (arrived setup s) (table_states tables) rested.0) c.samples_of-samples.ensures
    (subst (λ (ts : List (Named BooksState)). ComesToRest c.args.moment (table_states ts) (arrived setup c.samples_of-samples.result) (table_states tables) rested.0) c.as_mut_slice.ensures.value rested.2) in
    let refilled : take server.tables.len (tables ++ drop (length tables) server.tables.items) ≡ tables = grind (arith, common_steps) in
    let after : c.take_guest.new.guests.entries ≡ before = c.take_guest.ensures.others ∙ ap (without id) c.in-Ok.ensures.ok ∙ with_and_without id c.new-place.result before free in
    subst (λ (ts : List (Named BooksState)). OpensAt (guest_of id before) c.args.moment id c.args.source c.args.port old c.opened-in_default-phase.result (script_state setup ts c.take_guest.new.guests.entries)) (sym refilled)
    (opened_rejected c.args.moment id old (table_states tables) c.args.source c.args.port c.opened-in_default-phase.result c.take_guest.new.guests.entries c.advance_to_rest.new.conn rested.0 c.phase.result free rested.1 comes
    (sym (ap (λ (p : Rattle.admit_core.specs.Connection.Progress Reference). p.phase) rested.1.progress) ∙ sym c.phase.ensures) c.in_default-phase.not-Admitted after c.opened-in_default-phase.ensures)
