use Rattle.std.proofs.Common.{◌≡◌, ◌++◌, List, Some, None, length, take, drop, subst, sym, ap, ◌∙◌, arith, is_some}
use Rattle.std.proofs.lemmas.Grind.{common_steps}
use Rattle.admit_core.specs.Conn.{progress_of}
use Rattle.admit_core.specs.Connection.{Progress, closed}
use Rattle.shard_book.specs.BooksState.{BooksState}
use Rattle.shard_book.specs.declared.named.Named.{Named}
use Rattle.admit_drive.specs.Balance.{IsCovered}
use Rattle.admit_drive.specs.Moves.{ComesToRest}
use Rattle.admit_drive.specs.Tables.{AreTablesOf, table_states}
use Rattle.shard_port.specs.declared.reference.Reference.{Reference}
use Rattle.admit_port.proofs.CommonLemmas.{need_same, setup_same}
use Rattle.admit_drive.proofs.LivedLemmas.{closed_lived}
use Rattle.stickd_script.specs.Guests.{IsOpen, guest_of}
use Rattle.stickd_script.specs.Script.{Closes, ClosesAt}
use Rattle.stickd_script.specs.Seen.{script_state}
use Rattle.stickd_script.proofs.GuestLemmas.{all_at, none_without}
use Rattle.stickd_script.proofs.ServedLemmas.{IsOf, guest_covered, open_rests}
use Rattle.stickd_script.proofs.ServerLemmas.{closed_guest}
use Rattle.stickd_script.proofs.server.ScriptServer.close.Goals as goal

pub close-requires : goal.close-requires
close-requires g c =
    let state = script_state c.args.self.now.setup.now c.args.self.now.tables.items c.args.self.now.guests.entries in
    let guest = c.in-Some.conn in
    let found : guest_of c.args.id state.guests ≡ Some guest = sym c.take_guest.ensures.taken ∙ c.in-Some.is in
    let it = all_at c.args.id (IsOf state.setup) state.guests guest found c.requires.served.judged in
    let stays : IsOpen guest = all_at c.args.id IsOpen state.guests guest found c.requires.served.open_all in
    let same : it.0.progress ≡ progress_of guest = sym it.1.stands.progress in
    need_same guest it.0 it.1.stands ∙ open_rests it.0 (ap (λ (p : Progress Reference). p.phase) same ∙ stays.phase) (ap (λ (p : Progress Reference). p.bytes) same ∙ stays.bytes) (ap (λ (p : Progress Reference). p.given) same ∙ stays.given)

pub advance_to_rest-requires-clause-tables : goal.advance_to_rest-requires-clause-tables
advance_to_rest-requires-clause-tables g c =
    let state = script_state c.args.self.now.setup.now c.args.self.now.tables.items c.args.self.now.guests.entries in
    let guest = c.in-Some.conn in
    let found : guest_of c.args.id state.guests ≡ Some guest = sym c.take_guest.ensures.taken ∙ c.in-Some.is in
    let it = all_at c.args.id (IsOf state.setup) state.guests guest found c.requires.served.judged in
    let stands = c.close.ensures.stands it.0 it.1.stands in
    subst (λ s. AreTablesOf s (table_states c.as_mut_slice.result.now)) (sym (setup_same c.close.new.self _ stands ∙ it.1.judged_by))
    (subst (λ (ts : List (Named BooksState)). AreTablesOf state.setup (table_states ts)) (sym c.as_mut_slice.ensures.value) c.requires.served.tables)

pub advance_to_rest-requires-clause-given : goal.advance_to_rest-requires-clause-given
advance_to_rest-requires-clause-given g c =
    let state = script_state c.args.self.now.setup.now c.args.self.now.tables.items c.args.self.now.guests.entries in
    let guest = c.in-Some.conn in
    let found : guest_of c.args.id state.guests ≡ Some guest = sym c.take_guest.ensures.taken ∙ c.in-Some.is in
    let stays : IsOpen guest = all_at c.args.id IsOpen state.guests guest found c.requires.served.open_all in
    ap (λ (p : Progress Reference). is_some p.given) c.close.ensures.progress ∙ ap is_some stays.given

pub advance_to_rest-requires-clause-covered : goal.advance_to_rest-requires-clause-covered
advance_to_rest-requires-clause-covered g c =
    let state = script_state c.args.self.now.setup.now c.args.self.now.tables.items c.args.self.now.guests.entries in
    let guest = c.in-Some.conn in
    let found : guest_of c.args.id state.guests ≡ Some guest = sym c.take_guest.ensures.taken ∙ c.in-Some.is in
    subst (λ (p : Progress Reference). IsCovered (table_states c.as_mut_slice.result.now) p.held) (sym c.close.ensures.progress)
    (subst (λ (ts : List (Named BooksState)). IsCovered (table_states ts) (progress_of guest).held) (sym c.as_mut_slice.ensures.value) (guest_covered state c.args.id guest found c.requires.served))

pub advance_to_rest-requires-clause-living : goal.advance_to_rest-requires-clause-living
advance_to_rest-requires-clause-living g c =
    let state = script_state c.args.self.now.setup.now c.args.self.now.tables.items c.args.self.now.guests.entries in
    let guest = c.in-Some.conn in
    let found : guest_of c.args.id state.guests ≡ Some guest = sym c.take_guest.ensures.taken ∙ c.in-Some.is in
    let it = all_at c.args.id (IsOf state.setup) state.guests guest found c.requires.served.judged in
    (_, c.close.ensures.stands it.0 it.1.stands, closed_lived it.0 c.args.bytes_in c.args.bytes_out it.1.lived)

pub returns : goal.returns
returns g c =
    let state = script_state c.args.self.now.setup.now c.args.self.now.tables.items c.args.self.now.guests.entries in
    let guest = c.in-Some.conn in
    let found : guest_of c.args.id state.guests ≡ Some guest = sym c.take_guest.ensures.taken ∙ c.in-Some.is in
    let it = all_at c.args.id (IsOf state.setup) state.guests guest found c.requires.served.judged in
    let stands = c.close.ensures.stands it.0 it.1.stands in
    let tables = c.advance_to_rest.new.tables in
    let rested = c.advance_to_rest.ensures.rested _ stands in
    let comes : ComesToRest c.args.moment state.tables (closed it.0 c.args.bytes_in c.args.bytes_out) (table_states tables) rested.0 =
    subst (λ (ts : List (Named BooksState)). ComesToRest c.args.moment (table_states ts) (closed it.0 c.args.bytes_in c.args.bytes_out) (table_states tables) rested.0) c.as_mut_slice.ensures.value rested.2 in
    let refilled : take c.args.self.now.tables.len (tables ++ drop (length tables) c.args.self.now.tables.items) ≡ tables = grind (arith, common_steps) in
    subst (λ (ts : List (Named BooksState)). Closes c.args.moment c.args.id c.args.bytes_in c.args.bytes_out state c.closed.result (script_state state.setup ts c.take_guest.new.guests.entries)) (sym refilled)
    (closed_guest c.args.moment c.args.id state (table_states tables) c.args.bytes_in c.args.bytes_out c.closed.result c.take_guest.new.guests.entries guest it.0 rested.0 found it.1 comes c.take_guest.ensures.others c.closed.ensures)

pub returns-in_default : goal.returns-in_default
returns-in_default g c =
    let state = script_state c.args.self.now.setup.now c.args.self.now.tables.items c.args.self.now.guests.entries in
    let free : guest_of c.args.id state.guests ≡ None = sym c.take_guest.ensures.taken ∙ c.in_default.is in
    subst (λ o. ClosesAt o c.args.moment c.args.id c.args.bytes_in c.args.bytes_out state c.of.result (script_state state.setup c.args.self.now.tables.items c.take_guest.new.guests.entries)) (sym free)
    (c.of.ensures, ap (λ gs. script_state state.setup c.args.self.now.tables.items gs) (c.take_guest.ensures.others ∙ sym (none_without c.args.id state.guests free)))
