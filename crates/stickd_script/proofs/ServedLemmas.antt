-- Each line keeps what stands before it.
use Rattle.std.proofs.Common.{rules, zero, suc, ◌≡◌, ℕ, ◌+◌, ◌<◌, ◌^◌, nat_eq, refl, sym, ap, subst, ◌∙◌, arith, Option, Some, None, option_map, List, [], ◌∷◌, map, length, slice_get, inl, inr}
use Rattle.std.specs.Prelude.{All}
use Rattle.std.specs.List.{AllByRecursion, IsDistinct}
use Rattle.std.proofs.lemmas.List.{length-map}
use Rattle.std.proofs.lemmas.Option.{slice_get-map}
use Rattle.base_lines.specs.Chain.{Chain}
use Rattle.base_lines.specs.Line.{held}
use Rattle.base_lines.specs.Parts.{is_line_end, parts}
use Rattle.base_lines.specs.Service.{Serves as ServesLine}
use Rattle.rule_addresses.specs.Addresses.{address_of}
use Rattle.rule_addresses.specs.declared.address.Address.{Address}
use Rattle.rule_model.specs.declared.sections.NamedSpec.{NamedSpec}
use Rattle.rule_model.specs.declared.sections.Setup.{Setup}
use Rattle.rule_eval.specs.declared.wants.Samples.{Samples}
use Rattle.admit_core.specs.Connection.{Connection, Progress, arrived, closed, need}
use Rattle.admit_core.specs.Conn.{Stands, progress_of}
use Rattle.admit_core.specs.declared.conn.Conn.{Conn}
use Rattle.admit_core.specs.declared.need.Need.TheVariants.{Rest}
use Rattle.admit_core.specs.declared.need.Phase.TheVariants.{Admitted, Ended}
use Rattle.shard_book.specs.BooksState.{AreBooks}
use Rattle.table_cli.specs.Answers.{commands_of}
use Rattle.admit_drive.specs.Balance.{IsCovered, times_by, times_out}
use Rattle.admit_drive.specs.Lived.{IsLived}
use Rattle.admit_drive.specs.Moves.{ComesToRest}
use Rattle.admit_drive.specs.Tables.{AreTablesOf, CanOpen, IsTableOf, TableState}
use Rattle.shard_port.specs.declared.reference.Reference.{Reference}
use Rattle.admit_drive.proofs.SumLemmas.{some_same}
use Rattle.admit_drive.proofs.KeepingLemmas.{IsKept, rest_kept}
use Rattle.admit_drive.proofs.LivedLemmas.{arrived_lived, closed_lived}
use Rattle.admit_drive.proofs.StartLemmas.{nothing_out, once_out, opened_tables}
use Rattle.stickd_script.specs.Guests.{Guest, IsOpen, IsServed, MayBe, ScriptState, guest_of, id_in, times_held, without}
use Rattle.stickd_script.specs.Laws.{ReferencesLaw}
use Rattle.stickd_script.specs.Script.{Line, Empty, Bad, Commands, Open, Close, ClosesAt, IsJudged, LineSays, OpensAt, OpensFrom, Says, admitted, at_moment, line_of, samples_of}
use Rattle.stickd_script.specs.Start.{start}
use Rattle.stickd_script.proofs.CommandBooks.{HasBooks, commands_leave_books}
use Rattle.stickd_script.proofs.CommandLemmas.{commands_keep, kept_in, out_kept, roll_keeps}
use Rattle.stickd_script.proofs.RollLemmas.{all_kept, books_kept, map_kept}
use Rattle.stickd_script.specs.Rolling.{RecordsRoll}
use Rattle.stickd_script.proofs.GuestLemmas.{all_at, all_with, all_without, distinct_with, distinct_without, sum_with, sum_without}
use Rattle.stickd_script.proofs.EndedLemmas.{EndsEmpty, ended_holds, goes_empty}
use Rattle.stickd_script.proofs.ProgressLemmas.{IsAtRest, goes_bytes, still_rests}
use Rattle.stickd_script.proofs.TimeLemmas.{IsInTime, line_in_time}

same_served : (old new : ScriptState) → new ≡ old → IsServed old → IsServed new
same_served old new same are = subst IsServed (sym same) are

-- ---- commands

tables_kept : (setup : Setup) (old new : List TableState) → map kept_in new ≡ map kept_in old → AllByRecursion HasBooks new → AreTablesOf setup old → AreTablesOf setup new
tables_kept setup old new same books are = record {
  some = are.some;
  count = sym (length-map new kept_in) ∙ ap length same ∙ length-map old kept_in ∙ are.count;
  each = λ i table at.
      let seen : option_map kept_in (slice_get old i) ≡ Some (kept_in table) = sym (slice_get-map kept_in old i) ∙ sym (ap (λ ks. slice_get ks i) same) ∙ slice_get-map kept_in new i ∙ ap (option_map kept_in) at in
      from_old i table at (slice_get old i) refl seen;
}
  where
    from_old : (i : ℕ) (table : TableState) → slice_get new i ≡ Some table → (o : Option TableState) → slice_get old i ≡ o → option_map kept_in o ≡ Some (kept_in table)
        → (named : NamedSpec) × (slice_get setup.tables i ≡ Some named) × IsTableOf setup.shards named table
    from_old i table at None there seen = cc
    from_old i table at (Some before) there seen =
        let found = are.each i before there in
        let kept : kept_in before ≡ kept_in table = some_same (kept_in before) (kept_in table) seen in
        let its_books : AreBooks table.state = books_at new i at books in (
          found.0,
          found.1,
          record {
            spec = sym (ap (λ k. k.0) kept) ∙ found.2.spec;
            in_shards = sym (length-map table.state.books _) ∙ sym (ap (λ k. length k.1) kept) ∙ length-map before.state.books _ ∙ found.2.in_shards;
            books = its_books;
          },
        )
      where
        books_at : (tables : List TableState) (i : ℕ) → slice_get tables i ≡ Some table → AllByRecursion HasBooks tables → AreBooks table.state
        books_at [] i at all = cc
        books_at (first ∷ rest) zero at all = subst HasBooks (some_same first table at) all.0
        books_at (first ∷ rest) (suc i) at all = books_at rest i at all.1

-- the tables of a setup have their books
pub tables_books : (setup : Setup) (tables : List TableState) → AreTablesOf setup tables → AllByRecursion HasBooks tables
tables_books setup tables are = each_has tables (λ i table at. (are.each i table at).2.books)
  where
    each_has : (tables : List TableState) → ((i : ℕ) (table : TableState) → slice_get tables i ≡ Some table → HasBooks table) → AllByRecursion HasBooks tables
    each_has [] each = tt
    each_has (first ∷ rest) each = (each 0 first refl, each_has rest (λ i table at. each (suc i) table at))

-- tables with the same references out, that have their books, stand as well before a script's lines
pub tables_served : (old : ScriptState) (tables : List TableState) → map kept_in tables ≡ map kept_in old.tables → AllByRecursion HasBooks tables → IsServed old → IsServed (record old { tables = tables })
tables_served old tables same books are = record {
  tables = tables_kept old.setup old.tables tables same books are.tables;
  balance = λ reference. are.balance reference ∙ sym (out_kept reference old.tables tables same);
  ids_differ = are.ids_differ;
  open_all = are.open_all;
  judged = are.judged;
}

pub commands_served : (moment : ℕ) (commands : List ℕ) (old : ScriptState) (text : List ℕ) (new : ScriptState) → LineSays (Commands moment commands) old text new → IsServed old → IsServed new
commands_served moment commands old text new says are =
    let same : map kept_in new.tables ≡ map kept_in old.tables = commands_keep (commands_of commands) (at_moment moment old.tables) text (at_moment moment new.tables) says.0 in
    let books : AllByRecursion HasBooks new.tables =
    commands_leave_books (commands_of commands) (at_moment moment old.tables) text (at_moment moment new.tables) (tables_books old.setup old.tables are.tables) says.0 in
    subst IsServed (sym says.1) (tables_served old new.tables same books are)

-- ---- a connection comes

nothing_covered : (tables : List TableState) (setup : Setup) (samples : Samples) → IsCovered tables (arrived setup samples).progress.held
nothing_covered tables setup samples reference = omega arith

abbrev pub IsOf : Setup → Conn Reference → Type 0
IsOf setup guest = (connection : Connection Reference) × MayBe setup guest connection

-- where it rests it is open, and where it has ended it holds nothing
record Added (old : ScriptState) (id : ℕ) (after : Connection Reference) (new : List Guest) : Type 0 where
  pub held : (reference : ℕ × Reference) → times_held reference new ≡ times_held reference old.guests + times_by reference after.progress.held
  pub ids : IsDistinct nat_eq (map id_in new)
  pub open_all : All (λ (guest : Guest). IsOpen guest.1) new
  pub judged : All (λ (guest : Guest). IsOf old.setup guest.1) new

added : (old : ScriptState) (id : ℕ) (conn : Conn Reference) (after : Connection Reference) → IsServed old → guest_of id old.guests ≡ None → Stands conn after → after.setup ≡ old.setup → IsLived after → EndsEmpty after.progress
    → IsAtRest after.progress → Added old id after (admitted after.progress.phase id conn old.guests)
added old id conn after are free stands judged lived empty rests = elim rests [
  | inl ended ↦ subst (λ p. Added old id after (admitted p id conn old.guests)) (sym ended) (record {
    held = λ reference.
        let none : ◌≡◌ {A = ℕ} (times_by reference after.progress.held) 0 = ended_holds after.progress reference empty ended in
        omega (arith, none);
    ids = are.ids_differ;
    open_all = are.open_all;
    judged = are.judged;
  })
  | inr stays ↦ subst (λ p. Added old id after (admitted p id conn old.guests)) (sym stays.0) (record {
    held = λ reference.
        let same : ◌≡◌ {A = ℕ} (times_by reference (progress_of conn).held) (times_by reference after.progress.held) = ap (λ (p : Progress Reference). times_by reference p.held) stands.progress in
        omega (arith, same, sum_with id conn (λ (c : Conn Reference). times_by reference (progress_of c).held) old.guests free);
    ids = distinct_with id conn old.guests free are.ids_differ;
    open_all = all_with id conn IsOpen old.guests are.open_all (record {
      phase = ap (λ (p : Progress Reference). p.phase) stands.progress ∙ stays.0;
      bytes = ap (λ (p : Progress Reference). p.bytes) stands.progress ∙ stays.1;
      given = ap (λ (p : Progress Reference). p.given) stands.progress ∙ lived.given;
    });
    judged = all_with id conn (IsOf old.setup) old.guests are.judged (after, record { judged_by = judged; stands = stands; lived = lived });
  })
]

judged_served : (moment id : ℕ) (samples : Samples) (old : ScriptState) (text : List ℕ) (new : ScriptState) → moment < 2 ^ 62 → guest_of id old.guests ≡ None → IsJudged moment id samples old text new → IsServed old → IsServed new
judged_served moment id samples old text new timely free judged are =
    let connection : Connection Reference = arrived old.setup samples in
    let conn : Conn Reference = judged.0 in
    let after : Connection Reference = judged.1 in
    let comes : ComesToRest moment old.tables connection new.tables after = judged.3 in
    let kept : IsKept old.setup old.tables connection new.tables after =
    rest_kept moment old.setup old.tables connection new.tables after timely are.tables (nothing_covered old.tables old.setup samples) (arrived_lived old.setup samples) comes in
    let guests : List Guest = admitted after.progress.phase id conn old.guests in
    let more : Added old id after guests = added old id conn after are free judged.2 kept.same.setup kept.same.lived (goes_empty moment comes.count old.tables connection new.tables after (λ new. absurd (cc)) comes.goes) (still_rests after kept.same.lived.given comes.still) in
    let now : ScriptState = record old { tables = new.tables; guests = guests } in
    let served : IsServed now = record {
      tables = kept.tables;
      balance = λ reference.
          let before : ◌≡◌ {A = ℕ} (times_held reference old.guests) (times_out reference old.tables) = are.balance reference in
          let none : ◌≡◌ {A = ℕ} (times_by reference connection.progress.held) 0 = refl in
          let moved : ◌≡◌ {A = ℕ} (times_by reference after.progress.held + times_out reference old.tables) (times_by reference connection.progress.held + times_out reference new.tables) = kept.balance reference in
          omega (arith, before, none, moved, more.held reference);
      ids_differ = more.ids;
      open_all = more.open_all;
      judged = more.judged;
    } in
    subst IsServed (sym judged.4) served

opens_served : (found : Option (Conn Reference)) (moment id : ℕ) (source : Address) (port : ℕ) (old : ScriptState) (text : List ℕ) (new : ScriptState) → moment < 2 ^ 62 → guest_of id old.guests ≡ found
    → OpensAt found moment id source port old text new → IsServed old → IsServed new
opens_served (Some guest) moment id source port old text new timely is opens are = same_served old new opens.1 are
opens_served None moment id source port old text new timely is opens are = elim opens [
  | inl judged ↦ judged_served moment id (samples_of old.setup source port) old text new timely is judged are
  | inr short ↦ same_served old new short.1 are
]

opens_from-served : (source : Option Address) (moment id port : ℕ) (old : ScriptState) (text : List ℕ) (new : ScriptState) → moment < 2 ^ 62 → OpensFrom source moment id port old text new → IsServed old → IsServed new
opens_from-served None moment id port old text new timely opens are = same_served old new opens.1 are
opens_from-served (Some source) moment id port old text new timely opens are = opens_served (guest_of id old.guests) moment id source port old text new timely refl opens are

-- ---- a connection goes

-- what an open connection holds is out
pub guest_covered : (state : ScriptState) (id : ℕ) (guest : Conn Reference) → guest_of id state.guests ≡ Some guest → IsServed state → IsCovered state.tables (progress_of guest).held
guest_covered state id guest found are reference =
    let all : ◌≡◌ {A = ℕ} (times_held reference (without id state.guests) + times_by reference (progress_of guest).held) (times_held reference state.guests) =
    sum_without id (λ (c : Conn Reference). times_by reference (progress_of c).held) state.guests guest found in
    let out : ◌≡◌ {A = ℕ} (times_held reference state.guests) (times_out reference state.tables) = are.balance reference in
    omega (arith, all, out)

-- one that is open rests
pub open_rests : (connection : Connection Reference) → connection.progress.phase ≡ Admitted → connection.progress.bytes ≡ None → connection.progress.given ≡ None → need connection ≡ Rest
unfolding Rattle.admit_core.specs.Connection.need_of
open_rests connection phase bytes given =
    ap (λ g. Rattle.admit_core.specs.Connection.need_given g (Rattle.admit_core.specs.Connection.asks connection) connection.progress) given
    ∙ ap (λ p. Rattle.admit_core.specs.Connection.need_in p (Rattle.admit_core.specs.Connection.asks connection) connection.progress) phase
    ∙ ap (λ b. Rattle.admit_core.specs.Connection.closing b connection.progress) bytes

-- once it is closed and rests no more, it has ended
closed_ends : (after : Connection Reference) (bytes : ℕ × ℕ) → after.progress.bytes ≡ Some bytes → IsAtRest after.progress → after.progress.phase ≡ Ended
closed_ends after bytes had rests = elim rests [ inl ended ↦ ended | inr stays ↦ absurd (none_some (sym stays.1 ∙ had)) ]
  where
    none_some : {X : Type 0} {x : X} → None ≡ Some x → ⊥
    none_some e = cc

admitted_ended : Admitted ≡ Ended → ⊥
admitted_ended is = cc

closes_served : (found : Option (Conn Reference)) (moment id bytes_in bytes_out : ℕ) (old : ScriptState) (text : List ℕ) (new : ScriptState) → moment < 2 ^ 62 → guest_of id old.guests ≡ found
    → ClosesAt found moment id bytes_in bytes_out old text new → IsServed old → IsServed new
closes_served None moment id bytes_in bytes_out old text new timely is closes are = same_served old new closes.1 are
closes_served (Some guest) moment id bytes_in bytes_out old text new timely is closes are =
    let connection : Connection Reference = closes.0 in
    let after : Connection Reference = closes.1 in
    let it : MayBe old.setup guest connection = closes.2 in
    let comes : ComesToRest moment old.tables (closed connection bytes_in bytes_out) new.tables after = closes.3 in
    let same : connection.progress ≡ progress_of guest = sym it.stands.progress in
    let stays : IsOpen guest = all_at id IsOpen old.guests guest is are.open_all in
    let phase : connection.progress.phase ≡ Admitted = ap (λ (p : Progress Reference). p.phase) same ∙ stays.phase in
    let kept : IsKept old.setup old.tables (closed connection bytes_in bytes_out) new.tables after =
    rest_kept moment old.setup old.tables (closed connection bytes_in bytes_out) new.tables after timely are.tables
    (subst (λ (p : Progress Reference). IsCovered old.tables p.held) (sym same) (guest_covered old id guest is are)) (closed_lived connection bytes_in bytes_out it.lived) comes in
    let empty : EndsEmpty after.progress = goes_empty moment comes.count old.tables (closed connection bytes_in bytes_out) new.tables after (λ ended. absurd (admitted_ended (sym phase ∙ ended))) comes.goes in
    let had : after.progress.bytes ≡ Some (bytes_in, bytes_out) = goes_bytes moment comes.count old.tables (closed connection bytes_in bytes_out) new.tables after comes.goes in
    let ended : after.progress.phase ≡ Ended = closed_ends after (bytes_in, bytes_out) had (still_rests after kept.same.lived.given comes.still) in
    let now : ScriptState = record old { tables = new.tables; guests = without id old.guests } in
    let served : IsServed now = record {
      tables = kept.tables;
      balance = λ reference.
          let all : ◌≡◌ {A = ℕ} (times_held reference (without id old.guests) + times_by reference (progress_of guest).held) (times_held reference old.guests) =
          sum_without id (λ (c : Conn Reference). times_by reference (progress_of c).held) old.guests guest is in
          let out : ◌≡◌ {A = ℕ} (times_held reference old.guests) (times_out reference old.tables) = are.balance reference in
          let held_then : ◌≡◌ {A = ℕ} (times_by reference connection.progress.held) (times_by reference (progress_of guest).held) = ap (λ (p : Progress Reference). times_by reference p.held) same in
          let held_now : ◌≡◌ {A = ℕ} (times_by reference after.progress.held) 0 = ended_holds after.progress reference empty ended in
          let moved : ◌≡◌ {A = ℕ} (times_by reference after.progress.held + times_out reference old.tables) (times_by reference connection.progress.held + times_out reference new.tables) = kept.balance reference in
          omega (arith, all, out, held_then, held_now, moved);
      ids_differ = distinct_without id old.guests are.ids_differ;
      open_all = all_without id IsOpen old.guests are.open_all;
      judged = all_without id (IsOf old.setup) old.guests are.judged;
    } in
    subst IsServed (sym closes.4) served

-- ---- lines

pub line_served : (line : Line) (old : ScriptState) (text : List ℕ) (new : ScriptState) → IsInTime line → LineSays line old text new → IsServed old → IsServed new
line_served Empty old text new timely says are = same_served old new says.1 are
line_served Bad old text new timely says are = same_served old new says.1 are
line_served (Commands moment commands) old text new timely says are = commands_served moment commands old text new says are
line_served (Open moment id address port) old text new timely says are = opens_from-served (address_of address) moment id port old text new timely says are
line_served (Close moment id bytes_in bytes_out) old text new timely says are = closes_served (guest_of id old.guests) moment id bytes_in bytes_out old text new timely refl says are

-- what stands behind what a line says, stands behind the rolls too
pub rolls_served : (said new : ScriptState) → RecordsRoll said new → IsServed said → IsServed new
rolls_served said new rolls are =
    let same : map kept_in new.tables ≡ map kept_in said.tables = map_kept kept_in roll_keeps said.tables new.tables rolls.tables in
    let books : AllByRecursion HasBooks new.tables = all_kept books_kept said.tables new.tables rolls.tables (tables_books said.setup said.tables are.tables) in
    let now : ScriptState = record said { tables = new.tables } in
    let served : IsServed now = record {
      tables = tables_kept said.setup said.tables new.tables same books are.tables;
      balance = λ reference. are.balance reference ∙ sym (out_kept reference said.tables new.tables same);
      ids_differ = are.ids_differ;
      open_all = are.open_all;
      judged = are.judged;
    } in
    subst IsServed (sym rolls.others) served

pub says_served : (line : Option (List ℕ)) (old : ScriptState) (text : List ℕ) (new : ScriptState) → Says old line text new → IsServed old → IsServed new
says_served line old text new says are = rolls_served says.0 new says.2 (line_served (line_of line) old text says.0 (line_in_time line) says.1 are)

lines_served : (old : ScriptState) (lines : List (List ℕ)) (text : List ℕ) (new : ScriptState) → IsServed old → Chain (ServesLine Says) old lines text new → IsServed new
lines_served old [] text new are chain = same_served old new chain.1 are
lines_served old (line ∷ lines) text new are chain =
    lines_served chain.1 lines chain.2 new (says_served (held line) old chain.0 chain.1 chain.3 are) chain.4

pub start_served : (setup : Setup) → CanOpen setup → IsServed (start setup)
unfolding IsDistinct
start_served setup can =
    record { tables = opened_tables setup can; balance = λ reference. sym (nothing_out setup reference); ids_differ = tt; open_all = search rules; judged = search rules }

-- ---- the law

pub references_law : ReferencesLaw
references_law setup script output new can served =
    let are : IsServed new = lines_served (start setup) (parts is_line_end script) output new (start_served setup can) served in
    record { balance = are.balance; once = λ reference. once_out new.setup new.tables reference are.tables; ids_differ = are.ids_differ }
