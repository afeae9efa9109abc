-- Whatever the schedule, the references that are out are those that connections hold.
use Rattle.std.proofs.Common.{◌≡◌, ⊎_elim, ℕ, ◌+◌, ◌<◌, ◌^◌, refl, sym, ap, subst, ◌∙◌, arith, Bool, List, [], ◌∷◌, length, map, sum_by, slice_get, slice_set, Some}
use Rattle.std.proofs.lemmas.List.Elements.{All-head, All-tail}
use Rattle.std.proofs.lemmas.List.Sums.{sum_by-cons}
use Rattle.rule_model.specs.declared.sections.Setup.{Setup}
use Rattle.admit_core.specs.Connection.{Connection, arrived, need}
use Rattle.admit_core.specs.declared.need.Need.{Need}
use Rattle.admit_core.specs.declared.need.Need.TheVariants as needs
use Rattle.admit_drive.specs.Balance.{IsCovered, times_by, times_out}
use Rattle.admit_world.specs.Balance.{times_held}
use Rattle.admit_drive.specs.Lived.{IsLived}
use Rattle.admit_drive.specs.Tables.{AreTablesOf, CanOpen}
use Rattle.admit_world.specs.World.{Element, Elements, IsSchedule, WorldState, begun, unless_resting, woken}
use Rattle.shard_port.specs.declared.reference.Reference.{Reference}
use Rattle.admit_world.specs.declared.visit.Visit.{Visit}
use Rattle.admit_drive.proofs.StartLemmas.{from_map, nothing_out, opened_tables}
use Rattle.admit_drive.proofs.SumLemmas.{sum_at, sum_set}
use Rattle.admit_drive.proofs.TablesLemmas.{get_after_set}
use Rattle.admit_drive.proofs.KeepingLemmas.{IsKept, move_kept}
use Rattle.admit_drive.proofs.LivedLemmas.{arrived_lived, closed_lived}

-- the tables are those of the setup, each connection is judged by it, and as much is held as is out
pub record IsWorld (setup : Setup) (world : WorldState) : Type 0 where
  pub tables : AreTablesOf setup world.tables
  pub balance : (reference : ℕ × Reference) → times_held reference world.connections ≡ times_out reference world.tables
  pub each : (i : ℕ) (connection : Connection Reference) → slice_get world.connections i ≡ Some connection → IsLived connection × (connection.setup ≡ setup)

-- ---- one that rests is closed

pub record IsWoken (connection awake : Connection Reference) : Type 0 where
  pub held : awake.progress.held ≡ connection.progress.held
  pub setup : awake.setup ≡ connection.setup
  pub samples : awake.samples ≡ connection.samples
  pub answers : awake.answers ≡ connection.answers
  pub phase : awake.progress.phase ≡ connection.progress.phase
  pub lived : IsLived awake

pub woken_same : (visit : Visit) (connection : Connection Reference) → IsLived connection → IsWoken connection (woken visit connection)
woken_same visit connection lived = by (need connection)
  where
    stays : IsWoken connection connection
    stays = record { held = refl; setup = refl; samples = refl; answers = refl; phase = refl; lived = lived }

    by : (wanted : Need) → IsWoken connection (unless_resting visit connection wanted)
    by needs.Rest = record { held = refl; setup = refl; samples = refl; answers = refl; phase = refl; lived = closed_lived connection visit.bytes_in visit.bytes_out lived }
    by (needs.Get table key) = stays
    by (needs.Track slot table key) = stays
    by (needs.Look slot) = stays
    by (needs.Count slot act) = stays
    by (needs.Release slot) = stays
    by needs.Turn = stays
    by needs.Finished = stays

-- ---- one goes on

moved_sum : (sum later was is out now_out : ℕ) → later + was ≡ sum + is → is + out ≡ was + now_out → sum ≡ out → later ≡ now_out
moved_sum sum later was is out now_out set balance before = omega (arith, set, balance, before)

module _ (setup : Setup) (visits : List Visit) (old new : WorldState) (element : ℕ × ℕ) (was_refused : Bool) (goes : Element visits old element new was_refused) (before : IsWorld setup old) (moment : element.1 < 2 ^ 62) where
  pub awake : IsWoken goes.connection (woken goes.visit goes.connection)
  awake = woken_same goes.visit goes.connection (before.each element.0 goes.connection goes.is_it).0

  pub covered : IsCovered old.tables (woken goes.visit goes.connection).progress.held
  covered reference =
      let here : times_by reference (woken goes.visit goes.connection).progress.held ≡ times_by reference goes.connection.progress.held = ap (times_by reference) awake.held in
      omega (arith, here, before.balance reference, sum_at (λ (connection : Connection Reference). times_by reference connection.progress.held) old.connections element.0 goes.connection goes.is_it)

  pub kept : IsKept setup old.tables (woken goes.visit goes.connection) new.tables goes.after
  kept = move_kept element.1 setup old.tables (woken goes.visit goes.connection) new.tables goes.after was_refused moment before.tables covered awake.lived goes.moves

  pub element_world : IsWorld setup new
  element_world = record {
    tables = kept.tables;
    balance = λ reference.
        let f : Connection Reference → ℕ = λ (connection : Connection Reference). times_by reference connection.progress.held in
        let here : times_by reference (woken goes.visit goes.connection).progress.held ≡ times_by reference goes.connection.progress.held = ap (times_by reference) awake.held in
        ap (sum_by f) goes.others
        ∙ moved_sum (sum_by f old.connections) (sum_by f (slice_set old.connections element.0 goes.after)) (times_by reference goes.connection.progress.held) (times_by reference goes.after.progress.held) (times_out reference old.tables) (times_out reference new.tables)
        (sum_set f old.connections element.0 goes.after goes.connection goes.is_it) (kept.balance reference ∙ ap (λ n. n + times_out reference new.tables) here) (before.balance reference);
    each = λ i connection at.
        ⊎_elim {C = IsLived connection × (connection.setup ≡ setup)}
        (λ (here : (i ≡ element.0) × (connection ≡ goes.after)).
        (subst IsLived (sym here.1) kept.same.lived, ap (λ (c : Connection Reference). c.setup) here.1 ∙ kept.same.setup ∙ awake.setup ∙ (before.each element.0 goes.connection goes.is_it).1))
        (λ (there : slice_get old.connections i ≡ Some connection). before.each i connection there)
        (get_after_set old.connections element.0 i goes.after connection (ap (λ cs. slice_get cs i) (sym goes.others) ∙ at));
  }

pub elements_world : (setup : Setup) (visits : List Visit) (old : WorldState) (schedule : List (ℕ × ℕ)) (new : WorldState) (count : ℕ) → IsSchedule (length visits) schedule → Elements visits old schedule new count → IsWorld setup old → IsWorld setup new
elements_world setup visits old [] new count is goes before = subst (IsWorld setup) (sym goes.0) before
elements_world setup visits old (element ∷ more) new count is goes before =
    let first = All-head (λ (e : ℕ × ℕ). (e.0 < length visits) × (e.1 < 2 ^ 62)) element more is in
    let rest = All-tail (λ (e : ℕ × ℕ). (e.0 < length visits) × (e.1 < 2 ^ 62)) element more is in
    elements_world setup visits goes.0 more new goes.2 rest goes.4 (element_world setup visits old goes.0 element goes.1 goes.3 before first.1)

-- ---- the start

none_held : (reference : ℕ × Reference) (setup : Setup) (visits : List Visit) → times_held reference (map (λ (visit : Visit). arrived setup visit.samples) visits) ≡ 0
none_held reference setup [] = refl
none_held reference setup (visit ∷ more) =
    omega (
      arith,
      none_held reference setup more,
      sum_by-cons (λ (connection : Connection Reference). times_by reference connection.progress.held) (arrived setup visit.samples) (map (λ (v : Visit). arrived setup v.samples) more),
    )

pub begun_world : (setup : Setup) (visits : List Visit) → CanOpen setup → IsWorld setup (begun setup visits)
begun_world setup visits opens = record {
  tables = opened_tables setup opens;
  balance = λ reference. none_held reference setup visits ∙ sym (nothing_out setup reference);
  each = λ i connection at.
      let from = from_map (λ (visit : Visit). arrived {R = Reference} setup visit.samples) visits i connection at in
      (subst IsLived (sym from.2) (arrived_lived setup from.0.samples), ap (λ (c : Connection Reference). c.setup) from.2);
}
