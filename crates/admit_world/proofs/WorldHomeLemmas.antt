-- Whatever the schedule, the references that are out of a shard are of keys that lie on it.
use Rattle.std.proofs.Common.{◌≡◌, ℕ, ◌<◌, ◌^◌, sym, ap, subst, ◌∙◌, Bool, List, [], ◌∷◌, length}
use Rattle.std.proofs.lemmas.List.Elements.{All-head, All-tail}
use Rattle.rule_model.specs.declared.sections.Setup.{Setup}
use Rattle.admit_core.specs.Connection.{need}
use Rattle.admit_drive.specs.Tables.{CanOpen}
use Rattle.admit_world.specs.World.{Element, Elements, IsSchedule, WorldState, begun, woken}
use Rattle.admit_world.specs.declared.visit.Visit.{Visit}
use Rattle.admit_world.proofs.WorldLemmas.{IsWoken, IsWorld, awake, begun_world, element_world}
use Rattle.admit_drive.specs.Laws.{AreHome, IsHome}
use Rattle.admit_drive.proofs.HomeLemmas.{moved_home, no_home, none_out}

element_home : (setup : Setup) (visits : List Visit) (old new : WorldState) (element : ℕ × ℕ) (was_refused : Bool) → (goes : Element visits old element new was_refused) → IsWorld setup old → element.1 < 2 ^ 62 → AreHome setup.shards old.tables → AreHome setup.shards new.tables
element_home setup visits old new element was_refused goes before moment are =
    let is_woken : IsWoken goes.connection (woken goes.visit goes.connection) = awake setup visits old new element was_refused goes before moment in
    let ours : (woken goes.visit goes.connection).setup.shards ≡ setup.shards = ap (λ (s : Setup). s.shards) (is_woken.setup ∙ (before.each element.0 goes.connection goes.is_it).1) in
    moved_home setup.shards old.tables new.tables (woken goes.visit goes.connection) goes.after are ours element.1 (need (woken goes.visit goes.connection)) was_refused goes.moves

elements_home : (setup : Setup) (visits : List Visit) (old : WorldState) (schedule : List (ℕ × ℕ)) (new : WorldState) (count : ℕ) → IsSchedule (length visits) schedule → Elements visits old schedule new count → IsWorld setup old → AreHome setup.shards old.tables
    → IsWorld setup new × AreHome setup.shards new.tables
elements_home setup visits old [] new count is goes before are = (subst (IsWorld setup) (sym goes.0) before, subst (λ (w : WorldState). AreHome setup.shards w.tables) (sym goes.0) are)
elements_home setup visits old (element ∷ more) new count is goes before are =
    let one = All-head (λ (e : ℕ × ℕ). (e.0 < length visits) × (e.1 < 2 ^ 62)) element more is in
    let rest = All-tail (λ (e : ℕ × ℕ). (e.0 < length visits) × (e.1 < 2 ^ 62)) element more is in
    elements_home setup visits goes.0 more new goes.2 rest goes.4 (element_world setup visits old goes.0 element goes.1 goes.3 before one.1)
    (element_home setup visits old goes.0 element goes.1 goes.3 before one.1 are)

-- ---- the start

pub begun_home : (setup : Setup) (visits : List Visit) → AreHome setup.shards (begun setup visits).tables
begun_home setup visits table part live at = subst (IsHome setup.shards part) (none_out setup.shards setup.tables table part live at) (no_home setup.shards part)

-- wherever a schedule leads to
pub world_home : (setup : Setup) (visits : List Visit) (schedule : List (ℕ × ℕ)) (world : WorldState) (count : ℕ) → CanOpen setup → IsSchedule (length visits) schedule → Elements visits (begun setup visits) schedule world count → IsWorld setup world × AreHome setup.shards world.tables
world_home setup visits schedule world count opens is goes = elements_home setup visits (begun setup visits) schedule world count is goes (begun_world setup visits opens) (begun_home setup visits)
