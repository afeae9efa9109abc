-- A schedule in which nothing is refused leads to one world, but for the slots of its references.
use Rattle.std.proofs.Common.{◌≡◌, ℕ, zero, suc, ◌+◌, ◌<◌, ◌^◌, refl, sym, ap, subst, ◌∙◌, arith, Bool, true, false, cond, List, [], ◌∷◌, length, map, slice_get, slice_set, Some}
use Rattle.std.specs.Prelude.{option_map}
use Rattle.std.proofs.lemmas.List.Elements.{All-head, All-tail}
use Rattle.std.proofs.lemmas.Option.{slice_get-map}
use Rattle.stick_model.specs.State.{State}
use Rattle.rule_model.specs.declared.sections.Setup.{Setup}
use Rattle.admit_core.specs.Connection.{Connection, need}
use Rattle.admit_core.specs.declared.need.Need.{Need}
use Rattle.admit_core.specs.declared.need.Need.TheVariants as needs
use Rattle.admit_world.specs.Alike.{OneWorldLaw}
use Rattle.admit_drive.specs.Tables.{shard_at}
use Rattle.admit_world.specs.World.{Element, Elements, IsSchedule, WorldState, begun, unless_resting, woken}
use Rattle.shard_port.specs.declared.reference.Reference.{Reference}
use Rattle.admit_world.specs.declared.visit.Visit.{Visit}
use Rattle.admit_drive.proofs.SumLemmas.{some_same}
use Rattle.admit_drive.proofs.PlainConnectionLemmas.{need_plain, plain_connection}
use Rattle.admit_world.proofs.WorldLemmas.{IsWorld, begun_world, element_world}
use Rattle.admit_drive.proofs.OneMoveLemmas.{IsOne, Moved, SameView, moved_once, move_plain, records_plain, view}

-- ---- an element

woken_plain : (visit : Visit) (connection : Connection Reference) → plain_connection (woken visit connection) ≡ woken visit (plain_connection connection)
woken_plain visit connection = by (need connection) ∙ ap (unless_resting visit (plain_connection connection)) (sym (need_plain connection))
  where
    by : (wanted : Need) → plain_connection (unless_resting visit connection wanted) ≡ unless_resting visit (plain_connection connection) wanted
    by needs.Rest = refl
    by needs.Turn = refl
    by needs.Finished = refl
    by (needs.Get table key) = refl
    by (needs.Track slot table key) = refl
    by (needs.Look slot) = refl
    by (needs.Count slot act) = refl
    by (needs.Release slot) = refl

map_set : {X Y : Type 0} (f : X → Y) (xs : List X) (i : ℕ) (x : X) → map f (slice_set xs i x) ≡ slice_set (map f xs) i (f x)
map_set f [] i x = refl
map_set f (y ∷ ys) zero x = refl
map_set f (y ∷ ys) (suc i) x = ap (λ rest. f y ∷ rest) (map_set f ys i x)

-- two worlds, without slots
record AreOne (one other : WorldState) : Type 0 where
  pub shards : SameView (view one.tables) (view other.tables)
  pub connections : map plain_connection one.connections ≡ map plain_connection other.connections

element_one : (setup : Setup) (visits : List Visit) (element : ℕ × ℕ) (one other first second : WorldState) → IsWorld setup one → IsWorld setup other → AreOne one other → Element visits one element first false → Element visits other element second false → AreOne first second
element_one setup visits element one other first second stands again alike a b =
    let visit : a.visit ≡ b.visit = some_same a.visit b.visit (sym a.visits_it ∙ b.visits_it) in
    let at_one : slice_get (map plain_connection one.connections) element.0 ≡ Some (plain_connection a.connection) = slice_get-map plain_connection one.connections element.0 ∙ ap (option_map plain_connection) a.is_it in
    let at_other : slice_get (map plain_connection other.connections) element.0 ≡ Some (plain_connection b.connection) = slice_get-map plain_connection other.connections element.0 ∙ ap (option_map plain_connection) b.is_it in
    let same : plain_connection a.connection ≡ plain_connection b.connection = some_same (plain_connection a.connection) (plain_connection b.connection) (sym at_one ∙ ap (λ cs. slice_get cs element.0) alike.connections ∙ at_other) in
    let mover : plain_connection (woken b.visit b.connection) ≡ plain_connection (woken a.visit a.connection) =
    woken_plain b.visit b.connection ∙ sym (λ k. woken (visit k) (same k)) ∙ sym (woken_plain a.visit a.connection) in
    let moved_a = move_plain setup element.1 one.tables first.tables (woken a.visit a.connection) a.after stands.tables a.moves in
    let moved_b = move_plain setup element.1 other.tables second.tables (woken b.visit b.connection) b.after again.tables b.moves in
    let leads : IsOne (plain_connection a.after) (plain_connection b.after) (view first.tables) (view second.tables) =
    moved_once element.1 (plain_connection (woken a.visit a.connection)) (plain_connection a.after) (plain_connection b.after) (view one.tables) (view other.tables) (view first.tables) (view second.tables) alike.shards moved_a
    (subst (λ (c : Connection Reference). Moved element.1 (view other.tables) c (view second.tables) (plain_connection b.after)) mover moved_b) in
    record {
      shards = leads.view_is;
      connections = ap (map plain_connection) a.others ∙ map_set plain_connection one.connections element.0 a.after ∙ (λ k. slice_set (alike.connections k) element.0 (leads.later k))
          ∙ sym (map_set plain_connection other.connections element.0 b.after) ∙ sym (ap (map plain_connection) b.others);
    }

-- ---- one after another

none_refused : (was_refused : Bool) (rest : ℕ) → 0 ≡ cond was_refused 1 0 + rest → (was_refused ≡ false) × (0 ≡ rest)
none_refused true rest is = absurd (omega (arith, is))
none_refused false rest is = (refl, omega (arith, is))

elements_one : (setup : Setup) (visits : List Visit) (schedule : List (ℕ × ℕ)) (one other first second : WorldState) (m n : ℕ) → IsSchedule (length visits) schedule → IsWorld setup one → IsWorld setup other → AreOne one other → 0 ≡ m → 0 ≡ n
    → Elements visits one schedule first m → Elements visits other schedule second n → AreOne first second
elements_one setup visits [] one other first second m n is stands again alike none_m none_n a b = subst (λ (w : WorldState). AreOne w second) (sym a.0) (subst (AreOne one) (sym b.0) alike)
elements_one setup visits (element ∷ more) one other first second m n is stands again alike none_m none_n a b =
    let here = All-head (λ (e : ℕ × ℕ). (e.0 < length visits) × (e.1 < 2 ^ 62)) element more is in
    let rest = All-tail (λ (e : ℕ × ℕ). (e.0 < length visits) × (e.1 < 2 ^ 62)) element more is in
    let free_a = none_refused a.1 a.2 (none_m ∙ a.5) in
    let free_b = none_refused b.1 b.2 (none_n ∙ b.5) in
    let step_a : Element visits one element a.0 false = subst (Element visits one element a.0) free_a.0 a.3 in
    let step_b : Element visits other element b.0 false = subst (Element visits other element b.0) free_b.0 b.3 in
    elements_one setup visits more a.0 b.0 first second a.2 b.2 rest (element_world setup visits one a.0 element a.1 a.3 stands here.1) (element_world setup visits other b.0 element b.1 b.3 again here.1)
    (element_one setup visits element one other a.0 b.0 stands again alike step_a step_b) free_a.1 free_b.1 a.4 b.4

-- ---- what is seen of them

answers_plain : (connections : List (Connection Reference)) → map (λ (c : Connection Reference). c.answers) (map plain_connection connections) ≡ map (λ (c : Connection Reference). c.answers) connections
answers_plain [] = refl
answers_plain (c ∷ more) = ap (λ rest. c.answers ∷ rest) (answers_plain more)

phases_plain : (connections : List (Connection Reference)) → map (λ (c : Connection Reference). c.progress.phase) (map plain_connection connections) ≡ map (λ (c : Connection Reference). c.progress.phase) connections
phases_plain [] = refl
phases_plain (c ∷ more) = ap (λ rest. c.progress.phase ∷ rest) (phases_plain more)

pub one_world_law : OneWorldLaw
one_world_law setup visits schedule one other opens is goes again =
    let begins = begun_world setup visits opens in
    let same = elements_one setup visits schedule (begun setup visits) (begun setup visits) one other 0 0 is begins begins (record { shards = λ table part. refl; connections = refl }) refl refl goes again in
    record {
      answers = sym (answers_plain one.connections) ∙ ap (map (λ (c : Connection Reference). c.answers)) same.connections ∙ answers_plain other.connections;
      phases = sym (phases_plain one.connections) ∙ ap (map (λ (c : Connection Reference). c.progress.phase)) same.connections ∙ phases_plain other.connections;
      records = λ table part. sym (records_plain (shard_at one.tables table part)) ∙ ap (option_map (λ (s : State). s.records)) (same.shards table part) ∙ records_plain (shard_at other.tables table part);
    }
