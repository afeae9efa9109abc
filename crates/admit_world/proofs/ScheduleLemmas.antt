-- A world begins, and goes on by one element more.
use Rattle.std.proofs.Common.{◌≡◌, ℕ, suc, ◌+◌, ◌<◌, ◌^◌, refl, sym, ap, subst, ◌∙◌, arith, Bool, cond, List, [], ◌∷◌, ◌++◌, length, map, take, get_or, slice_get, Option, Some, None, rules}
use Rattle.std.proofs.lemmas.List.Elements.{All-push}
use Rattle.std.proofs.lemmas.Option.{slice_get-get_or}
use Rattle.rule_model.specs.declared.sections.Setup.{Setup}
use Rattle.shard_book.specs.BooksState.{BooksState}
use Rattle.shard_book.specs.declared.named.Named.{Named}
use Rattle.admit_core.specs.Conn.{progress_of, Stands}
use Rattle.admit_core.specs.Connection.{Connection, arrived}
use Rattle.admit_drive.specs.Tables.{CanOpen, HasShard, TableState, empty_tables, table_states}
use Rattle.admit_world.specs.World.{Element, Elements, WorldState, begun}
use Rattle.admit_world.specs.WorldCode.{AreVisitors, IsReached, StandsFor, WorldView, world_view}
use Rattle.admit_world.specs.declared.visitor.Visitor.{Visitor}
use Rattle.shard_port.specs.declared.reference.Reference.{Reference}
use Rattle.admit_world.specs.declared.visit.Visit.{Visit}
use Rattle.admit_drive.proofs.SumLemmas.{get_within, some_same}
use Rattle.admit_world.proofs.RunLemmas.{visitor_at}
use Rattle.admit_world.proofs.WorldLemmas.{IsWorld, begun_world, elements_world}

-- ---- the start

abbrev pub come : Setup → Visit → Connection Reference
come setup visit = arrived setup visit.samples

pub visitors_push : (setup : Setup) (visitors : List Visitor) (visits : List Visit) (visitor : Visitor) (visit : Visit) → AreVisitors visitors visits (map (come setup) visits) → visitor.visit ≡ visit → Stands visitor.conn (come setup visit)
    → AreVisitors (visitors ++ visitor ∷ []) (visits ++ visit ∷ []) (map (come setup) (visits ++ visit ∷ []))
visitors_push setup [] [] visitor visit are same stands = (same, stands, tt)
visitors_push setup [] (v ∷ visits) visitor visit are same stands = absurd are
visitors_push setup (g ∷ visitors) [] visitor visit are same stands = absurd are
visitors_push setup (g ∷ visitors) (v ∷ visits) visitor visit are same stands = (are.0, are.1, visitors_push setup visitors visits visitor visit are.2 same stands)

-- one visit more
pub visitors_more : (setup : Setup) (visits : List Visit) (i : ℕ) (old new : List Visitor) (visitor : Visitor) (visit : Visit) → AreVisitors old (take i visits) (map (come setup) (take i visits)) → take (i + 1) visits ≡ take i visits ++ visit ∷ []
    → new ≡ old ++ visitor ∷ [] → visitor.visit ≡ visit → Stands visitor.conn (come setup visit) → AreVisitors new (take (i + 1) visits) (map (come setup) (take (i + 1) visits))
visitors_more setup visits i old new visitor visit are more pushed same stands =
    subst (λ (vs : List Visit). AreVisitors new vs (map (come setup) vs)) (sym more)
    (subst (λ (gs : List Visitor). AreVisitors gs (take i visits ++ visit ∷ []) (map (come setup) (take i visits ++ visit ∷ []))) (sym pushed) (visitors_push setup old (take i visits) visitor visit are same stands))

pub begun_stands : (setup : Setup) (visits : List Visit) (tables : List (Named BooksState)) (visitors : List Visitor) → table_states tables ≡ empty_tables setup → AreVisitors visitors visits (map (come setup) visits) → StandsFor (world_view setup tables visitors) visits (begun setup visits)
begun_stands setup visits tables visitors opened are = record { tables_are = opened; visitors_are = are }

pub begun_reached : (view : WorldView) (visits : List Visit) → CanOpen view.setup → StandsFor view visits (begun view.setup visits) → IsReached view
begun_reached view visits opens stands =
    record { visits = visits; schedule = []; world = begun view.setup visits; count = 0; opens = opens; scheduled = search rules; goes = (refl, refl); stands = stands }

-- ---- one element more

counted_more : (first rest last total : ℕ) (b : Bool) → total ≡ first + rest → total + cond b 1 0 ≡ first + (rest + cond b 1 0)
counted_more first rest last total b is = omega (arith, is)

pub elements_more : (visits : List Visit) (old : WorldState) (schedule : List (ℕ × ℕ)) (middle : WorldState) (count : ℕ) (element : ℕ × ℕ) (new : WorldState) (was_refused : Bool) → Elements visits old schedule middle count → Element visits middle element new was_refused
    → Elements visits old (schedule ++ element ∷ []) new (count + cond was_refused 1 0)
elements_more visits old [] middle count element new was_refused goes one =
    let first : Element visits old element new was_refused = subst (λ (w : WorldState). Element visits w element new was_refused) goes.0 one in
    let none : count ≡ 0 = goes.1 in
    (new, was_refused, 0, first, (refl, refl), omega (arith, none))
elements_more visits old (e ∷ schedule) middle count element new was_refused goes one =
    (goes.0, goes.1, goes.2 + cond was_refused 1 0, goes.3, elements_more visits goes.0 schedule middle goes.2 element new was_refused goes.4 one, counted_more (cond goes.1 1 0) goes.2 0 count was_refused goes.5)

pub visitors_length : (visitors : List Visitor) (visits : List Visit) (connections : List (Connection Reference)) → AreVisitors visitors visits connections → length visits ≡ length visitors
visitors_length [] [] [] are = refl
visitors_length [] [] (c ∷ connections) are = absurd are
visitors_length [] (v ∷ visits) connections are = absurd are
visitors_length (g ∷ visitors) [] connections are = absurd are
visitors_length (g ∷ visitors) (v ∷ visits) [] are = absurd are
visitors_length (g ∷ visitors) (v ∷ visits) (c ∷ connections) are = ap suc (visitors_length visitors visits connections are.2)

-- what the code did, whatever world it stands for
abbrev pub HasWent : WorldView → ℕ × ℕ → WorldView → Bool → Type 0
HasWent view element later was_refused = (visits : List Visit) (world : WorldState) → StandsFor view visits world → (next : WorldState) × StandsFor later visits next × Element visits world element next was_refused

pub reached_more : (view later : WorldView) (number moment : ℕ) (was_refused : Bool) → later.setup ≡ view.setup → number < length view.visitors → moment < 2 ^ 62 → HasWent view (number, moment) later was_refused → IsReached view → IsReached later
reached_more view later number moment was_refused same within below went reached =
    let one = went reached.visits reached.world reached.stands in
    let count : length reached.visits ≡ length view.visitors = visitors_length view.visitors reached.visits reached.world.connections reached.stands.visitors_are in
    let here : number < length reached.visits = omega (arith, within, count) in
    record {
      visits = reached.visits;
      schedule = reached.schedule ++ (number, moment) ∷ [];
      world = one.0;
      count = reached.count + cond was_refused 1 0;
      opens = subst CanOpen (sym same) reached.opens;
      scheduled = All-push (λ (element : ℕ × ℕ). (element.0 < length reached.visits) × (element.1 < 2 ^ 62)) reached.schedule (number, moment) reached.scheduled (here, below);
      goes = subst (λ (s : Setup). Elements reached.visits (begun s reached.visits) (reached.schedule ++ (number, moment) ∷ []) one.0 (reached.count + cond was_refused 1 0)) (sym same)
          (elements_more reached.visits (begun view.setup reached.visits) reached.schedule reached.world reached.count (number, moment) one.0 was_refused reached.goes one.2);
      stands = one.1;
    }

-- so far the schedule was gone through, whatever world the code stood for
abbrev pub HasRun : WorldView → List (ℕ × ℕ) → WorldView → ℕ → Type 0
HasRun view schedule later count = (visits : List Visit) (world : WorldState) → StandsFor view visits world → (next : WorldState) × StandsFor later visits next × Elements visits world schedule next count

pub ran_more : (view middle later : WorldView) (schedule more : List (ℕ × ℕ)) (element : ℕ × ℕ) (count total : ℕ) (was_refused : Bool) → HasRun view schedule middle count → HasWent middle element later was_refused
    → more ≡ schedule ++ element ∷ [] → total ≡ count + cond was_refused 1 0 → HasRun view more later total
ran_more view middle later schedule more element count total was_refused ran went is sum visits world stands =
    let so_far = ran visits world stands in
    let one = went visits so_far.0 so_far.1 in (
      one.0,
      one.1,
      subst (λ (s : List (ℕ × ℕ)). Elements visits world s one.0 total) (sym is) (subst (λ n. Elements visits world (schedule ++ element ∷ []) one.0 n) (sym sum) (elements_more visits world schedule so_far.0 count element one.0 was_refused so_far.2 one.2)),
    )

-- ---- one connection

-- what the code has of a connection is what the world has
pub same_progress : (view : WorldView) (visitors : List Visitor) (number : ℕ) (visitor : Visitor) (visits : List Visit) (world : WorldState) (connection : Connection Reference) → view.visitors ≡ visitors → number < length view.visitors → visitor ≡ get_or visitors number visitor
    → StandsFor view visits world → slice_get world.connections number ≡ Some connection → progress_of visitor.conn ≡ connection.progress
same_progress view visitors number visitor visits world connection same_visitors viewed is stands at =
    let within : number < length visitors = subst (λ (gs : List Visitor). number < length gs) same_visitors viewed in
    let found = visitor_at visitors visits world.connections number (subst (λ (gs : List Visitor). AreVisitors gs visits world.connections) same_visitors stands.visitors_are) within in
    let same_visitor : visitor ≡ found.visitor = some_same visitor found.visitor (ap Some is ∙ sym (slice_get-get_or visitors number visitor within) ∙ found.at_visitor) in
    let same : found.connection ≡ connection = some_same found.connection connection (sym found.at_connection ∙ at) in
    ap (λ (g : Visitor). progress_of g.conn) same_visitor ∙ found.stands.progress ∙ ap (λ (c : Connection Reference). c.progress) same

-- a table and a shard of the setup are there
pub shard_there : (view : WorldView) (table shard : ℕ) → IsReached view → table < length view.setup.tables → shard < view.setup.shards → HasShard view.tables table shard
shard_there view table shard reached table_within shard_within =
    let world : IsWorld view.setup reached.world = elements_world view.setup reached.visits (begun view.setup reached.visits) reached.schedule reached.world reached.count reached.scheduled reached.goes (begun_world view.setup reached.visits reached.opens) in
    subst (λ (ts : List TableState). HasShard ts table shard) (sym reached.stands.tables_are) (found (slice_get reached.world.tables table) refl world)
  where
    found : (o : Option TableState) → slice_get reached.world.tables table ≡ o → IsWorld view.setup reached.world → HasShard reached.world.tables table shard
    found None is world = absurd (get_within reached.world.tables table is (omega (arith, table_within, world.tables.count)))
    found (Some at) is world = record { found = at; at = is; within = omega (arith, shard_within, (world.tables.each table at is).2.in_shards) }
