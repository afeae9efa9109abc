-- The code of a world goes on as the world that it stands for.
use Rattle.std.proofs.Common.{◌≡◌, ℕ, zero, suc, ◌<◌, refl, sym, ap, subst, ◌∙◌, arith, Bool, false, List, [], ◌∷◌, length, get_or, slice_get, slice_set, Some, is_some}
use Rattle.std.proofs.lemmas.Option.{slice_get-get_or}
use Rattle.rule_model.specs.declared.sections.Setup.{Setup}
use Rattle.shard_book.specs.BooksState.{BooksState}
use Rattle.shard_book.specs.declared.named.Named.{Named}
use Rattle.admit_core.specs.Conn.{judged_by, progress_of, Stands}
use Rattle.admit_core.specs.Connection.{Connection, Progress}
use Rattle.admit_core.specs.declared.conn.Conn.{Conn}
use Rattle.admit_drive.specs.Balance.{IsCovered, times_by, times_out}
use Rattle.admit_drive.specs.DriveCode.{HasMoved}
use Rattle.admit_drive.specs.Lived.{IsLived}
use Rattle.admit_drive.specs.Moves.{Moves}
use Rattle.admit_drive.specs.Tables.{AreTablesOf, TableState, table_states}
use Rattle.admit_world.specs.World.{Element, WorldState, begun, woken}
use Rattle.admit_world.specs.WorldCode.{AreVisitors, IsReached, StandsFor, world_view}
use Rattle.admit_world.specs.declared.visitor.Visitor.{Visitor}
use Rattle.shard_port.specs.declared.reference.Reference.{Reference}
use Rattle.admit_world.specs.declared.visit.Visit.{Visit}
use Rattle.admit_drive.proofs.SumLemmas.{some_same, sum_at}
use Rattle.admit_port.proofs.CommonLemmas.{setup_same}
use Rattle.admit_world.proofs.WorldLemmas.{IsWoken, IsWorld, begun_world, elements_world, woken_same}

-- ---- visitors

-- the visitor, the visit and the connection of a number
pub record VisitorAt (visitors : List Visitor) (visits : List Visit) (connections : List (Connection Reference)) (i : ℕ) : Type 0 where
  pub visitor : Visitor
  pub visit : Visit
  pub connection : Connection Reference
  pub at_visitor : slice_get visitors i ≡ Some visitor
  pub at_visit : slice_get visits i ≡ Some visit
  pub at_connection : slice_get connections i ≡ Some connection
  pub visit_is : visitor.visit ≡ visit
  pub stands : Stands visitor.conn connection

pub visitor_at : (visitors : List Visitor) (visits : List Visit) (connections : List (Connection Reference)) (i : ℕ) → AreVisitors visitors visits connections → i < length visitors → VisitorAt visitors visits connections i
visitor_at [] visits connections i are within = absurd (omega (arith, within))
visitor_at (visitor ∷ visitors) [] connections i are within = absurd are
visitor_at (visitor ∷ visitors) (visit ∷ visits) [] i are within = absurd are
visitor_at (visitor ∷ visitors) (visit ∷ visits) (connection ∷ connections) zero are within =
    record { visitor = visitor; visit = visit; connection = connection; at_visitor = refl; at_visit = refl; at_connection = refl; visit_is = are.0; stands = are.1 }
visitor_at (visitor ∷ visitors) (visit ∷ visits) (connection ∷ connections) (suc i) are within =
    let found = visitor_at visitors visits connections i are.2 (omega (arith, within)) in
    record { visitor = found.visitor; visit = found.visit; connection = found.connection; at_visitor = found.at_visitor; at_visit = found.at_visit; at_connection = found.at_connection; visit_is = found.visit_is; stands = found.stands }

pub visitors_set : (visitors : List Visitor) (visits : List Visit) (connections : List (Connection Reference)) (i : ℕ) (visitor : Visitor) (connection : Connection Reference) (visit : Visit) → AreVisitors visitors visits connections
    → slice_get visits i ≡ Some visit → visitor.visit ≡ visit → Stands visitor.conn connection → AreVisitors (slice_set visitors i visitor) visits (slice_set connections i connection)
visitors_set [] [] [] i visitor connection visit are at same stands = are
visitors_set [] [] (c ∷ connections) i visitor connection visit are at same stands = absurd are
visitors_set [] (v ∷ visits) connections i visitor connection visit are at same stands = absurd are
visitors_set (g ∷ visitors) [] connections i visitor connection visit are at same stands = absurd are
visitors_set (g ∷ visitors) (v ∷ visits) [] i visitor connection visit are at same stands = absurd are
visitors_set (g ∷ visitors) (v ∷ visits) (c ∷ connections) zero visitor connection visit are at same stands = (same ∙ sym (some_same v visit at), stands, are.2)
visitors_set (g ∷ visitors) (v ∷ visits) (c ∷ connections) (suc i) visitor connection visit are at same stands = (are.0, are.1, visitors_set visitors visits connections i visitor connection visit are.2 at same stands)

-- ---- what a world that was reached keeps

module _ (setup : Setup) (tables : List (Named BooksState)) (visitors : List Visitor) (reached : IsReached (world_view setup tables visitors)) (number : ℕ) (within : number < length visitors) (visitor : Visitor) (is : visitor ≡ get_or visitors number visitor) where
  pub world_is : IsWorld setup reached.world
  world_is = elements_world setup reached.visits (begun setup reached.visits) reached.schedule reached.world reached.count reached.scheduled reached.goes (begun_world setup reached.visits reached.opens)

  pub found : VisitorAt visitors reached.visits reached.world.connections number
  found = visitor_at visitors reached.visits reached.world.connections number reached.stands.visitors_are within

  same_visitor : visitor ≡ found.visitor
  same_visitor = some_same visitor found.visitor (ap Some is ∙ sym (slice_get-get_or visitors number visitor within) ∙ found.at_visitor)

  stands_it : Stands visitor.conn found.connection
  stands_it = subst (λ (g : Visitor). Stands g.conn found.connection) (sym same_visitor) found.stands

  pub lived_it : IsLived found.connection × (found.connection.setup ≡ setup)
  lived_it = world_is.each number found.connection found.at_connection

  pub none_given : is_some (progress_of visitor.conn).given ≡ false
  none_given = ap (λ (p : Progress Reference). is_some p.given) stands_it.progress ∙ ap is_some lived_it.0.given

  pub awake_it : IsWoken found.connection (woken visitor.visit found.connection)
  awake_it = woken_same visitor.visit found.connection lived_it.0

  pub judged_is : (conn : Conn Reference) → Stands conn (woken visitor.visit found.connection) → judged_by conn ≡ setup
  judged_is conn stands = setup_same conn (woken visitor.visit found.connection) stands ∙ awake_it.setup ∙ lived_it.1

  pub tables_are : (conn : Conn Reference) (now : List (Named BooksState)) → ((connection : Connection Reference) → Stands visitor.conn connection → Stands conn (woken visitor.visit connection)) → now ≡ tables → AreTablesOf (judged_by conn) (table_states now)
  tables_are conn now stands same =
      subst (λ s. AreTablesOf s (table_states now)) (sym (judged_is conn (stands found.connection stands_it)))
      (subst (AreTablesOf setup) (sym (ap table_states same ∙ reached.stands.tables_are)) world_is.tables)

  pub covered_is : (conn : Conn Reference) (now : List (Named BooksState)) → ((connection : Connection Reference) → Stands visitor.conn connection → Stands conn (woken visitor.visit connection)) → now ≡ tables → IsCovered (table_states now) (progress_of conn).held
  covered_is conn now stands same reference =
      let held : times_by reference (progress_of conn).held ≡ times_by reference found.connection.progress.held =
      ap (λ (p : Progress Reference). times_by reference p.held) (stands found.connection stands_it).progress ∙ ap (times_by reference) awake_it.held in
      let out : times_out reference (table_states now) ≡ times_out reference reached.world.tables = ap (times_out reference) (ap table_states same ∙ reached.stands.tables_are) in
      omega (arith, held, out, world_is.balance reference, sum_at (λ (connection : Connection Reference). times_by reference connection.progress.held) reached.world.connections number found.connection found.at_connection)

-- ---- one goes on

pub went : (setup : Setup) (tables middle later : List (Named BooksState)) (visitors : List Visitor) (number moment : ℕ) (visitor : Visitor) (awake after : Conn Reference) (was_refused : Bool) → number < length visitors → visitor ≡ get_or visitors number visitor
    → ((connection : Connection Reference) → Stands visitor.conn connection → Stands awake (woken visitor.visit connection)) → middle ≡ tables → HasMoved moment (table_states middle) awake (table_states later) after was_refused
    → (visits : List Visit) (world : WorldState) → StandsFor (world_view setup tables visitors) visits world
    → (next : WorldState) × StandsFor (world_view setup later (slice_set visitors number (record { visit = visitor.visit; conn = after }))) visits next × Element visits world (number, moment) next was_refused
went setup tables middle later visitors number moment visitor awake after was_refused within is wakes same moved visits world stands =
    let found : VisitorAt visitors visits world.connections number = visitor_at visitors visits world.connections number stands.visitors_are within in
    let same_visitor : visitor ≡ found.visitor = some_same visitor found.visitor (ap Some is ∙ sym (slice_get-get_or visitors number visitor within) ∙ found.at_visitor) in
    let it : Stands visitor.conn found.connection = subst (λ (g : Visitor). Stands g.conn found.connection) (sym same_visitor) found.stands in
    let visit : visitor.visit ≡ found.visit = ap (λ (g : Visitor). g.visit) same_visitor ∙ found.visit_is in
    let one = moved (woken visitor.visit found.connection) (wakes found.connection it) in
    let next : WorldState = record { tables = table_states later; connections = slice_set world.connections number one.0 } in (
      next,
      record { tables_are = refl; visitors_are = visitors_set visitors visits world.connections number (record { visit = visitor.visit; conn = after }) one.0 found.visit stands.visitors_are found.at_visit visit one.1 },
      record {
        visit = found.visit;
        connection = found.connection;
        after = one.0;
        visits_it = found.at_visit;
        is_it = found.at_connection;
        moves = subst (λ (ts : List TableState). Moves moment ts (woken found.visit found.connection) (table_states later) one.0 was_refused) (ap table_states same ∙ stands.tables_are)
            (subst (λ (v : Visit). Moves moment (table_states middle) (woken v found.connection) (table_states later) one.0 was_refused) visit one.2);
        others = refl;
      },
    )
