-- What the code of a world stands for.
use Rattle.std.specs.Prelude.{◌≡◌, ℕ, List, [], ◌∷◌, length}
use Rattle.rule_model.specs.declared.sections.Setup.{Setup}
use Rattle.shard_book.specs.BooksState.{BooksState}
use Rattle.shard_book.specs.declared.named.Named.{Named}
use Rattle.admit_core.specs.Conn.{Stands}
use Rattle.admit_core.specs.Connection.{Connection}
use Rattle.admit_drive.specs.Tables.{CanOpen, TableState, table_states}
use Rattle.admit_world.specs.World.{Elements, IsSchedule, WorldState, begun}
use Rattle.admit_world.specs.declared.visitor.Visitor.{Visitor}
use Rattle.shard_port.specs.declared.reference.Reference.{Reference}
use Rattle.admit_world.specs.declared.visit.Visit.{Visit}

-- the connections that the code's stand for, in the order of their visits
abbrev pub AreVisitors : List Visitor → List Visit → List (Connection Reference) → Type 0
AreVisitors [] [] [] = Unit {0}
AreVisitors (visitor ∷ visitors) (visit ∷ visits) (connection ∷ connections) = (visitor.visit ≡ visit) × Stands visitor.conn connection × AreVisitors visitors visits connections
AreVisitors [] [] (connection ∷ connections) = ⊥
AreVisitors [] (visit ∷ visits) connections = ⊥
AreVisitors (visitor ∷ visitors) [] connections = ⊥
AreVisitors (visitor ∷ visitors) (visit ∷ visits) [] = ⊥

-- what the code keeps: the setup, its tables, and the connections with their visits
pub record WorldView : Type 0 where
  pub setup : Setup
  pub tables : List TableState
  pub visitors : List Visitor

abbrev pub world_view : Setup → List (Named BooksState) → List Visitor → WorldView
world_view setup tables visitors = record { setup = setup; tables = table_states tables; visitors = visitors }

-- the tables and the connections of the code are those of a world
pub record StandsFor (view : WorldView) (visits : List Visit) (world : WorldState) : Type 0 where
  pub tables_are : view.tables ≡ world.tables
  pub visitors_are : AreVisitors view.visitors visits world.connections

-- it is a world that began with some visits, and has gone on by some schedule
pub record IsReached (view : WorldView) : Type 0 where
  pub visits : List Visit
  pub schedule : List (ℕ × ℕ)
  pub world : WorldState
  pub count : ℕ
  pub opens : CanOpen view.setup
  pub scheduled : IsSchedule (length visits) schedule
  pub goes : Elements visits (begun view.setup visits) schedule world count
  pub stands : StandsFor view visits world
