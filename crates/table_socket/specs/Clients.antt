-- What the clients of a socket do to the tables, and what is counted of them.
use Rattle.std.specs.Prelude.{◌≡◌, ◌⊎◌, ◌-◌, ◌^◌, ℕ, min, List, [], ◌∷◌, length, sum_by}
use Rattle.base_lines.specs.Service.{ServesAll, StopsAfter}
use Rattle.table_cli.specs.Service.{SaysLine, StopsLine}
use Rattle.table_cli.specs.Shards.{Answering, Refusing}
use Rattle.table_cli.specs.States.{CommandState, Showing}
use Rattle.stick_model.specs.declared.specification.Spec.{Spec}
use Rattle.shard_book.specs.NamedTables.{states_of}
use Rattle.shard_book.specs.declared.named.Named.{Named}
use Rattle.table_socket.specs.declared.served.Served.{Served}

abbrev pub state_of : {K S D C : Type 0} → (K → Spec) → (K → ℕ) → (K → S) → (D → C) → List (Named K) → D → CommandState S C
state_of spec shards state showing tables clock = record { tables = states_of spec shards state tables; clock = showing clock }

module _ {S C : Type 0} (answers : Answering S) (refuses : Refusing S) (shows : Showing C) where
  -- some text came, and all its lines were answered, or those before a fault; so many commands whole
  abbrev pub Visit : CommandState S C → ℕ → CommandState S C → Type 0
  Visit old count new =
      (whole output : List ℕ)
      × (ServesAll (SaysLine answers refuses shows) (record { at = old; done = 0 }) whole output (record { at = new; done = count })
      ⊎ ((lines : ℕ) × StopsAfter (SaysLine answers refuses shows) (StopsLine answers refuses shows) (record { at = old; done = 0 }) whole lines output (record { at = new; done = count })))

-- clients in turn, each with so many commands; the last one stands first
abbrev pub Visits : {S : Type 0} → (S → ℕ → S → Type 0) → S → List ℕ → S → Type 0
Visits visits old [] new = new ≡ old
Visits {S} visits old (count ∷ counts) new = (middle : S) × Visits visits old counts middle × visits middle count new

-- some clients came in turn, and they and all their commands are counted, up to 2^64 - 1
pub record ServesClients {S : Type 0} (visits : S → ℕ → S → Type 0) (old : S) (served : Served) (new : S) : Type 0 where
  pub counts : List ℕ
  pub in_turn : Visits visits old counts new
  pub clients : served.clients ≡ min (length counts) (2 ^ 64 - 1)
  pub commands : served.commands ≡ min (sum_by (λ (count : ℕ). count) counts) (2 ^ 64 - 1)
