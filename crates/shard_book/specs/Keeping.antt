-- What a table in shards may be asked, and what it answers.
use Rattle.std.specs.Prelude.{◌≡◌, ℕ}
use Rattle.stick_key.specs.Shard.{shard, shard_size}
use Rattle.stick_model.specs.State.{State}
use Rattle.stick_model.specs.Step.{Step}
use Rattle.stick_model.specs.Legal.{IsLegal}
use Rattle.stick_model.specs.Limits.{IsTableSpec}
use Rattle.stick_model.specs.declared.specification.Spec.{Spec}
use Rattle.stick_model.specs.declared.events.Event.{Event}
use Rattle.stick_model.specs.declared.events.Event.TheVariants.{Get, Track, Look, Count, Release, Put, Clear, ClearWhere, List as ListRows, Expire}
use Rattle.stick_model.specs.declared.replies.Reply.{Reply}

-- what shard `i` of a table is made with: the table's specification, with the shard's part of the size
abbrev pub part_of : Spec → ℕ → ℕ → Spec
part_of spec shards i = record spec { size = shard_size spec.size shards i }

-- what shard `i` may be asked by who has no ticket: of a key, only where the key lies on it
abbrev pub MayAsk : ℕ → ℕ → Event → Type 0
MayAsk shards i (Get now key) = shard key shards ≡ i
MayAsk shards i (Put now key pairs) = shard key shards ≡ i
MayAsk shards i (Clear now key) = shard key shards ≡ i
MayAsk shards i (ClearWhere now choice) = Unit {0}
MayAsk shards i (ListRows now choice) = Unit {0}
MayAsk shards i (Expire now) = Unit {0}
MayAsk shards i (Track now key) = ⊥
MayAsk shards i (Look now ticket) = ⊥
MayAsk shards i (Count now ticket act) = ⊥
MayAsk shards i (Release now ticket) = ⊥

-- a reply that a table within the limits gives in a legal state
pub record IsAnswer (event : Event) (reply : Reply) : Type 0 where
  pub before : State
  pub after : State
  pub limits : IsTableSpec before.spec
  pub legal : IsLegal before
  pub step : Step before event reply after
