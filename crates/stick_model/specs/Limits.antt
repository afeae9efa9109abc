-- What a table can be made with, and which events it takes.
use Rattle.std.specs.Prelude.{ℕ, ◌≤◌, ◌<◌, ◌^◌, IfSome, List, [], All}
use Rattle.stick_key.specs.declared.kind.KeyType.{KeyType}
use Rattle.stick_key.specs.declared.kind.KeyType.TheVariants.{Text, Binary}
use Rattle.stored_data.specs.Data.{greatest}
use Rattle.stored_data.specs.Laws.{HasTag}
use Rattle.stick_model.specs.declared.specification.Spec.{Spec}
use Rattle.stick_model.specs.declared.rows.Cell.{Cell}
use Rattle.stick_model.specs.declared.events.Event.{Event}
use Rattle.stick_model.specs.declared.events.Event.TheVariants.{Get, Track, Look, Count, Release, Put, Clear, ClearWhere, List as ListRows, Expire}

-- texts and binary keys have 1 to 1,024 bytes
abbrev pub IsKeyType : KeyType → Type 0
IsKeyType (Text n) = (1 ≤ n) × (n ≤ 1024)
IsKeyType (Binary n) = (1 ≤ n) × (n ≤ 1024)
IsKeyType _ = Unit {0}

pub record IsTableSpec (spec : Spec) : Type 0 where
  pub kind : IsKeyType spec.kind
  pub size : (1 ≤ spec.size) × (spec.size ≤ 2 ^ 30)
  pub expire : IfSome spec.expire (λ life. (1 ≤ life) × (life < 2 ^ 31))
  pub purge : (1 ≤ spec.purge) × (spec.purge ≤ 1024)
  pub max_refs : (1 ≤ spec.max_refs) × (spec.max_refs ≤ 2 ^ 20)
  pub life : spec.life ≤ 2 ^ 62

abbrev pub moment_of : Event → ℕ
moment_of (Get now key) = now
moment_of (Track now key) = now
moment_of (Look now ticket) = now
moment_of (Count now ticket act) = now
moment_of (Release now ticket) = now
moment_of (Put now key pairs) = now
moment_of (Clear now key) = now
moment_of (ClearWhere now choice) = now
moment_of (ListRows now choice) = now
moment_of (Expire now) = now

abbrev pub pairs_of : Event → List Cell
pairs_of (Put now key pairs) = pairs
pairs_of _ = []

-- a tag that it sets has 32 bits
abbrev pub HasItsTag : Event → Type 0
HasItsTag (Count now ticket act) = HasTag act
HasItsTag _ = Unit {0}

-- its moment is at most 2^62 - 1 ms, each value that it puts is in the range of its datum, and so is a tag that it sets
pub record IsTableEvent (event : Event) : Type 0 where
  pub moment : moment_of event < 2 ^ 62
  pub values : All (λ (pair : Cell). pair.value ≤ greatest pair.field.datum) (pairs_of event)
  pub tag : HasItsTag event
