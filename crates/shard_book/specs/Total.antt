-- What the replies of a table's shards to one event come to.
use Rattle.std.specs.Prelude.{◌≡◌, ℕ, ◌+◌, ◌≤◌, Option, Some, None, List, [], ◌∷◌, ◌++◌, fold}
use Rattle.std.specs.Ordering.{is_lt}
use Rattle.std.specs.List.Sorted.{IsPermutation, IsSortedBy}
use Rattle.stick_model.specs.Key.{key_cmp}
use Rattle.stick_model.specs.declared.rows.Row.{Row}
use Rattle.stick_model.specs.declared.events.Event.{Event}
use Rattle.stick_model.specs.declared.events.Event.TheVariants.{ClearWhere, List as ListRows}
use Rattle.stick_model.specs.declared.replies.Reply.{Reply}
use Rattle.stick_model.specs.declared.replies.Reply.TheVariants.{Absent, Rows, Cleared}

-- an event that all shards are asked
abbrev pub IsAsked : Event → Type 0
IsAsked (ClearWhere now choice) = Unit {0}
IsAsked (ListRows now choice) = Unit {0}
IsAsked _ = ⊥

-- the replies of two shards together: rows and counts add up, and all else is as the first says
abbrev pub both : Reply → Reply → Reply
both (Rows used rows) (Rows more others) = Rows (used + more) (rows ++ others)
both (Cleared removed kept) (Cleared more others) = Cleared (removed + more) (kept + others)
both reply _ = reply

-- the replies so far, if there are any, and one more
abbrev pub together : Option Reply → Reply → Reply
together None reply = reply
together (Some before) reply = both before reply

abbrev pub total : List Reply → Reply
total [] = Absent
total (reply ∷ replies) = fold both reply replies

-- no number of the reply is above the limit
abbrev pub IsCounted : ℕ → Reply → Type 0
IsCounted limit (Rows used rows) = used ≤ limit
IsCounted limit (Cleared removed kept) = (removed ≤ limit) × (kept ≤ limit)
IsCounted limit _ = Unit {0}

-- the same rows, in the order of their keys
pub record IsInKeyOrder (rows ordered : List Row) : Type 0 where
  pub same : IsPermutation rows ordered
  pub rising : IsSortedBy (λ (a b : Row). is_lt (key_cmp a.key b.key)) ordered

-- what is shown of the total of the shards' replies: rows in the order of their keys
abbrev pub IsShown : Reply → Reply → Type 0
IsShown (Rows used rows) (Rows count ordered) = (count ≡ used) × IsInKeyOrder rows ordered
IsShown reply shown = shown ≡ reply
