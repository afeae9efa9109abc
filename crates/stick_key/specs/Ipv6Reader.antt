-- What the reader of IPv6 texts knows on its way.
use Rattle.std.specs.Prelude.{Bool, true, false, ◌≡◌, ◌==◌, ℕ, ◌+◌, ◌<◌, ◌≤◌, ◌++◌, List, [], ◌∷◌, length, slice_index, replicate}
use Rattle.std.specs.List.{slice_split}
use Rattle.stick_key.specs.Ipv6Text.{Spell}

-- no two colons stand in a row
abbrev pub HasNoGap : List ℕ → Type 0
HasNoGap text = (k : ℕ) → k + 1 < length text → slice_index text k ≡ 58 → slice_index text (k + 1) ≡ 58 → ⊥

-- what the parts of a text between its colons spell; an empty text spells nothing
abbrev pub SpellSide : Bool → List ℕ → List ℕ → Type 0
SpellSide dotted_end [] groups = groups ≡ []
SpellSide dotted_end (byte ∷ text) groups = Spell dotted_end (slice_split (λ byte. byte == 58) (byte ∷ text)) groups

-- what the two sides of a gap spell, with zeros between them
pub record SpellSides (before after groups : List ℕ) : Type 0 where
  pub high : List ℕ
  pub low : List ℕ
  pub zeros : ℕ
  pub spell_high : SpellSide false before high
  pub spell_low : SpellSide true after low
  pub some_zeros : 1 ≤ zeros
  pub all : groups ≡ high ++ (replicate zeros 0 ++ low)
