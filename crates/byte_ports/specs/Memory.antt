-- Sources and sinks in memory.
use Rattle.std.specs.Prelude.{ℕ, ◌==◌, min, Option, Some, None, List, if◌then◌else◌}

-- what a source still hands out, how many bytes pass in a call at most and how many before every call fails, and how often a call failed
pub record Supply : Type 0 where
  pub left : List ℕ
  pub piece : ℕ
  pub limit : Option ℕ
  pub failures : ℕ

-- what a sink has taken, and the same
pub record Store : Type 0 where
  pub written : List ℕ
  pub piece : ℕ
  pub limit : Option ℕ
  pub failures : ℕ

-- how many of the bytes offered pass in a call, none where it fails: at most a piece, and at most what is left of the limit
abbrev pub passing : ℕ → Option ℕ → ℕ → Option ℕ
passing piece None offered = Some (min offered piece)
passing piece (Some limit) offered = if limit == 0 then None else Some (min (min offered piece) limit)
