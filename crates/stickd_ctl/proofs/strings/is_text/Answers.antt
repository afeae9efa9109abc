use Rattle.std.proofs.Common.{◌≡◌, List, ℕ, Bool, true, false, sym, refl}
use Rattle.std.specs.Str.{IsUtf8, is_utf8}
use Rattle.std.proofs.lemmas.Str.{IsUtf8-from_is_utf8, is_utf8-from_IsUtf8}
use Rattle.stickd_ctl.proofs.strings.is_text.Goals as goal

refused : (line : List ℕ) → (IsUtf8 line → ⊥) → false ≡ is_utf8 line
refused line h = step (is_utf8 line) refl where
  step : (t : Bool) → is_utf8 line ≡ t → false ≡ t
  step true e = absurd (h (IsUtf8-from_is_utf8 line e))
  step false e = refl

pub returns-in-Ok : goal.returns-in-Ok
returns-in-Ok c = sym (is_utf8-from_IsUtf8 _ c.in-Ok.ensures.cases.1)

pub returns-in-Err : goal.returns-in-Err
returns-in-Err c = refused _ c.in-Err.ensures.cases.0
