-- One list begins another: what is left of the second after the first.
use Rattle.std.proofs.Common.{◌≡◌, ◌≤◌, List, [], ◌++◌, length, take, drop, ap, sym, subst, ◌∙◌, arith, append_assoc, length-append}
use Rattle.std.proofs.lemmas.List.{append-nil, take-append-drop, take-append-le}
use Rattle.std.proofs.Math.Seq.{take-append_seam}
use mathlib.Core.List.{IsPrefix}

pub begins_itself : {A : Type 0} (whole : List A) → IsPrefix whole whole
begins_itself whole = ([], append-nil whole)

-- what begins a beginning begins the whole
pub begins_further : {A : Type 0} (part beginning whole : List A) → IsPrefix part beginning → IsPrefix beginning whole → IsPrefix part whole
begins_further part beginning whole p q = (p.0 ++ q.0, sym (append_assoc part p.0 q.0) ∙ (ap (λ list. list ++ q.0) p.1 ∙ q.1))

pub begins_no_longer : {A : Type 0} (beginning whole : List A) → IsPrefix beginning whole → length beginning ≤ length whole
begins_no_longer beginning whole p = omega (arith, ap length p.1, length-append beginning p.0)

-- a beginning is the whole as far as it goes
is_taken : {A : Type 0} (beginning whole : List A) → IsPrefix beginning whole → take (length beginning) whole ≡ beginning
is_taken beginning whole p = sym (ap (take (length beginning)) p.1) ∙ take-append_seam beginning p.0

-- of two beginnings of one list the shorter begins the longer: it is what the longer has as far as the shorter goes
pub begins_the_longer : {A : Type 0} (shorter longer whole : List A) → IsPrefix shorter whole → IsPrefix longer whole → length shorter ≤ length longer → IsPrefix shorter longer
begins_the_longer shorter longer whole p q le =
    let taken : take (length shorter) longer ≡ shorter =
    sym (take-append-le (length shorter) longer q.0 le) ∙ (ap (take (length shorter)) q.1 ∙ is_taken shorter whole p) in
    (drop (length shorter) longer, ap (λ list. list ++ drop (length shorter) longer) (sym taken) ∙ take-append-drop (length shorter) longer)
