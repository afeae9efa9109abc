-- Headers of either version, and bytes that follow them.
use Rattle.std.proofs.Common.{◌≡◌, ℕ, ◌≤◌, ◌==◌, ◌&&◌, List, [], ◌∷◌, ◌++◌, length, take, drop, arith, refl, sym, ◌∙◌, ap, Bool, true, false, nat_eq, Option, ◌⊎◌, inl, inr}
use Rattle.std.proofs.lemmas.Bool.{and_from, and_left, and_parts, cases_Bool, eq-eqb, eqb-false, eqb-true, false≢true, ne_eqb, or_cases, or_parts, true≢false}
use Rattle.std.proofs.lemmas.Bool.Decides.{Decides-eqb}
use Rattle.std.proofs.lemmas.List.{length-take, take-append-drop}
use Rattle.std.proofs.lemmas.Slice.Eq.{starts_is}
use Rattle.std.specs.List.{starts_with}
use Rattle.std.specs.Prelude.{if◌then◌else◌}
use Rattle.proxy_header.specs.declared.ends.Ends.{Ends}
use Rattle.proxy_header.specs.declared.ends.Heard.{Heard}
use Rattle.proxy_header.specs.declared.ends.Heard.TheVariants.{Unfinished, Wrong, Told}
use Rattle.proxy_header.specs.Binary.{heard_binary, signature}
use Rattle.proxy_header.specs.Header.{HasRoom, heard, is_beginning, proxy}
use Rattle.proxy_header.specs.Laws.{CutLaw, HeardStaysLaw, RoomLaw}
use Rattle.proxy_header.specs.Line.{heard_line}
use Rattle.proxy_header.proofs.BinaryLemmas.{binary_room, binary_stays}
use Rattle.proxy_header.proofs.LineLaws.{line_room, line_stays}

-- how bytes begin
starts-more : (bytes more start : List ℕ) → starts_with nat_eq bytes start ≡ true → starts_with nat_eq (bytes ++ more) start ≡ true
starts-more bytes more [] starts = refl
starts-more [] more (x ∷ start) starts = absurd (false≢true starts)
starts-more (byte ∷ bytes) more (x ∷ start) starts =
    let parts = and_parts (x == byte) (starts_with nat_eq bytes start) starts in
    and_from (x == byte) (starts_with nat_eq (bytes ++ more) start) parts.0 (starts-more bytes more start parts.1)

starts-long : (bytes start : List ℕ) → starts_with nat_eq bytes start ≡ true → length start ≤ length bytes
starts-long bytes [] starts = omega arith
starts-long [] (x ∷ start) starts = absurd (false≢true starts)
starts-long (byte ∷ bytes) (x ∷ start) starts =
    let parts = and_parts (x == byte) (starts_with nat_eq bytes start) starts in
    omega (arith, starts-long bytes start parts.1)

-- bytes that differ from a beginning differ from it whatever follows
differs-more : (bytes more start : List ℕ) → starts_with nat_eq bytes start ≡ false → starts_with nat_eq start bytes ≡ false →
    (starts_with nat_eq (bytes ++ more) start ≡ false) × (starts_with nat_eq start (bytes ++ more) ≡ false)
differs-more bytes more [] starts is = absurd (true≢false starts)
differs-more [] more (x ∷ start) starts is = absurd (true≢false is)
differs-more (byte ∷ bytes) more (x ∷ start) starts is = elim (cases_Bool (x == byte)) [
  | inl same ↦
      let turned : (byte == x) ≡ true = eq-eqb byte x (sym (eqb-true x byte same)) in
      let rest = differs-more bytes more start (ap (λ b. b && starts_with nat_eq bytes start) (sym same) ∙ starts) (ap (λ b. b && starts_with nat_eq start bytes) (sym turned) ∙ is) in
      (ap (λ b. b && starts_with nat_eq (bytes ++ more) start) same ∙ rest.0, ap (λ b. b && starts_with nat_eq start (bytes ++ more)) turned ∙ rest.1)
  | inr other ↦
      let turned : (byte == x) ≡ false = ne_eqb byte x (λ same. eqb-false x byte other (sym same)) in
      (and_left (x == byte) (starts_with nat_eq (bytes ++ more) start) other, and_left (byte == x) (starts_with nat_eq start (bytes ++ more)) turned)
]

-- a beginning of version 1 is none of version 2
no_signature : (bytes : List ℕ) → starts_with nat_eq bytes proxy ≡ true → starts_with nat_eq bytes signature ≡ false
no_signature bytes starts =
    let begins = (starts_is Decides-eqb bytes proxy true (sym starts)).0 refl in
    ap (λ l. starts_with nat_eq l signature) begins

-- what is said, by the three tests in their order
abbrev by_start : (binary line beginning : Bool) → Heard → Heard → Heard
by_start binary line beginning heard2 heard1 = if binary then heard2 else if line then heard1 else if beginning then Unfinished else Wrong

abbrev said_of : List ℕ → (binary line beginning : Bool) → Heard
said_of bytes binary line beginning = by_start binary line beginning (heard_binary bytes) (heard_line bytes)

heard-is : (bytes : List ℕ) → heard bytes ≡ said_of bytes (starts_with nat_eq bytes signature) (starts_with nat_eq bytes proxy) (is_beginning bytes)
unfolding heard
heard-is bytes = refl

-- by what the bytes begin with
stays : (bytes more : List ℕ) (binary line beginning : Bool) → starts_with nat_eq bytes signature ≡ binary → starts_with nat_eq bytes proxy ≡ line → is_beginning bytes ≡ beginning →
    (said_of bytes binary line beginning ≡ Unfinished → ⊥) → heard (bytes ++ more) ≡ said_of bytes binary line beginning
stays bytes more true line beginning is2 is1 is0 said =
    heard-is (bytes ++ more) ∙ rw (starts-more bytes more signature is2) (binary_stays bytes more said)
stays bytes more false true beginning is2 is1 is0 said =
    let longer = starts-more bytes more proxy is1 in
    heard-is (bytes ++ more) ∙ rw (no_signature (bytes ++ more) longer, longer) (line_stays bytes more said)
stays bytes more false false true is2 is1 is0 said = absurd (said refl)
stays bytes more false false false is2 is1 is0 said =
    let parts = or_parts (starts_with nat_eq signature bytes) (starts_with nat_eq proxy bytes) is0 in
    let binary = differs-more bytes more signature is2 parts.0 in
    let line = differs-more bytes more proxy is1 parts.1 in
    heard-is (bytes ++ more) ∙ rw (binary.0, line.0, binary.1, line.1) refl

pub heard_stays : HeardStaysLaw
heard_stays bytes more said =
    stays bytes more (starts_with nat_eq bytes signature) (starts_with nat_eq bytes proxy) (is_beginning bytes) refl refl refl (λ unfinished. said (heard-is bytes ∙ unfinished)) ∙ sym (heard-is bytes)

beginning-short : (bytes : List ℕ) → is_beginning bytes ≡ true → length bytes ≤ 12
beginning-short bytes is = elim (or_cases (starts_with nat_eq signature bytes) (starts_with nat_eq proxy bytes) is) [
  | inl binary ↦ omega (arith, starts-long signature bytes binary)
  | inr line ↦ omega (arith, starts-long proxy bytes line)
]

room : (bytes : List ℕ) (binary line beginning : Bool) → is_beginning bytes ≡ beginning → HasRoom (length bytes) (said_of bytes binary line beginning)
room bytes true line beginning is = binary_room bytes
room bytes false true beginning is = line_room bytes
room bytes false false true is = omega (arith, beginning-short bytes is)
room bytes false false false is = tt

pub heard_room : RoomLaw
unfolding heard
heard_room bytes = room bytes (starts_with nat_eq bytes signature) (starts_with nat_eq bytes proxy) (is_beginning bytes) refl

-- a header that is told has no more bytes than are there
told-there : (bytes : List ℕ) (whole : ℕ) (ends : Option Ends) → heard bytes ≡ Told whole ends → whole ≤ length bytes
told-there bytes whole ends told = (rw told at (heard_room bytes)).0

is_unfinished : (said : Heard) → (said ≡ Unfinished) ⊎ (said ≡ Unfinished → ⊥)
is_unfinished Unfinished = inl refl
is_unfinished Wrong = inr (λ same. cc)
is_unfinished (Told whole ends) = inr (λ same. cc)

pub heard_cut : CutLaw
heard_cut bytes whole ends told count few = elim (is_unfinished (heard (take count bytes))) [
  | inl unfinished ↦ unfinished
  | inr said ↦
      let same : heard (take count bytes) ≡ Told whole ends =
      sym (heard_stays (take count bytes) (drop count bytes) said) ∙ ap heard (take-append-drop count bytes) ∙ told in
      absurd (omega (arith, few, told-there (take count bytes) whole ends same, length-take count bytes))
]
