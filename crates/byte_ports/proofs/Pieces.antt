-- Pieces of bytes, one after another: what crates above cite on `Grows`, `Takes` and `GrowsInPart`.
use Rattle.std.proofs.Common.{◌≡◌, ℕ, ◌+◌, ◌-◌, List, [], ◌++◌, length, take, drop, sym, ap, ◌∙◌, append_assoc, arith, length-drop}
use Rattle.std.proofs.lemmas.List.{take_all, take-append-drop}
use Rattle.std.proofs.Math.Seq.{take-add}
use Rattle.byte_ports.specs.Bytes.{Grows, GrowsInPart, IsPrefix, Takes}

-- a prefix was taken, and then a prefix of the rest
pub front_grown : (told : Type 0) (before mid after bytes rest : List ℕ) (n m : ℕ) → rest ≡ drop n bytes → Grows told before mid (take n bytes) → Grows told mid after (take m rest) → Grows told before after (take (n + m) bytes)
front_grown told before mid after bytes rest n m is first second shown =
    second shown ∙ ap (λ l. mid ++ take m l) is ∙ ap (λ l. l ++ take m (drop n bytes)) (first shown) ∙ append_assoc before (take n bytes) (take m (drop n bytes))
    ∙ ap (λ l. before ++ l) (sym (take-add n m bytes))

-- a range to the end
pub range_to_end : (n : ℕ) (bytes : List ℕ) → take (length bytes - n) (drop n bytes) ≡ drop n bytes
range_to_end n bytes = take_all (length bytes - n) (drop n bytes) (omega (arith, length-drop n bytes))

-- two pieces were written, one after the other
pub grown_twice : (told : Type 0) (before mid after first second : List ℕ) → Grows told before mid first → Grows told mid after second → Grows told before after (first ++ second)
grown_twice told before mid after first second p q shown =
    q shown ∙ ap (λ l. l ++ second) (p shown) ∙ append_assoc before first second

-- two pieces were read, one after the other
pub taken_twice : (told : Type 0) (before mid after first second : List ℕ) → Takes told before mid first → Takes told mid after second → Takes told before after (first ++ second)
taken_twice told before mid after first second p q shown =
    p shown ∙ ap (λ l. first ++ l) (q shown) ∙ sym (append_assoc first second after)

-- nothing more was read
pub taken_none : (told : Type 0) (before mid after piece : List ℕ) → Takes told before mid piece → Takes told mid after [] → Takes told before after piece
taken_none told before mid after piece p q shown = p shown ∙ ap (λ l. piece ++ l) (q shown)

-- a read of 0 bytes
pub taken_zero : (told : Type 0) (before mid after piece buffer : List ℕ) (n : ℕ) → n ≡ 0 → Takes told before mid piece → Takes told mid after (take n buffer) → Takes told before after piece
taken_zero told before mid after piece buffer n none first second =
    taken_none told before mid after piece first (λ shown. second shown ∙ ap (λ k. take k buffer ++ after) none)

-- a prefix stays one behind a text that both begin with
pub prefix_behind : (text prefix whole : List ℕ) → IsPrefix prefix whole → IsPrefix (text ++ prefix) (text ++ whole)
prefix_behind text prefix whole begins = (begins.0, ap (λ l. text ++ l) begins.1 ∙ sym (append_assoc text prefix begins.0))

-- a prefix of a text is one of the text with more behind it
pub prefix_of_more : (prefix whole more : List ℕ) → IsPrefix prefix whole → IsPrefix prefix (whole ++ more)
prefix_of_more prefix whole more begins = (begins.0 ++ more, ap (λ l. l ++ more) begins.1 ∙ append_assoc prefix begins.0 more)

-- what was taken up to some place is a prefix of a text
pub in_prefix : (told : Type 0) (before after bytes text : List ℕ) (n : ℕ) → bytes ≡ text → Grows told before after (take n bytes) → GrowsInPart told before after text
in_prefix told before after bytes text n is grows =
    (take n bytes, (drop n bytes, sym is ∙ sym (take-append-drop n bytes)), grows)

-- a text was written, and then a prefix of another
pub in_part : (told : Type 0) (before mid after text more : List ℕ) → Grows told before mid text → GrowsInPart told mid after more → GrowsInPart told before after (text ++ more)
in_part told before mid after text more first second =
    (text ++ second.0, prefix_behind text second.0 more second.1, grown_twice told before mid after text second.0 first second.2)

-- a prefix of a text is one of the text with more behind it
pub in_part_of_more : (told : Type 0) (before after text more : List ℕ) → GrowsInPart told before after text → GrowsInPart told before after (text ++ more)
in_part_of_more told before after text more part = (part.0, prefix_of_more part.0 text more part.1, part.2)
