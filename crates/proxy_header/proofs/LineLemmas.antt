-- The first line of some bytes.
use Rattle.std.proofs.Common.{◌≡◌, ℕ, ◌+◌, ◌-◌, ◌<◌, List, [], ◌∷◌, ◌++◌, length, get_or, take, drop, refl, sym, ◌∙◌, ap, Bool, true, false, Some, None, Option, append-nil, append_assoc, codes, min, nat_eq}
use Rattle.std.proofs.lemmas.List.{drop_more, take_min, take_more, take_rest}
use Rattle.std.specs.Option.{option_map}
use Rattle.std.specs.List.{starts_with}
use Rattle.proxy_header.specs.Line.{first_line}

-- whether a line ends here
abbrev pub ends_here : List ℕ → Bool
ends_here bytes = starts_with nat_eq bytes (codes "\r\n")

-- a byte behind others
onto : (before : List ℕ) (byte : ℕ) (found : Option (List ℕ)) →
    option_map (λ line. before ++ line) (option_map (λ line. byte ∷ line) found) ≡ option_map (λ line. (before ++ byte ∷ []) ++ line) found
onto before byte None = refl
onto before byte (Some line) = ap Some (sym (append_assoc before (byte ∷ []) line))

first_line-other : (byte : ℕ) (bytes : List ℕ) → ends_here (byte ∷ bytes) ≡ false → first_line (byte ∷ bytes) ≡ option_map (λ line. byte ∷ line) (first_line bytes)
first_line-other byte bytes other = rw other refl

first_line-end : (byte : ℕ) (bytes : List ℕ) → ends_here (byte ∷ bytes) ≡ true → first_line (byte ∷ bytes) ≡ Some []
first_line-end byte bytes here = rw here refl

-- one byte more is passed over
pub first_line-more : (bytes : List ℕ) (i : ℕ) → i < length bytes → ends_here (take (length bytes - i) (drop i bytes)) ≡ false →
    option_map (λ line. take (i + 1) bytes ++ line) (first_line (drop (i + 1) bytes)) ≡ option_map (λ line. take i bytes ++ line) (first_line (drop i bytes))
first_line-more bytes i inside other =
    let byte : ℕ = get_or bytes i 0 in
    let cut = drop_more bytes i 0 inside in
    let test : ends_here (byte ∷ drop (i + 1) bytes) ≡ false = ap ends_here (sym (take_rest bytes i ∙ cut)) ∙ other in
    ap (λ start. option_map (λ line. start ++ line) (first_line (drop (i + 1) bytes))) (take_more bytes i 0 inside)
    ∙ sym (onto (take i bytes) byte (first_line (drop (i + 1) bytes)))
    ∙ ap (λ found. option_map (λ line. take i bytes ++ line) found) (sym (ap first_line cut ∙ first_line-other byte (drop (i + 1) bytes) test))

-- a line ends here
pub first_line-found : (bytes : List ℕ) (i : ℕ) → i < length bytes → ends_here (take (length bytes - i) (drop i bytes)) ≡ true →
    option_map (λ line. take i bytes ++ line) (first_line (drop i bytes)) ≡ Some (take i bytes)
first_line-found bytes i inside here =
    let byte : ℕ = get_or bytes i 0 in
    let cut = drop_more bytes i 0 inside in
    let test : ends_here (byte ∷ drop (i + 1) bytes) ≡ true = ap ends_here (sym (take_rest bytes i ∙ cut)) ∙ here in
    ap (λ found. option_map (λ line. take i bytes ++ line) found) (ap first_line cut ∙ first_line-end byte (drop (i + 1) bytes) test)
    ∙ ap Some (append-nil (take i bytes))

-- as many bytes as there are
pub take_up_to : (n : ℕ) (bytes : List ℕ) → take (min n (length bytes)) bytes ≡ take n bytes
take_up_to n bytes = take_min n bytes
