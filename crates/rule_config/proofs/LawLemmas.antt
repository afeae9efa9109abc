-- The first fault.
use Rattle.std.proofs.Common.{◌≡◌, ◌+◌, ◌⊎◌, inl, inr, ℕ, Option, Some, None, Result, Ok, Err, List, [], ◌∷◌, ◌++◌, length, refl, sym, ap, ◌∙◌, arith}
use Rattle.rule_model.specs.Reading.{◌>>=◌, demand}
use Rattle.rule_model.specs.declared.faults.Fault.{Fault}
use Rattle.rule_model.specs.declared.faults.Fault.TheVariants.{NotUtf8, UnknownTable}
use Rattle.rule_words.specs.Lines.{is_plain, lines_of, words_of}
use Rattle.rule_config.specs.Config.{at_line, config_of, config_with, first_unmet, nothing_read, read_from, read_of, whole}
use Rattle.rule_config.specs.Laws.{FaultLaw, IsFirstFault, IsFirstUnmet, Utf8Law}
use Rattle.rule_config.specs.Lines.{line_says, with_line, with_statement, words_say}
use Rattle.rule_config.specs.declared.needs.Need.{Need}
use Rattle.rule_config.specs.declared.reading.Reading.{Reading}
use Rattle.rule_config.specs.declared.statements.Statement.{Statement}
use Rattle.rule_config.proofs.ReadLemmas.{read_of-next}

-- lines that have a fault: those before it, which are read, and the one that has it
record Faulty (first : ℕ) (from : Reading) (lines : List (List ℕ)) (number : ℕ) (fault : Fault) : Type 0 where
  before : List (List ℕ)
  line : List ℕ
  later : List (List ℕ)
  lines_are : lines ≡ before ++ line ∷ later
  counted : number ≡ first + length before
  read : Reading
  read_is : read_from first from before ≡ Ok read
  says : line_says read line ≡ Err fault

at_first : (first number : ℕ) → first ≡ number → number ≡ first + length {A = List ℕ} []
at_first first number e = omega arith

faulty_by : (first : ℕ) (from : Reading) (line : List ℕ) (lines : List (List ℕ)) (number : ℕ) (fault : Fault) (said : Result Statement Fault)
    → ((next : Reading) → read_from (first + 1) next lines ≡ Err (number, fault) → Faulty (first + 1) next lines number fault)
    → line_says from line ≡ said
    → (at_line first (said >>= (λ statement. Ok (with_statement first from statement))) >>= (λ next. read_from (first + 1) next lines)) ≡ Err (number, fault)
    → Faulty first from (line ∷ lines) number fault
unfolding read_from
faulty_by first from line lines number fault (Err wrong) more says e =
    let pair : (first, wrong) ≡ (number, fault) = cc in
    let n : first ≡ number = ap (λ (p : ℕ × Fault). p.0) pair in
    let f : wrong ≡ fault = ap (λ (p : ℕ × Fault). p.1) pair in
    record { before = []; line = line; later = lines; lines_are = refl; counted = at_first first number n; read = from; read_is = refl; says = says ∙ ap Err f }
faulty_by first from line lines number fault (Ok statement) more says e =
    let next = with_statement first from statement in
    let rest = more next e in
    let passes : with_line first from line ≡ Ok next = ap (λ s. s >>= (λ statement. Ok (with_statement first from statement))) says in
    record {
      before = line ∷ rest.before;
      line = rest.line;
      later = rest.later;
      lines_are = ap (λ l. line ∷ l) rest.lines_are;
      counted = omega (arith, rest.counted);
      read = rest.read;
      read_is = ap (λ s. at_line first s >>= (λ next. read_from (first + 1) next rest.before)) passes ∙ rest.read_is;
      says = rest.says;
    }

faulty : (first : ℕ) (from : Reading) (lines : List (List ℕ)) (number : ℕ) (fault : Fault) → read_from first from lines ≡ Err (number, fault) → Faulty first from lines number fault
unfolding read_from
faulty first from [] number fault e = cc
faulty first from (line ∷ lines) number fault e = faulty_by first from line lines number fault (line_says from line) (λ next. faulty (first + 1) next lines number fault) refl e

first_faulty : (lines : List (List ℕ)) (number : ℕ) (fault : Fault) → read_of lines ≡ Err (number, fault) → IsFirstFault lines number fault
first_faulty lines number fault e =
    let f = faulty 1 nothing_read lines number fault e in
    record { before = f.before; line = f.line; later = f.later; lines_are = f.lines_are; counted = omega (arith, f.counted); read = f.read; read_is = f.read_is; says = f.says }

faulty_first : (lines : List (List ℕ)) (number : ℕ) (fault : Fault) → IsFirstFault lines number fault → read_of lines ≡ Err (number, fault)
faulty_first lines number fault h =
    let wrong : with_line (length h.before + 1) h.read h.line ≡ Err fault = ap (λ s. s >>= (λ statement. Ok (with_statement (length h.before + 1) h.read statement))) h.says in
    ap read_of h.lines_are ∙ read_of-next h.before h.later h.line h.read h.read_is
    ∙ ap (λ s. at_line (length h.before + 1) s >>= (λ next. read_from (length h.before + 2) next h.later)) wrong
    ∙ ap (λ n. Err (n, fault)) (sym h.counted)

first_needy : (read : Reading) (unmet : Option Need) (number : ℕ) (fault : Fault) → config_with read unmet ≡ Err (number, fault)
    → (need : Need) × (unmet ≡ Some need) × (number ≡ need.line) × (fault ≡ UnknownTable)
first_needy read (Some need) number fault e =
    let pair : (number, fault) ≡ (need.line, UnknownTable) = cc in
    (need, refl, ap (λ (p : ℕ × Fault). p.0) pair, ap (λ (p : ℕ × Fault). p.1) pair)
first_needy read None number fault e = cc

pub fault-law : FaultLaw
unfolding config_of
fault-law text number fault = (λ e. forth (read_of (lines_of text)) refl e, back)
  where
    forth : (given : Result Reading (ℕ × Fault)) → read_of (lines_of text) ≡ given → (given >>= whole) ≡ Err (number, fault)
        → IsFirstFault (lines_of text) number fault ⊎ IsFirstUnmet (lines_of text) number fault
    forth (Err wrong) g e = let same : Err wrong ≡ Err (number, fault) = cc in inl (first_faulty (lines_of text) number fault (g ∙ same))
    forth (Ok read) g e =
        let n = first_needy read (first_unmet read) number fault e in
        inr (record { read = read; read_is = g; need = n.0; need_is = n.1; line_is = n.2; fault_is = n.3 })

    back : IsFirstFault (lines_of text) number fault ⊎ IsFirstUnmet (lines_of text) number fault → (read_of (lines_of text) >>= whole) ≡ Err (number, fault)
    back (inl h) = ap (λ r. r >>= whole) (faulty_first (lines_of text) number fault h)
    back (inr h) = ap (λ r. r >>= whole) h.read_is ∙ ap (config_with h.read) h.need_is ∙ cc (h.line_is, h.fault_is)

pub utf8-law : Utf8Law
unfolding line_says
utf8-law read line e = ap (λ t. demand t NotUtf8 >>= (λ _. words_say read (is_plain line) (words_of line))) e
