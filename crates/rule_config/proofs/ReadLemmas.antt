-- Reading line by line.
use Rattle.std.proofs.Common.{◌≡◌, ◌≤◌, ◌+◌, ◌-◌, ℕ, Result, Ok, Err, List, [], ◌∷◌, ◌++◌, length, take, drop, refl, sym, ap, subst, ◌∙◌, arith, length-append, append_assoc, append-nil}
use Rattle.std.proofs.lemmas.List.{take-append-drop}
use Rattle.std.proofs.Math.Seq.{take-append_seam}
use Rattle.base_lines.specs.Parts.{parts, is_line_end}
use Rattle.rule_words.specs.Lines.{lines_of, without_crs}
use Rattle.rule_model.specs.Reading.{◌>>=◌, Fails}
use Rattle.rule_model.specs.declared.faults.Fault.{Fault}
use Rattle.rule_model.specs.declared.faults.ReadError.{ReadError}
use Rattle.rule_model.specs.declared.faults.ReadError.TheVariants.{OutOfMemory, Wrong}
use Rattle.rule_model.specs.declared.sections.Config.{Config}
use Rattle.rule_config.specs.Config.{Answers, EndsBy, FailsAt, FaultBy, IsReached, at_line, config_of, nothing_read, read_from, read_of, whole}
use Rattle.rule_config.specs.Lines.{with_line}
use Rattle.rule_config.specs.declared.config.ConfigFault.{ConfigFault}
use Rattle.rule_config.specs.declared.reading.Reading.{Reading}

-- some lines, and then others
joined_by : (number : ℕ) (line : List ℕ) (before later : List (List ℕ)) (said : Result Reading Fault)
    → ((next : Reading) → read_from (number + 1) next (before ++ later) ≡ (read_from (number + 1) next before >>= (λ end. read_from (number + 1 + length before) end later)))
    → (at_line number said >>= (λ next. read_from (number + 1) next (before ++ later)))
    ≡ ((at_line number said >>= (λ next. read_from (number + 1) next before)) >>= (λ next. read_from (number + length (line ∷ before)) next later))
joined_by number line before later (Ok next) rest =
    let place : number + 1 + length before ≡ number + length (line ∷ before) = omega arith in
    rest next ∙ ap (λ n. read_from (number + 1) next before >>= (λ end. read_from n end later)) place
joined_by number line before later (Err fault) rest = refl

pub read_from-append : (number : ℕ) (read : Reading) (before later : List (List ℕ))
    → read_from number read (before ++ later) ≡ (read_from number read before >>= (λ next. read_from (number + length before) next later))
unfolding read_from
read_from-append number read [] later =
    let place : number ≡ number + length {A = List ℕ} [] = omega arith in
    ap (λ n. read_from n read later) place
read_from-append number read (line ∷ before) later =
    joined_by number line before later (with_line number read line) (λ next. read_from-append (number + 1) next before later)

-- a line behind those that were read
pub read_of-next : (before later : List (List ℕ)) (line : List ℕ) (read : Reading) → read_of before ≡ Ok read
    → read_of (before ++ line ∷ later) ≡ (at_line (length before + 1) (with_line (length before + 1) read line) >>= (λ next. read_from (length before + 2) next later))
unfolding read_from
read_of-next before later line read e =
    let joined = read_from-append 1 nothing_read before (line ∷ later) in
    let place : 1 + length before ≡ length before + 1 = omega arith in
    let more : length before + 1 + 1 ≡ length before + 2 = omega arith in
    joined ∙ ap (λ r. r >>= (λ next. read_from (1 + length before) next (line ∷ later))) e
    ∙ ap (λ n. read_from n read (line ∷ later)) place
    ∙ ap (λ n. at_line (length before + 1) (with_line (length before + 1) read line) >>= (λ next. read_from n next later)) more

-- so many lines are read, and these are left
pub record Reads (all left : List (List ℕ)) (number : ℕ) (read : Reading) : Type 0 where
  pub done : List (List ℕ)
  pub all_are : all ≡ done ++ left
  pub counted : number ≡ length done
  pub read_is : read_of done ≡ Ok read

pub reads_none : (all left : List (List ℕ)) (read : Reading) → left ≡ all → read ≡ nothing_read → Reads all left 0 read
unfolding read_from
reads_none all left read l r = record { done = []; all_are = sym l; counted = refl; read_is = ap Ok (sym r) }

pub reads_few : (all left : List (List ℕ)) (number : ℕ) (read : Reading) → Reads all left number read → number + length left ≡ length all
reads_few all left number read h = omega (arith, h.counted, ap length h.all_are, length-append h.done left)

pub reads_all : (all left : List (List ℕ)) (number : ℕ) (read : Reading) → Reads all left number read → left ≡ [] → (read_of all ≡ Ok read) × (number ≡ length all)
reads_all all left number read h e =
    let same : all ≡ h.done = h.all_are ∙ ap (λ l. h.done ++ l) e ∙ append-nil h.done in
    (ap read_of same ∙ h.read_is, h.counted ∙ ap length (sym same))

-- the next line is read too
pub reads_next : (all left later : List (List ℕ)) (line : List ℕ) (number : ℕ) (read next : Reading) → Reads all left number read → left ≡ line ∷ later
    → with_line (number + 1) read line ≡ Ok next → Reads all later (number + 1) next
unfolding read_from
reads_next all left later line number read next h e said =
    let here : with_line (length h.done + 1) read line ≡ Ok next = subst (λ n. with_line (n + 1) read line ≡ Ok next) h.counted said in
    record {
      done = h.done ++ line ∷ [];
      all_are = h.all_are ∙ ap (λ l. h.done ++ l) e ∙ sym (append_assoc h.done (line ∷ []) later);
      counted = omega (arith, h.counted, length-append h.done (line ∷ []));
      read_is = read_of-next h.done [] line read h.read_is ∙ ap (λ said. at_line (length h.done + 1) said >>= (λ next. read_from (length h.done + 2) next [])) here;
    }

-- the next line's fault is that of all
pub reads_fault : (all left later : List (List ℕ)) (line : List ℕ) (number : ℕ) (read : Reading) (fault : Fault) → Reads all left number read → left ≡ line ∷ later
    → with_line (number + 1) read line ≡ Err fault → read_of all ≡ Err (number + 1, fault)
reads_fault all left later line number read fault h e said =
    let here : with_line (length h.done + 1) read line ≡ Err fault = subst (λ n. with_line (n + 1) read line ≡ Err fault) h.counted said in
    let place : length h.done + 1 ≡ number + 1 = omega (arith, h.counted) in
    ap read_of (h.all_are ∙ ap (λ l. h.done ++ l) e) ∙ read_of-next h.done later line read h.read_is
    ∙ ap (λ said. at_line (length h.done + 1) said >>= (λ next. read_from (length h.done + 2) next later)) here
    ∙ ap (λ n. Err (n, fault)) place

-- the next line is one to which reading comes
pub reads_reached : (all left later : List (List ℕ)) (line : List ℕ) (number : ℕ) (read : Reading) → Reads all left number read → left ≡ line ∷ later → IsReached all (number + 1)
reads_reached all left later line number read h e =
    let many : number + length left ≡ length all = reads_few all left number read h in
    let place : number + 1 - 1 ≡ length h.done = omega (arith, h.counted) in
    let prefix : take (number + 1 - 1) all ≡ h.done = ap (λ n. take n all) place ∙ ap (λ l. take (length h.done) l) h.all_are ∙ take-append_seam h.done left in
    (omega arith, omega (arith, ap length e), (read, ap read_of prefix ∙ h.read_is))

-- what is wrong with the next line, against what all give
pub reads_refused : (all left later : List (List ℕ)) (line : List ℕ) (number : ℕ) (read : Reading) (error : ReadError) → Reads all left number read → left ≡ line ∷ later
    → Fails error (with_line (number + 1) read line) → FailsAt all (number + 1) error (read_of all)
reads_refused all left later line number read OutOfMemory h e said = reads_reached all left later line number read h e
reads_refused all left later line number read (Wrong fault) h e said = reads_fault all left later line number read fault h e said

-- ---- behind all lines

ok_before : {A B E : Type 0} (first : Result A E) (next : A → Result B E) (b : B) → (first >>= next) ≡ Ok b → (a : A) × (first ≡ Ok a)
ok_before (Ok a) next b e = (a, refl)
ok_before (Err x) next b e = cc

-- where all lines are read, the first ones are
front_reads : (number : ℕ) (lines : List (List ℕ)) (read : Reading) → read_of lines ≡ Ok read → (first : Reading) × (read_of (take number lines) ≡ Ok first)
front_reads number lines read e =
    let joined = read_from-append 1 nothing_read (take number lines) (drop number lines) in
    ok_before (read_of (take number lines)) (λ next. read_from (1 + length (take number lines)) next (drop number lines)) read
    (sym joined ∙ ap read_of (take-append-drop number lines) ∙ e)

-- there is a line at least
some_line : (parts : List (List ℕ)) → 1 ≤ length parts → 1 ≤ length (without_crs parts)
some_line [] h = h
some_line (last ∷ []) h = omega arith
some_line (line ∷ next ∷ more) h = omega arith

last_reached : (text : List ℕ) (read : Reading) → read_of (lines_of text) ≡ Ok read → IsReached (lines_of text) (length (lines_of text))
last_reached text read e =
    (some_line (parts is_line_end text) (omega arith), omega arith, front_reads (length (lines_of text) - 1) (lines_of text) read e)

-- what is answered behind all lines is what the text gives
pub ends_answers : (text : List ℕ) (read : Reading) (last : ℕ) (result : Result Config ConfigFault) → read_of (lines_of text) ≡ Ok read → last ≡ length (lines_of text)
    → EndsBy last result (whole read) → Answers text result
unfolding config_of
ends_answers text read last (Ok config) e l h = ap (λ r. r >>= whole) e ∙ h
ends_answers text read last (Err fault) e l h = by_kind fault.line fault.kind h
  where
    given : config_of text ≡ whole read
    given = ap (λ r. r >>= whole) e

    by_kind : (line : ℕ) (kind : ReadError) → FaultBy last line kind (whole read) → FailsAt (lines_of text) line kind (config_of text)
    by_kind line OutOfMemory h = subst (IsReached (lines_of text)) (sym (h ∙ l)) (last_reached text read e)
    by_kind line (Wrong fault) h = given ∙ h
