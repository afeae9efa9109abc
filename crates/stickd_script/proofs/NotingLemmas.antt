-- What is noted of the lines of a script, beside what they say.
use Rattle.std.proofs.Common.{zero, suc, ◌≡◌, ℕ, ◌+◌, ◌-◌, ◌^◌, ◌≤◌, min, refl, sym, ap, ◌∙◌, subst, arith, Bool, true, false, if◌then◌else◌, List, [], ◌∷◌, ◌++◌, take, length, length-append, append_assoc, append-nil, inl, inr}
use Rattle.std.proofs.Math.Seq.{take-append_seam}
use Rattle.std.proofs.lemmas.List.{take-append-le, take_all}
use Rattle.base_lines.specs.Chain.{Chain}
use Rattle.base_lines.specs.Line.{held}
use Rattle.base_lines.specs.Parts.{parts, is_line_end}
use Rattle.base_lines.specs.Service.{Serves, ServesAll, StopsAfter}
use Rattle.table_cli.specs.States.{more}
use Rattle.stickd_script.specs.BadLines.{Noted, Noting, SaysNoting, StopsNoting, bad_after, bad_among, bad_behind, bad_lines, is_bad, noted, noting_at, with_bad}
use Rattle.stickd_script.specs.Script.{Says, Stops, line_of}
use Rattle.stickd_script.specs.Guests.{ScriptState}

-- ---- a chain of noted lines

-- what is noted behind lines
abbrev noted_behind : List (List ℕ) → ℕ → Noted → Noted
noted_behind [] count bad = bad
noted_behind (line ∷ lines) count bad = noted_behind lines (more count 1) (bad_after (held line) count bad)

-- the lines say what they say without notes
script_chain : (old new : Noting) (lines : List (List ℕ)) (text : List ℕ) → Chain (Serves SaysNoting) old lines text new → Chain (Serves Says) old.script lines text new.script
script_chain old new [] text chain = (chain.0, ap (λ (n : Noting). n.script) chain.1)
script_chain old new (line ∷ lines) text chain = (chain.0, chain.1.script, chain.2, chain.3.0, script_chain chain.1 new lines chain.2 chain.4, chain.5)

-- and these are the notes
noted_chain : (old new : Noting) (lines : List (List ℕ)) (text : List ℕ) → Chain (Serves SaysNoting) old lines text new → new.bad ≡ noted_behind lines old.lines old.bad
noted_chain old new [] text chain = ap (λ (n : Noting). n.bad) chain.1
noted_chain old new (line ∷ lines) text chain =
    noted_chain chain.1 new lines chain.2 chain.4 ∙ (λ i. noted_behind lines (chain.3.1 i) (chain.3.2 i))

-- ---- the notes are the first ten numbers, and how many there are

take_in : (k : ℕ) (xs ys : List ℕ) → take k (take k xs ++ ys) ≡ take k (xs ++ ys)
take_in zero xs ys = refl
take_in (suc k) [] ys = refl
take_in (suc k) (x ∷ xs) ys = ap (λ l. x ∷ l) (take_in k xs ys)

count_more : (n longer : ℕ) → longer ≡ n + 1 → min (min (0 + n) (2 ^ 64 - 1) + 1) (2 ^ 64 - 1) ≡ min (0 + longer) (2 ^ 64 - 1)
count_more n longer is = omega (arith, is)

noted_more : (number : ℕ) (numbers : List ℕ) → with_bad number (noted numbers) ≡ noted (numbers ++ number ∷ [])
noted_more number numbers = λ i. record {
  first = take_in 10 numbers (number ∷ []) i;
  count = count_more (length numbers) (length (numbers ++ number ∷ [])) (length-append numbers (number ∷ [])) i;
}

noted_step : (bad : Bool) (lines : List (List ℕ)) (number : ℕ) (numbers : List ℕ) → ((before : List ℕ) → noted_behind lines number (noted before) ≡ noted (before ++ bad_behind number lines))
    → noted_behind lines number (if bad then with_bad number (noted numbers) else noted numbers) ≡ noted (numbers ++ (if bad then number ∷ bad_behind number lines else bad_behind number lines))
noted_step true lines number numbers rest =
    ap (noted_behind lines number) (noted_more number numbers) ∙ rest (numbers ++ number ∷ []) ∙ ap noted (append_assoc numbers (number ∷ []) (bad_behind number lines))
noted_step false lines number numbers rest = rest numbers

noted_is : (lines : List (List ℕ)) (count : ℕ) (numbers : List ℕ) → noted_behind lines count (noted numbers) ≡ noted (numbers ++ bad_behind count lines)
noted_is [] count numbers = ap noted (sym (append-nil numbers))
noted_is (line ∷ lines) count numbers = noted_step (is_bad (line_of (held line))) lines (more count 1) numbers (noted_is lines (more count 1))

-- ---- an array of ten places

-- a number more, where no place is left
pub number_not_kept : (numbers : List ℕ) (count after number : ℕ) → length numbers ≡ 10 → 10 ≤ count → 10 ≤ after → take after numbers ≡ take 10 (take count numbers ++ number ∷ [])
number_not_kept numbers count after number ten above too =
    let all : take count numbers ≡ numbers = take_all count numbers (omega (arith, ten, above)) in
    let front : take 10 (numbers ++ number ∷ []) ≡ take 10 numbers = take-append-le 10 numbers (number ∷ []) (omega (arith, ten)) in
    take_all after numbers (omega (arith, ten, too)) ∙ sym (take_all 10 numbers (omega (arith, ten))) ∙ sym front ∙ ap (λ l. take 10 (l ++ number ∷ [])) (sym all)

-- ---- a script

-- all of it
pub all_noted : (first : ScriptState) (begin new : Noting) (script output : List ℕ) → begin ≡ noting_at first → ServesAll SaysNoting begin script output new
    → ServesAll Says first script output new.script × (new.bad ≡ noted (bad_lines script))
all_noted first begin new script output is chain =
    let from : ServesAll SaysNoting (noting_at first) script output new = subst (λ (n : Noting). ServesAll SaysNoting n script output new) is chain in (
      script_chain (noting_at first) new (parts is_line_end script) output from,
      noted_chain (noting_at first) new (parts is_line_end script) output from ∙ noted_is (parts is_line_end script) 0 [],
    )

-- up to where it stopped
stop_says : (first : ScriptState) (new : Noting) (script : List ℕ) (count : ℕ) (output : List ℕ) → StopsAfter SaysNoting StopsNoting (noting_at first) script count output new → StopsAfter Says Stops first script count output new.script
stop_says first new script count output stop = record {
  done = stop.done;
  next = stop.next;
  later = stop.later;
  lines = stop.lines;
  counted = stop.counted;
  done_output = stop.done_output;
  between = stop.between.script;
  served = script_chain (noting_at first) stop.between stop.done stop.done_output stop.served;
  prefix = stop.prefix;
  stopped = elim stop.stopped [
    | inl none ↦ inl (none.0, ap (λ (n : Noting). n.script) none.1)
    | inr part ↦ inr part.0
  ];
  output_is = stop.output_is;
}

-- the lines that were done
done_are : (lines done rest : List (List ℕ)) (count : ℕ) → lines ≡ done ++ rest → length done ≡ count → done ≡ take count lines
done_are lines done rest count are counted = sym (take-append_seam done rest) ∙ (λ i. take (counted i) (sym are i))

stop_noted : (first : ScriptState) (new : Noting) (script : List ℕ) (count : ℕ) (output : List ℕ) → StopsAfter SaysNoting StopsNoting (noting_at first) script count output new → new.bad ≡ noted (bad_among count script)
stop_noted first new script count output stop =
    let same : new.bad ≡ stop.between.bad = elim stop.stopped [
      | inl none ↦ ap (λ (n : Noting). n.bad) none.1
      | inr part ↦ part.2
    ] in
    same ∙ noted_chain (noting_at first) stop.between stop.done stop.done_output stop.served ∙ noted_is stop.done 0 []
    ∙ ap (λ lines. noted (bad_behind 0 lines)) (done_are (parts is_line_end script) stop.done (stop.next ∷ stop.later) count stop.lines stop.counted)

pub stopped_noted : (first : ScriptState) (begin new : Noting) (script : List ℕ) (count : ℕ) (output : List ℕ) → begin ≡ noting_at first → StopsAfter SaysNoting StopsNoting begin script count output new
    → StopsAfter Says Stops first script count output new.script × (new.bad ≡ noted (bad_among count script))
stopped_noted first begin new script count output is stop =
    let from : StopsAfter SaysNoting StopsNoting (noting_at first) script count output new = subst (λ (n : Noting). StopsAfter SaysNoting StopsNoting n script count output new) is stop in
    (stop_says first new script count output from, stop_noted first new script count output from)
