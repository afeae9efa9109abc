-- Where the service of a text's lines stands.
use Rattle.std.proofs.Common.{◌≡◌, ℕ, ◌+◌, Option, Some, List, [], ◌∷◌, ◌++◌, length-append, refl, sym, ap, ◌∙◌, subst, append_assoc, append-nil, inl, inr}
use Rattle.base_lines.specs.Parts.{parts, is_line_end}
use Rattle.base_lines.specs.Line.{held}
use Rattle.base_lines.specs.Chain.{Chain}
use Rattle.base_lines.proofs.PartLemmas.{parts_join}
use Rattle.base_lines.proofs.ChainLemmas.{Chain-more}
use Rattle.base_lines.specs.Service.{Serves, ServesAll, Progress, StopsAfter}

module _ {S : Type 0} (says : S → Option (List ℕ) → List ℕ → S → Type 0) where
  -- at the start
  pub progress_none : (old : S) (line : Option (List ℕ)) → line ≡ Some [] → Progress says old [] [] line 0 [] old
  progress_none old line is = record { done = []; next = []; lines = refl; counted = refl; held_is = is; served = (refl, refl) }

  -- a piece more of the text
  pub progress_piece : (old now : S) (whole piece first : List ℕ) (later : List (List ℕ)) (line longer : Option (List ℕ)) (count : ℕ) (output : List ℕ)
      → parts is_line_end piece ≡ first ∷ later → ((l : List ℕ) → line ≡ held l → longer ≡ held (l ++ first))
      → Progress says old whole [] line count output now → Progress says old (whole ++ piece) later longer count output now
  progress_piece old now whole piece first later line longer count output are grows p = record {
    done = p.done;
    next = p.next ++ first;
    lines = parts_join is_line_end whole piece first later are p.done p.next p.lines;
    counted = p.counted;
    held_is = grows p.next p.held_is;
    served = p.served;
  }

  -- the line that was held is served, and the next one is held
  pub progress_line : (old now new : S) (whole part : List ℕ) (later : List (List ℕ)) (line next : Option (List ℕ)) (count : ℕ) (output text : List ℕ)
      → Progress says old whole (part ∷ later) line count output now → says now line text new → next ≡ held part
      → Progress says old whole later next (count + 1) (output ++ text) new
  progress_line old now new whole part later line next count output text p here is = record {
    done = p.done ++ p.next ∷ [];
    next = part;
    lines = p.lines ∙ sym (append_assoc p.done (p.next ∷ []) (part ∷ later));
    counted = length-append p.done (p.next ∷ []) ∙ ap (λ n. n + 1) p.counted;
    held_is = is;
    served = Chain-more (Serves says) old now new p.done p.next output text p.served (subst (λ l. says now l text new) p.held_is here);
  }

  -- the answer to the line that is held stops
  pub stops_within : (stops : S → Option (List ℕ) → List ℕ → S → Type 0) (old now new : S) (whole : List ℕ) (later : List (List ℕ)) (line : Option (List ℕ)) (count : ℕ) (output prefix : List ℕ)
      → Progress says old whole later line count output now → stops now line prefix new → StopsAfter says stops old whole count (output ++ prefix) new
  stops_within stops old now new whole later line count output prefix p here = record {
    done = p.done;
    next = p.next;
    later = later;
    lines = p.lines;
    counted = p.counted;
    done_output = output;
    between = now;
    served = p.served;
    prefix = prefix;
    stopped = inr (subst (λ l. stops now l prefix new) p.held_is here);
    output_is = refl;
  }

  -- nothing of it was written
  pub stops_before : (stops : S → Option (List ℕ) → List ℕ → S → Type 0) (old now : S) (whole : List ℕ) (later : List (List ℕ)) (line : Option (List ℕ)) (count : ℕ) (output : List ℕ)
      → Progress says old whole later line count output now → StopsAfter says stops old whole count output now
  stops_before stops old now whole later line count output p = record {
    done = p.done;
    next = p.next;
    later = later;
    lines = p.lines;
    counted = p.counted;
    done_output = output;
    between = now;
    served = p.served;
    prefix = [];
    stopped = inl (refl, refl);
    output_is = sym (append-nil output);
  }

  -- the last line was served too
  pub all_served : (old now new : S) (whole : List ℕ) (line : Option (List ℕ)) (count : ℕ) (output text : List ℕ)
      → Progress says old whole [] line count output now → says now line text new → ServesAll says old whole (output ++ text) new
  all_served old now new whole line count output text p here =
      subst (λ ls. Chain (Serves says) old ls (output ++ text) new) (sym p.lines)
      (Chain-more (Serves says) old now new p.done p.next output text p.served (subst (λ l. says now l text new) p.held_is here))

  pub progress_along : (old now : S) (whole : List ℕ) (later : List (List ℕ)) (line : Option (List ℕ)) (count count' : ℕ) (output output' : List ℕ) → count ≡ count' → output ≡ output'
      → Progress says old whole later line count output now → Progress says old whole later line count' output' now
  progress_along old now whole later line count count' output output' c o p = record {
    done = p.done;
    next = p.next;
    lines = p.lines;
    counted = p.counted ∙ c;
    held_is = p.held_is;
    served = subst (λ t. Chain (Serves says) old p.done t now) o p.served;
  }

  -- where nothing stands behind the line that is held
  pub progress_last : (old now : S) (whole : List ℕ) (later : List (List ℕ)) (line : Option (List ℕ)) (count : ℕ) (output : List ℕ) → later ≡ []
      → Progress says old whole later line count output now → Progress says old whole [] line count output now
  progress_last old now whole later line count output none p = subst (λ ls. Progress says old whole ls line count output now) none p

  pub stops_along : (stops : S → Option (List ℕ) → List ℕ → S → Type 0) (old now : S) (whole : List ℕ) (count count' : ℕ) (output output' : List ℕ) → count ≡ count' → output ≡ output'
      → StopsAfter says stops old whole count output now → StopsAfter says stops old whole count' output' now
  stops_along stops old now whole count count' output output' c o stop =
      subst (λ t. StopsAfter says stops old whole count' t now) o (subst (λ n. StopsAfter says stops old whole n output now) c stop)
