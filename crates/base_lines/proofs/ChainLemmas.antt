-- Work that is done one item after another.
use Rattle.std.proofs.Common.{◌≡◌, ℕ, List, [], ◌∷◌, ◌++◌, length, length-append, ◌+◌, refl, sym, ap, ◌∙◌, append_assoc, append-nil, subst}
use Rattle.base_lines.specs.Chain.{Chain, DoesUpTo, StopsIn}

-- one chain after another
pub Chain-append : {S X : Type 0} (step : S → X → List ℕ → S → Type 0) (old mid new : S) (xs ys : List X) (text more : List ℕ) → Chain step old xs text mid → Chain step mid ys more new → Chain step old (xs ++ ys) (text ++ more) new
Chain-append {S} step old mid new [] ys text more chain rest =
    let From : S → Type 0 = λ s. Chain step s ys (text ++ more) new in
    let Text : List ℕ → Type 0 = λ t. Chain step mid ys t new in
    subst From chain.1 (subst Text (ap (λ t. t ++ more) (sym chain.0)) rest)
Chain-append step old mid new (x ∷ xs) ys text more chain rest =
    (chain.0, chain.1, chain.2 ++ more, chain.3, Chain-append step chain.1 mid new xs ys chain.2 more chain.4 rest, ap (λ t. t ++ more) chain.5 ∙ append_assoc chain.0 chain.2 more)

-- one item alone
pub Chain-one : {S X : Type 0} (step : S → X → List ℕ → S → Type 0) (old new : S) (x : X) (text : List ℕ) → step old x text new → Chain step old (x ∷ []) text new
Chain-one step old new x text here = (text, new, [], here, (refl, refl), sym (append-nil text))

-- an item more
pub Chain-more : {S X : Type 0} (step : S → X → List ℕ → S → Type 0) (old mid new : S) (xs : List X) (x : X) (text more : List ℕ) → Chain step old xs text mid → step mid x more new → Chain step old (xs ++ x ∷ []) (text ++ more) new
Chain-more step old mid new xs x text more chain here = Chain-append step old mid new xs (x ∷ []) text more chain (Chain-one step mid new x more here)

-- a stop in the item behind a chain
pub stops_in : {S X : Type 0} (step : S → X → List ℕ → S → Type 0) (old mid new : S) (items done later : List X) (next : X) (text prefix unwritten : List ℕ) → items ≡ done ++ next ∷ later
    → Chain step old done text mid → step mid next (prefix ++ unwritten) new → StopsIn step old items (length done) (text ++ prefix) new
stops_in step old mid new items done later next text prefix unwritten are chain could = record {
  done = done;
  next = next;
  later = later;
  items_are = are;
  counted = refl;
  done_text = text;
  between = mid;
  chain = chain;
  prefix = prefix;
  unwritten = unwritten;
  could = could;
  text_is = refl;
}

-- at the start all items are left
pub does_none : {S X : Type 0} (step : S → X → List ℕ → S → Type 0) (old : S) (items left : List X) → left ≡ items → DoesUpTo step old items left 0 [] old
does_none step old items left all = record { done = []; items_are = sym all; counted = refl; chain = (refl, refl) }

-- the next item is done too
pub does_more : {S X : Type 0} (step : S → X → List ℕ → S → Type 0) (old now new : S) (items left later : List X) (next : X) (count : ℕ) (text more : List ℕ) → left ≡ next ∷ later
    → DoesUpTo step old items left count text now → step now next more new → DoesUpTo step old items later (count + 1) (text ++ more) new
does_more step old now new items left later next count text more here done_so_far says = record {
  done = done_so_far.done ++ next ∷ [];
  items_are = done_so_far.items_are ∙ ap (λ l. done_so_far.done ++ l) here ∙ sym (append_assoc done_so_far.done (next ∷ []) later);
  counted = length-append done_so_far.done (next ∷ []) ∙ ap (λ n. n + 1) done_so_far.counted;
  chain = Chain-more step old now new done_so_far.done next text more done_so_far.chain says;
}

-- all items are done
pub does_all : {S X : Type 0} (step : S → X → List ℕ → S → Type 0) (old now : S) (items left : List X) (count : ℕ) (text : List ℕ) → left ≡ [] → DoesUpTo step old items left count text now → Chain step old items text now
does_all {S} {X} step old now items left count text none done_so_far =
    let P : List X → Type 0 = λ l. Chain step old l text now in
    subst P (sym (done_so_far.items_are ∙ ap (λ l. done_so_far.done ++ l) none ∙ append-nil done_so_far.done)) done_so_far.chain

-- the next item's text stops within
pub does_stop : {S X : Type 0} (step : S → X → List ℕ → S → Type 0) (old now new : S) (items left later : List X) (next : X) (count : ℕ) (text prefix unwritten : List ℕ) → left ≡ next ∷ later
    → DoesUpTo step old items left count text now → step now next (prefix ++ unwritten) new → StopsIn step old items count (text ++ prefix) new
does_stop step old now new items left later next count text prefix unwritten here done_so_far could =
    let P : ℕ → Type 0 = λ n. StopsIn step old items n (text ++ prefix) new in
    subst P done_so_far.counted
    (stops_in step old now new items done_so_far.done later next text prefix unwritten (done_so_far.items_are ∙ ap (λ l. done_so_far.done ++ l) here) done_so_far.chain could)
