-- What the slots hold, and what they show.
use Rattle.std.proofs.Common.{◌≡◌, ◌≢◌, inl, inr, ℕ, zero, suc, ◌^◌, ◌<◌, ◌≤◌, false, eqb, List, [], ◌∷◌, map, length, get_or, replicate, Option, Some, None, refl, sym, ap, ◌∙◌, arith, set, length-set}
use Rattle.std.proofs.lemmas.Bool.{ne_eqb, cases_lt}
use Rattle.std.proofs.Permutation.{which}
use Rattle.std.proofs.lemmas.List.{get_or_past, get_or-set_same, get_or-set_other}
use Rattle.std.proofs.Math.ListN.{get_or-map}
use Rattle.key_index.specs.Chains.{HasNode, HoldsKey, IsSound, entry_in}
use Rattle.key_index.specs.Keys.{Entry, Keys, entry, keys, HasDistinctKeys, HasKey, IsAbsent, without_slot}
use Rattle.key_index.specs.declared.Node.{Node}
use Rattle.key_index.specs.declared.Link.{Link}
use Rattle.entry_pool.specs.declared.slot_handle.TheConstants.{NONE}

-- within a list, what a read gives does not come from the default
any_default : {X : Type 0} (xs : List X) (i : ℕ) (d e : X) → i < length xs → get_or xs i d ≡ get_or xs i e
any_default [] i d e inside = absurd (omega arith)
any_default (x ∷ xs) zero d e inside = refl
any_default (x ∷ xs) (suc i) d e inside = any_default xs i d e (omega arith)

pub read_is : {X : Type 0} (xs : List X) (i : ℕ) (read d : X) → i < length xs → read ≡ get_or xs i read → read ≡ get_or xs i d
read_is xs i read d inside is = is ∙ any_default xs i read d inside

pub node_within : (nodes : List (Option Node)) (slot : ℕ) (node : Node) → HasNode nodes slot node → slot < length nodes
node_within nodes slot node has = elim (cases_lt slot (length nodes)) [ inl lt ↦ lt | inr past ↦ let none = get_or_past nodes slot None past in cc ]

pub not_none : (slot n : ℕ) → slot < n → n ≤ 2 ^ 30 → eqb slot NONE ≡ false
not_none slot n within small = ne_eqb slot NONE (λ same. omega arith)

pub same_node : (nodes : List (Option Node)) (slot : ℕ) (m n : Node) → HasNode nodes slot m → HasNode nodes slot n → m ≡ n
same_node nodes slot m n p q = cc

-- a slot that shows an entry has a node with it
has_entry : (nodes : List (Option Node)) (slot : ℕ) (e : Entry) → entry_in (get_or nodes slot None) ≡ Some e → (n : Node) × HasNode nodes slot n × (entry n.key n.generation ≡ e)
has_entry nodes slot e shown = by_place (get_or nodes slot None) refl shown
  where
    by_place : (o : Option Node) → get_or nodes slot None ≡ o → entry_in o ≡ Some e → (n : Node) × HasNode nodes slot n × (entry n.key n.generation ≡ e)
    by_place None is shown = cc
    by_place (Some n) is shown = (n, is, cc)

-- a slot that shows a key holds it, and the other way round
pub holds_shown : (nodes : List (Option Node)) (slot : ℕ) (key : List ℕ) → HasKey (keys (map entry_in nodes)) slot key → HoldsKey nodes slot key
holds_shown nodes slot key has =
    let n = has_entry nodes slot _ (sym (get_or-map entry_in nodes slot None) ∙ has.1) in
    (n.0, n.1, ap (λ (e : Entry). e.key) n.2)

pub shows_held : (nodes : List (Option Node)) (slot : ℕ) (key : List ℕ) → HoldsKey nodes slot key → HasKey (keys (map entry_in nodes)) slot key
shows_held nodes slot key holds = (holds.0.generation, get_or-map entry_in nodes slot None ∙ ap entry_in holds.1 ∙ ap (λ k. Some (entry k holds.0.generation)) holds.2)

-- a slot that shows nothing has no node
pub no_entry : (nodes : List (Option Node)) (slot : ℕ) → entry_in (get_or nodes slot None) ≡ None → get_or nodes slot None ≡ None
no_entry nodes slot shown = by_place (get_or nodes slot None) refl shown
  where
    by_place : (o : Option Node) → get_or nodes slot None ≡ o → entry_in o ≡ None → get_or nodes slot None ≡ None
    by_place None is shown = is
    by_place (Some n) is shown = cc

pub no_entries : (n : ℕ) → map entry_in (replicate n None) ≡ replicate n None
no_entries zero = refl
no_entries (suc n) = ap (λ l. None ∷ l) (no_entries n)

-- what the two slots of one key show
pub distinct_keys : (links : List Link) (nodes : List (Option Node)) (heads : List ℕ) (seed : ℕ) → IsSound links nodes heads seed → HasDistinctKeys (keys (map entry_in nodes))
distinct_keys links nodes heads seed sound i j key p q =
    let m = has_entry nodes i _ (sym (get_or-map entry_in nodes i None) ∙ p.1) in
    let n = has_entry nodes j _ (sym (get_or-map entry_in nodes j None) ∙ q.1) in
    sound.single i j m.0 n.0 m.1 n.1 (ap (λ (e : Entry). e.key) m.2 ∙ sym (ap (λ (e : Entry). e.key) n.2))

set_none : {X : Type 0} (xs : List (Option X)) (i : ℕ) → get_or (set xs i None) i None ≡ None
set_none xs i = elim (cases_lt i (length xs)) [ inl lt ↦ get_or-set_same xs i None None lt | inr past ↦ get_or_past (set xs i None) i None (omega (arith, length-set xs i None)) ]

-- a key that was taken out of its slot is in no other
pub absent_without : (index : Keys) (slot : ℕ) (key : List ℕ) → HasDistinctKeys index → HasKey index slot key → IsAbsent (without_slot index slot) key
absent_without index slot key distinct here q has =
    elim (which q slot) [
      | inl same ↦ (let none = ap (λ k. get_or (set index.slots slot None) k None) same ∙ set_none index.slots slot in let some = has.1 in cc)
      | inr other ↦ other (distinct q slot key (has.0, sym (get_or-set_other index.slots slot q None None other) ∙ has.1) here)
    ]

-- a node that is there without a slot's was there, in another slot
pub kept_node : (nodes : List (Option Node)) (slot q : ℕ) (n : Node) → HasNode (set nodes slot None) q n → (q ≢ slot) × HasNode nodes q n
kept_node nodes slot q n has =
    let other : q ≢ slot = λ e. (let none = ap (λ k. get_or (set nodes slot None) k None) e ∙ set_none nodes slot in cc) in
    (other, sym (get_or-set_other nodes slot q None None other) ∙ has)
