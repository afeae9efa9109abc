-- How an `Index` lays out its chains. No public clause cites this module.
use Rattle.std.specs.Prelude.{◌≡◌, ℕ, zero, suc, ◌^◌, ◌<◌, ◌≤◌, ◌⊎◌, ◌==◌, if◌then◌else◌, List, [], ◌∷◌, ◌++◌, length, get_or, slice_set, Option, Some, None, eqb}
use Rattle.std.specs.Prelude.{bit_and, ◌-◌, ◌/◌}
use Rattle.std.specs.Int.{bit_at}
use Rattle.core.specs.Hash.DefaultHasher.{finish, write, with_keys}
use Rattle.std.specs.List.{IsDistinct}
use Rattle.key_index.specs.Keys.{Entry, entry}
use Rattle.key_index.specs.declared.Node.{Node}
use Rattle.key_index.specs.declared.Link.{Link}
use Rattle.entry_pool.specs.declared.slot_handle.TheConstants.{NONE}

-- SipHash-1-3 of the bytes, under the seed for both keys
unfoldable pub hash_of : ℕ → List ℕ → ℕ
hash_of seed bytes = finish (write (with_keys seed seed) bytes)

-- the bucket of a key: so many of the low bits of its hash
abbrev pub bucket_of : ℕ → ℕ → List ℕ → ℕ
bucket_of seed buckets key = bit_and (hash_of seed key) (buckets - 1)

-- the mark of a key: the three highest bits of its hash
abbrev pub mark_of : ℕ → List ℕ → ℕ
mark_of seed key = hash_of seed key / 2 ^ 61

-- the tag of a key: the higher half of its hash
abbrev pub tag_of : ℕ → List ℕ → ℕ
tag_of seed key = hash_of seed key / 2 ^ 32

-- the marks, where a bucket whose chain has no first slot has none
abbrev pub marks_behind : List ℕ → ℕ → ℕ → List ℕ
marks_behind marks bucket first = if first == NONE then slice_set marks bucket 0 else marks

-- the heads, where a bucket that no slot comes before begins with another
abbrev pub heads_with_next : List ℕ → ℕ → ℕ → ℕ → List ℕ
heads_with_next heads bucket before next = if before == NONE then slice_set heads bucket next else heads

-- the slot is one of these
abbrev pub IsAmong : ℕ → List ℕ → Type 0
IsAmong slot [] = ⊥
IsAmong slot (first ∷ rest) = (slot ≡ first) ⊎ IsAmong slot rest

-- what a contract sees of a slot
abbrev pub entry_in : Option Node → Option Entry
entry_in None = None
entry_in (Some node) = Some (entry node.key node.generation)

-- the slot has this node
abbrev pub HasNode : List (Option Node) → ℕ → Node → Type 0
HasNode nodes slot node = get_or nodes slot None ≡ Some node

-- the slot has the key
abbrev pub HoldsKey : List (Option Node) → ℕ → List ℕ → Type 0
HoldsKey nodes slot key = (node : Node) × HasNode nodes slot node × (node.key ≡ key)

abbrev pub no_link : Link
no_link = record { next = 0; tag = 0 }

abbrev pub link_at : List Link → ℕ → Link
link_at links slot = get_or links slot no_link

-- from this slot on, the links of these slots each name the next
abbrev pub IsChain : List Link → ℕ → List ℕ → Type 0
IsChain links at [] = at ≡ NONE
IsChain links at (slot ∷ slots) = (at ≡ slot) × (slot < length links) × IsChain links (link_at links slot).next slots

-- in the chain from `first` on, the one slot stands right before the other
abbrev pub IsBefore : List Link → ℕ → ℕ → ℕ → Type 0
IsBefore links first before slot = (front : List ℕ) × (back : List ℕ) × IsChain links first (front ++ before ∷ (slot ∷ back))

-- the links, where a slot names another next one
abbrev pub links_with_next : List Link → ℕ → ℕ → List Link
links_with_next links before next = if before == NONE then links else slice_set links before (record { next = next; tag = (link_at links before).tag })

-- how many slots a walk from this one visits, at most `most`
abbrev pub steps_left : List Link → ℕ → ℕ → ℕ
steps_left links zero at = 0
steps_left links (suc most) at = if at == NONE then 0 else suc (steps_left links most (link_at links at).next)

-- the chain from this slot on has the slot that has the key, if one has it
pub record LeadsTo (links : List Link) (nodes : List (Option Node)) (at : ℕ) (key : List ℕ) : Type 0 where
  pub slots : List ℕ
  pub linked : IsChain links at slots
  pub distinct : IsDistinct eqb slots
  pub complete : (slot : ℕ) → HoldsKey nodes slot key → IsAmong slot slots

-- the chain from this slot on has the slots whose keys are of this bucket
pub record Chain (links : List Link) (nodes : List (Option Node)) (seed buckets bucket first : ℕ) : Type 0 where
  pub slots : List ℕ
  pub linked : IsChain links first slots
  pub distinct : IsDistinct eqb slots
  pub home : (slot : ℕ) → IsAmong slot slots → (node : Node) × HasNode nodes slot node × (bucket_of seed buckets node.key ≡ bucket)
  pub complete : (slot : ℕ) (node : Node) → HasNode nodes slot node → bucket_of seed buckets node.key ≡ bucket → IsAmong slot slots

pub record IsSound (links : List Link) (nodes : List (Option Node)) (heads : List ℕ) (seed : ℕ) : Type 0 where
  pub small : length nodes ≤ 2 ^ 30
  pub some : 0 < length heads
  -- a link beside each node
  pub long : length links ≡ length nodes
  -- each bucket's head is the first of its chain
  pub chains : (bucket : ℕ) → bucket < length heads → Chain links nodes seed (length heads) bucket (get_or heads bucket NONE)
  -- no two slots have one key
  pub single : (i j : ℕ) (m n : Node) → HasNode nodes i m → HasNode nodes j n → m.key ≡ n.key → i ≡ j

-- each key's tag stands beside the link of its slot
pub record IsTagged (links : List Link) (nodes : List (Option Node)) (seed : ℕ) : Type 0 where
  pub tagged : (slot : ℕ) (node : Node) → HasNode nodes slot node → (link_at links slot).tag ≡ tag_of seed node.key

-- each key's mark is among those of its bucket
pub record IsMarked (nodes : List (Option Node)) (heads marks : List ℕ) (seed : ℕ) : Type 0 where
  pub long : length marks ≡ length heads
  pub marked : (slot : ℕ) (node : Node) → HasNode nodes slot node
      → bit_at (get_or marks (bucket_of seed (length heads) node.key) 0) (mark_of seed node.key) ≡ 1
