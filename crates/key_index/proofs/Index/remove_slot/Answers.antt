use Rattle.std.proofs.Common.{◌≡◌, ◌<◌, ◌⊎◌, length, set, None, get_or, refl, sym, ap, subst, ◌∙◌, arith}
use Rattle.std.proofs.lemmas.List.{map-set}
use Rattle.key_index.specs.Keys.{keys, HasDistinctKeys, IsAbsent}
use Rattle.key_index.specs.Chains.{entry_in, hash_of, bucket_of, HasNode, IsBefore, IsMarked, IsTagged, IsSound, link_at, no_link, links_with_next, heads_with_next, marks_behind}
use Rattle.entry_pool.specs.declared.slot_handle.TheConstants.{NONE}
use Rattle.key_index.specs.declared.Link.{Link}
use Rattle.key_index.proofs.ChainLemmas.{bucket_is}
use Rattle.key_index.proofs.SearchLemmas.{before_inside}
use Rattle.key_index.proofs.NodeLemmas.{kept_node, node_within, holds_shown, shows_held, read_is, distinct_keys, absent_without}
use Rattle.key_index.proofs.UnlinkLemmas.{unlinked, length_with_next}
use Rattle.key_index.proofs.MarkLemmas.{marked-without}
use Rattle.key_index.proofs.TagLemmas.{tagged-without}
use Rattle.key_index.proofs.Index.remove_slot.Goals as goal

pub before-before-requires-clause-chained : goal.before-before-requires-clause-chained
before-before-requires-clause-chained c =
    let i = c.self.inside in let links = i.links.items in let nodes = i.nodes.items in let heads = i.heads.items in let slot = c.args.slot in let bucket = c.bucket-bucket.result in let key = c.key_of.result.now in
    let holds = holds_shown nodes slot key (rw (← c.self.view_is) at c.key_of.ensures) in
    let buckets : c.len.result ≡ length heads = omega (arith, c.len.ensures, i.heads.ok) in
    let inside : bucket < length heads = let within = c.bucket-bucket.ensures.within in omega arith in
    let home = ap (bucket_of i.seed (length heads)) holds.2 ∙ bucket_is i.seed c.hash-hash.result bucket c.len.result heads key (c.hash-hash.ensures ∙ ap (hash_of i.seed) c.bytes.ensures) buckets c.bucket-bucket.ensures.bucket in
    let old = c.self.invariant.0.chains bucket inside in
    rw (c.deref.ensures.value, read_is heads bucket c.index.result.now NONE inside c.index.ensures) (old.slots, old.linked, old.distinct, old.complete slot holds.0 holds.1 home)

pub set_next-requires-clause-slot : goal.set_next-requires-clause-slot
set_next-requires-clause-slot c =
    let i = c.self.inside in let links = i.links.items in let heads = i.heads.items in let slot = c.args.slot in let bucket = c.bucket-bucket.result in
    let inside : bucket < length heads = let within = c.bucket-bucket.ensures.within in omega (arith, c.len.ensures, i.heads.ok) in
    let way : ((c.before-before.result ≡ NONE) × (get_or heads bucket NONE ≡ slot)) ⊎ IsBefore links (get_or heads bucket NONE) c.before-before.result slot =
    rw (c.deref.ensures.value, read_is heads bucket c.index.result.now NONE inside c.index.ensures) at c.before-before.ensures in
    λ some. omega (arith, before_inside links (get_or heads bucket NONE) c.before-before.result slot way some, i.links.ok)

pub invariant_of-self : goal.invariant_of-self
invariant_of-self c =
    let i = c.self.inside in let links = i.links.items in let nodes = i.nodes.items in let heads = i.heads.items in let slot = c.args.slot in let bucket = c.bucket-bucket.result in let key = c.key_of.result.now in
    let holds = holds_shown nodes slot key (rw (← c.self.view_is) at c.key_of.ensures) in
    let buckets : c.len.result ≡ length heads = omega (arith, c.len.ensures, i.heads.ok) in
    let inside : bucket < length heads = let within = c.bucket-bucket.ensures.within in omega arith in
    let home = ap (bucket_of i.seed (length heads)) holds.2 ∙ bucket_is i.seed c.hash-hash.result bucket c.len.result heads key (c.hash-hash.ensures ∙ ap (hash_of i.seed) c.bytes.ensures) buckets c.bucket-bucket.ensures.bucket in
    let way : ((c.before-before.result ≡ NONE) × (get_or heads bucket NONE ≡ slot)) ⊎ IsBefore links (get_or heads bucket NONE) c.before-before.result slot =
    rw (c.deref.ensures.value, read_is heads bucket c.index.result.now NONE inside c.index.ensures) at c.before-before.ensures in
    let next : c.index-2.result.now.next ≡ (link_at links slot).next =
    ap (λ (l : Link). l.next) (read_is links slot c.index-2.result.now no_link (let within = node_within nodes slot holds.0 holds.1 in omega (arith, c.self.invariant.0.long)) c.index-2.ensures) in
    let later = links_with_next links c.before-before.result (link_at links slot).next in
    let left = set nodes slot None in
    let heads' = heads_with_next heads bucket c.before-before.result (link_at links slot).next in
    let sound : IsSound later left heads' i.seed = unlinked links nodes heads i.seed slot bucket holds.0 c.self.invariant.0 holds.1 inside home c.before-before.result way in
    let longh : length heads' ≡ length heads = length_with_next heads bucket c.before-before.result (link_at links slot).next in
    let headed : c.set_next.new.heads.items ≡ heads' = c.set_next.ensures.heads ∙ ap (heads_with_next heads bucket c.before-before.result) next in
    let linked : c.set_next.new.links.items ≡ later = c.set_next.ensures.links ∙ ap (links_with_next links c.before-before.result) next in
    let first : c.index-3.result.now ≡ get_or heads' bucket NONE =
    read_is c.set_next.new.heads.items bucket c.index-3.result.now NONE (omega (arith, ap length headed ∙ longh)) c.index-3.ensures ∙ ap (λ l. get_or l bucket NONE) headed in
    let marked : IsMarked left heads' (marks_behind i.marks.items bucket c.index-3.result.now) i.seed =
    marked-without nodes left heads heads' i.marks.items i.seed bucket c.self.invariant.1 longh inside later c.index-3.result.now sound (λ q n has. (kept_node nodes slot q n has).1) first in
    let tagged : IsTagged later left i.seed =
    tagged-without links nodes i.seed c.self.invariant.2 slot c.before-before.result (link_at links slot).next (before_inside links (get_or heads bucket NONE) c.before-before.result slot way) in
    rw (c.replace.ensures.after, linked, headed, c.forget_marks.ensures) (sound, marked, tagged)

pub returns-clause-key : goal.returns-clause-key
returns-clause-key c =
    let nodes = c.self.inside.nodes.items in let slot = c.args.slot in
    let holds = holds_shown nodes slot c.key_of.result.now (rw (← c.self.view_is) at c.key_of.ensures) in
    let has : HasNode nodes slot c.in-Some.field-0 = sym (read_is nodes slot _ None (node_within nodes slot holds.0 holds.1) c.index_mut.ensures.value) ∙ sym c.replace.ensures.value ∙ c.in-Some.is in
    rw (← c.self.view_is) (shows_held nodes slot c.in-Some.field-0.key (c.in-Some.field-0, has, refl))

pub returns-clause-removed : goal.returns-clause-removed
returns-clause-removed c = rw (← c.self.view_is, c.replace.ensures.after) (ap keys (map-set entry_in c.self.inside.nodes.items c.args.slot None))

pub returns-clause-absent : goal.returns-clause-absent
returns-clause-absent c =
    let i = c.self.inside in
    let distinct = subst HasDistinctKeys c.self.view_is (distinct_keys i.links.items i.nodes.items i.heads.items i.seed c.self.invariant.0) in
    let absent = absent_without c.args.self.now c.args.slot c.in-Some.field-0.key distinct (returns-clause-key c) in
    subst (λ k. IsAbsent k c.in-Some.field-0.key) (sym (returns-clause-removed c)) absent
