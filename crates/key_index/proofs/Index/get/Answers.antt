use Rattle.std.proofs.Common.{◌≡◌, ◌<◌, ◌/◌, ◌^◌, length, get_or, true≢false, sym, ap, subst, ◌∙◌, arith}
use Rattle.std.specs.Int.{bit_at}
use Rattle.key_index.specs.Chains.{hash_of, bucket_of, mark_of, tag_of, LeadsTo}
use Rattle.entry_pool.specs.declared.slot_handle.TheConstants.{NONE}
use Rattle.key_index.proofs.ChainLemmas.{bucket_is}
use Rattle.key_index.proofs.MarkLemmas.{leads_all, absent_unmarked, IsMarkedKey}
use Rattle.key_index.proofs.TagLemmas.{tag_held}
use Rattle.key_index.proofs.NodeLemmas.{holds_shown, distinct_keys, read_is}
use Rattle.key_index.proofs.Index.get.Goals as goal

pub returns-then-not-has_mark-clause-absent : goal.returns-then-not-has_mark-clause-absent
returns-then-not-has_mark-clause-absent c =
    let i = c.self.inside in let nodes = i.nodes.items in let heads = i.heads.items in let marks = i.marks.items in let bucket = c.bucket-bucket.result in let key = c.args.key.now in
    let buckets : c.len.result ≡ length heads = omega (arith, c.len.ensures, i.heads.ok) in
    let inside : bucket < length marks = let within = c.bucket-bucket.ensures.within in omega (arith, c.self.invariant.1.long) in
    let hashed : c.hash-hash.result ≡ hash_of i.seed key = c.hash-hash.ensures ∙ ap (hash_of i.seed) c.bytes.ensures in
    let home = bucket_is i.seed c.hash-hash.result bucket c.len.result heads key hashed buckets c.bucket-bucket.ensures.bucket in
    let mark : c.mark.result ≡ mark_of i.seed key = c.mark.ensures.mark ∙ ap (λ h. h / 2 ^ 61) hashed in
    let read : c.index.result.now ≡ get_or marks bucket 0 = read_is marks bucket c.index.result.now 0 inside c.index.ensures in
    let missing : IsMarkedKey marks i.seed (length heads) key → ⊥ = λ is.
    let now : bit_at c.index.result.now c.mark.result ≡ 1 = ap (λ v. bit_at v c.mark.result) (read ∙ ap (λ b. get_or marks b 0) (sym home)) ∙ ap (bit_at (get_or marks (bucket_of i.seed (length heads) key) 0)) mark ∙ is in
    true≢false (sym (c.has_mark.ensures.1 now) ∙ c.if-not-has_mark.true) in
    rw (← c.self.view_is) (λ slot has. absent_unmarked nodes heads marks i.seed key c.self.invariant.1 missing slot (holds_shown nodes slot key has))

pub find_in_chain-requires-clause-chained : goal.find_in_chain-requires-clause-chained
find_in_chain-requires-clause-chained c =
    let i = c.self.inside in let links = i.links.items in let nodes = i.nodes.items in let heads = i.heads.items in let bucket = c.bucket-bucket.result in let key = c.args.key.now in
    let buckets : c.len.result ≡ length heads = omega (arith, c.len.ensures, i.heads.ok) in
    let inside : bucket < length heads = let within = c.bucket-bucket.ensures.within in omega arith in
    let home = bucket_is i.seed c.hash-hash.result bucket c.len.result heads key (c.hash-hash.ensures ∙ ap (hash_of i.seed) c.bytes.ensures) buckets c.bucket-bucket.ensures.bucket in
    let start : get_or heads (bucket_of i.seed (length heads) key) NONE ≡ c.index-2.result.now = ap (λ b. get_or heads b NONE) home ∙ sym (read_is heads bucket c.index-2.result.now NONE inside c.index-2.ensures) in
    rw (c.deref.ensures.value, c.deref-2.ensures.value) (subst (λ k. LeadsTo links nodes k key) start (leads_all links nodes heads i.seed key c.self.invariant.0))

pub find_in_chain-requires-clause-tagged : goal.find_in_chain-requires-clause-tagged
find_in_chain-requires-clause-tagged c =
    let i = c.self.inside in let key = c.args.key.now in
    let tag : c.tag.result ≡ tag_of i.seed key = c.tag.ensures ∙ ap (λ h. h / 2 ^ 32) (c.hash-hash.ensures ∙ ap (hash_of i.seed) c.bytes.ensures) in
    rw (c.deref.ensures.value, c.deref-2.ensures.value) (λ slot holds. tag_held i.links.items i.nodes.items i.seed c.self.invariant.2 slot key holds ∙ sym tag)

pub returns-in_err-slot-clause-absent : goal.returns-in_err-slot-clause-absent
returns-in_err-slot-clause-absent c =
    let absent = rw c.deref-2.ensures.value at c.in_err-slot.ensures.absent in
    rw (c.from_residual.ensures, ← c.self.view_is) (λ slot has. absent slot (holds_shown c.self.inside.nodes.items slot c.args.key.now has))

pub returns-then-not-has_mark-clause-distinct : goal.returns-then-not-has_mark-clause-distinct
returns-then-not-has_mark-clause-distinct c = rw (← c.self.view_is) (distinct_keys c.self.inside.links.items c.self.inside.nodes.items c.self.inside.heads.items c.self.inside.seed c.self.invariant.0)

pub returns-in_err-slot-clause-distinct : goal.returns-in_err-slot-clause-distinct
returns-in_err-slot-clause-distinct c = rw (← c.self.view_is) (distinct_keys c.self.inside.links.items c.self.inside.nodes.items c.self.inside.heads.items c.self.inside.seed c.self.invariant.0)

pub returns-clause-distinct : goal.returns-clause-distinct
returns-clause-distinct c = rw (← c.self.view_is) (distinct_keys c.self.inside.links.items c.self.inside.nodes.items c.self.inside.heads.items c.self.inside.seed c.self.invariant.0)
