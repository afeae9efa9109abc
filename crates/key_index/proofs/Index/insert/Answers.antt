use Rattle.std.proofs.Common.{◌≡◌, ◌<◌, ◌/◌, ◌^◌, length, set, Some, None, get_or, sym, ap, ◌∙◌, arith, length-set}
use Rattle.std.proofs.Math.ListN.{get_or-map}
use Rattle.std.proofs.lemmas.List.{map-set, length-map, get_or-set_same, get_or-set_other}
use Rattle.std.specs.Int.{bit_at}
use Rattle.key_index.specs.Keys.{keys}
use Rattle.key_index.specs.Chains.{entry_in, hash_of, mark_of, tag_of}
use Rattle.entry_pool.specs.declared.slot_handle.TheConstants.{NONE}
use Rattle.key_index.specs.declared.Node.{Node}
use Rattle.key_index.specs.declared.Link.{Link}
use Rattle.key_index.proofs.ChainLemmas.{bucket_is}
use Rattle.key_index.proofs.MarkLemmas.{marked-with}
use Rattle.key_index.proofs.TagLemmas.{tagged-with}
use Rattle.key_index.proofs.SoundLemmas.{sound-with}
use Rattle.key_index.proofs.NodeLemmas.{no_entry, shows_held, read_is}
use Rattle.key_index.proofs.Index.insert.Goals as goal

pub invariant_of-self : goal.invariant_of-self
invariant_of-self c =
    let i = c.self.inside in let links = i.links.items in let nodes = i.nodes.items in let heads = i.heads.items in let slot = c.args.handle.slot in let bucket = c.bucket-bucket.result in let key = c.args.key in
    let node : Node = record { key = key; generation = c.args.handle.generation } in
    let link : Link = record { next = c.index-next.result.now; tag = c.tag.result } in
    let buckets : c.len.result ≡ length heads = omega (arith, c.len.ensures, i.heads.ok) in
    let inside : bucket < length heads = let within = c.bucket-bucket.ensures.within in omega arith in
    let below : slot < length nodes = let b = rw (← c.self.view_is) at c.requires.below in omega (arith, length-map nodes entry_in, b) in
    let within : slot < length links = omega (arith, c.self.invariant.0.long) in
    let unused : get_or nodes slot None ≡ None = no_entry nodes slot (sym (get_or-map entry_in nodes slot None) ∙ (rw (← c.self.view_is) at c.requires.unused)) in
    let hashed : c.hash-hash.result ≡ hash_of i.seed key = c.hash-hash.ensures ∙ ap (hash_of i.seed) c.bytes.ensures in
    let home = bucket_is i.seed c.hash-hash.result bucket c.len.result heads key hashed buckets c.bucket-bucket.ensures.bucket in
    let mark : c.mark.result ≡ mark_of i.seed key = c.mark.ensures.mark ∙ ap (λ h. h / 2 ^ 61) hashed in
    let tag : c.tag.result ≡ tag_of i.seed key = c.tag.ensures ∙ ap (λ h. h / 2 ^ 32) hashed in
    let inside_marks : bucket < length i.marks.items = omega (arith, c.self.invariant.1.long) in
    let read : c.index.result.now ≡ get_or i.marks.items bucket 0 = read_is i.marks.items bucket c.index.result.now 0 inside_marks c.index.ensures in (
      sound-with links nodes heads i.seed slot bucket node c.self.invariant.0 inside home link below unused
          (read_is heads bucket c.index-next.result.now NONE inside c.index-next.ensures)
          (λ q n has same. let absent = rw (← c.self.view_is) at c.requires.absent in absent q (shows_held nodes q key (n, has, same))),
      marked-with nodes (set nodes slot (Some node)) heads (set heads bucket slot) i.marks.items i.seed bucket c.self.invariant.1 (length-set heads bucket slot) inside
          slot c.with_mark.result node (get_or-set_same nodes slot (Some node) None below) (λ q ne. get_or-set_other nodes slot q (Some node) None ne) home
          (ap (bit_at c.with_mark.result) (sym mark) ∙ c.with_mark.ensures.marked)
          (λ other is. c.with_mark.ensures.kept other (ap (λ v. bit_at v other) read ∙ is)),
      tagged-with links nodes i.seed c.self.invariant.2 slot link node within below tag,
    )

pub returns : goal.returns
returns c = rw (← c.self.view_is) (ap keys (map-set entry_in c.self.inside.nodes.items c.args.handle.slot _))
