use Rattle.std.proofs.Common.{◌<◌, length, Some, refl, sym, ap, ◌∙◌, arith, true≢false}
use Rattle.std.proofs.lemmas.List.{map-set}
use Rattle.std.proofs.lemmas.Option.{slice_get_read}
use Rattle.entry_pool.specs.declared.Live.{Live}
use Rattle.entry_pool.specs.Slots.{shown}
use Rattle.entry_pool.proofs.SlotLemmas.{shown_count, shown_get}
use Rattle.entry_pool.proofs.SoundLemmas.{all_full, head, sound_fill}
use Rattle.entry_pool.proofs.Pool.insert.Goals as goal

pub returns-then-slot-clause-refused : goal.returns-then-slot-clause-refused
returns-then-slot-clause-refused g c =
    let p = c.self.inside in let sound = c.self.invariant.2 in
    rw (← c.self.view_is) ((λ _. shown_count p.block.items ∙ sym sound.counted ∙ all_full p.block.items p.links.items p.capacity p.first_free p.count p.newest.value sound c.if-slot.true), (λ _. refl))

pub index-requires : goal.index-requires
index-requires g c =
    let p = c.self.inside in let sound = c.self.invariant.2 in
    omega (arith, (head p.block.items p.links.items p.capacity p.first_free p.count p.newest.value sound c.if-slot.false).within, sound.linked, p.links.ok)

pub index_mut-requires : goal.index_mut-requires
index_mut-requires g c =
    let p = c.self.inside in let sound = c.self.invariant.2 in
    omega (arith, (head p.block.items p.links.items p.capacity p.first_free p.count p.newest.value sound c.if-slot.false).within, sound.linked, p.links.ok)

pub write-requires : goal.write-requires
write-requires g c =
    let p = c.self.inside in let sound = c.self.invariant.2 in let first = head p.block.items p.links.items p.capacity p.first_free p.count p.newest.value sound c.if-slot.false in
    (omega (arith, first.within, sound.sized), first.nothing)

pub invariant_of-self : goal.invariant_of-self
invariant_of-self g c =
    let p = c.self.inside in let i = c.self.invariant in let sound = i.2 in
    let first = head p.block.items p.links.items p.capacity p.first_free p.count p.newest.value sound c.if-slot.false in
    let newer : p.newest.value < c.args.generation = rw (← c.self.view_is) at c.requires in
    let link = slice_get_read p.links.items (length p.links.items) p.first_free c.index.result.now refl (omega (arith, first.within, sound.linked)) c.index.ensures in
    let live : Live g.row.T.Denot = record { generation = c.args.generation; value = c.args.value } in
    rw (c.write.ensures, c.of.ensures) (i.0, i.1, sound_fill p.block.items p.links.items p.capacity p.first_free p.count p.newest.value sound live c.index.result.now c.if-slot.false link newer)

pub returns-clause-refused : goal.returns-clause-refused
returns-clause-refused g c =
    let p = c.self.inside in let sound = c.self.invariant.2 in let first = head p.block.items p.links.items p.capacity p.first_free p.count p.newest.value sound c.if-slot.false in
    rw (← c.self.view_is) ((λ never. absurd (true≢false (sym never))), (λ full. absurd (omega (arith, first.room, sound.counted, full, shown_count p.block.items))))

pub returns-clause-free : goal.returns-clause-free
returns-clause-free g c =
    let p = c.self.inside in let first = head p.block.items p.links.items p.capacity p.first_free p.count p.newest.value c.self.invariant.2 c.if-slot.false in
    rw (← c.self.view_is) (first.within, shown_get p.block.items p.first_free ∙ ap shown first.nothing)

pub returns-clause-inserted : goal.returns-clause-inserted
returns-clause-inserted g c =
    let p = c.self.inside in let live : Live g.row.T.Denot = record { generation = c.args.generation; value = c.args.value } in
    rw (← c.self.view_is, c.write.ensures, c.of.ensures, map-set shown p.block.items p.first_free (Some live)) refl
