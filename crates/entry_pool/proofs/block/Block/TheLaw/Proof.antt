-- A `&` to a block is made: each written value is lent on its own, and the rest stays with the lender.
use base.Fml.{Incl-trans}
use contract.BorrowLft.{meet_⊑_left}
use denote.RattleType.{RattleType}
use denote.Param.Laws.{Laws}
use denote.Param.Shared.{copy_shared}
use denote.Shares.{Shares-less}
use denote.Struct.Field.{RawPtr-field, usize-field}
use denote.Struct.Laws.{RawPtr-copy, usize-copy}
use denote.Struct.Lending.{of_Lends}
use Rattle.std.specs.contracts.impls.GlobalAllocator.TheImpl.{ghosts}
use Rattle.entry_pool.proofs.Lent.{lent_laws, block_lent}
use Rattle.entry_pool.proofs.block.Block.TheLaw.Statement.{statement}
use Rattle.entry_pool.specs.contracts.block.Block.{the_row, struct, the_codes, the_heap, the_lent}

pub shares : (T : RattleType) (L : Laws T) → statement T L
shares T L =
    of_Lends (struct T) (the_codes T.Denot T.coded) (the_heap T) (the_lent T)
    (λ d p. lent_laws T L.shr_laws d.start d.capacity d.items)
    (copy_shared RawPtr-field RawPtr-copy, (copy_shared usize-field usize-copy, tt))
    (λ M 𝓤 𝓛 d p. block_lent T 𝓛 (the_row T).lives
    (Shares-less 𝓛 T T.lives (the_row T).lives (Incl-trans (meet_⊑_left _ _) (meet_⊑_left _ _)) (L.shares 𝓛)) (ghosts.dealloc_token d.alloc) d.start d.capacity d.items)
