-- A block may go to another thread as its values may.
use Rattle.std.proofs.Common.{ℕ, List, [], ◌∷◌, Option, Some, None}
use base.Fraction.{full_share}
use base.Shift.{Keyless}
use denote.Exit.{Exit, unchanged, leaves, hidden, under}
use denote.RattleType.{RattleType}
use denote.RawPtr.{Ptr, block_ptr, null_ptr}
use denote.Builtin.{RawPtr, u32, usize}
use denote.Struct.Struct.{exits_of}
use denote.Struct.Owning.{shape, fields, to}
use denote.Struct.Declared.{shape as shape-of}
use denote.Param.Send.{IsSend, Quiet, AllSend, part_keyless, owning_send, plain_send, recorded_send, struct_send, sendable, view_send}
use Rattle.std.proofs.Crossing.{Vec-send, crosses, frees}
use Rattle.std.proofs.alloc.Global.TheSendSync as heap
use Rattle.entry_pool.specs.contracts.Live as live
use Rattle.entry_pool.proofs.Live.TheSendSync as lives
use Rattle.std.specs.Allocator.{array_of}
use Rattle.entry_pool.specs.Owned.{places, places_at}
use Rattle.entry_pool.specs.contracts.block.Block.{the_row, the_type}
use Rattle.entry_pool.specs.contracts.Pool as Pool
use Rattle.entry_pool.specs.contracts.Pool.TheInside as inside

-- no place belongs to a thread
places_free : (R : RattleType) → IsSend R → (xs : List (Option R.Denot)) (b o : ℕ) → Keyless (places R xs b o)
places_free R s [] b o = tt
places_free R s (None ∷ xs) b o = (tt, places_free R s xs b _)
places_free R s (Some x ∷ xs) b o = (part_keyless R s full_share x b o, places_free R s xs b _)

block_free : (R : RattleType) → IsSend R → (p : Ptr) (xs : List (Option R.Denot)) → Keyless (places_at R p xs)
block_free R s (block_ptr b o) xs = places_free R s xs b o
block_free R s null_ptr xs = tt

pointer_send : IsSend RawPtr
pointer_send = search sendable

number_send : IsSend usize
number_send = search sendable

quiet : {D X : Type 0} (f : D → X) (e : Exit X) → Quiet e → Quiet (hidden (under f e))
quiet f unchanged q = λ x w. tt
quiet f (leaves L l S s r₀) q = λ d. q (f d)

pub block_send : (R : RattleType) → IsSend R → IsSend (the_row R)
block_send R s =
    let O = the_type R in
    let all : AllSend (fields O) = (pointer_send, (number_send, tt)) in
    owning_send O all (λ d. ((tt, tt), (block_free R s d.start d.items, frees.frees d.alloc (array_of R d.capacity) d.start)))
    (λ k. quiet (to O) (exits_of k (fields O)) ((struct_send (shape O) all).leaving k))

-- a pool may go to another thread as its values may
pub pool_send : (R : RattleType) → IsSend R → IsSend (Pool.the_row R)
pool_send R s =
    let I = inside.the_type R in
    view_send (inside.the_row R) _ _ _ _ (recorded_send (inside.the_field R).row _ _ I.to_one (struct_send (shape-of I)
    (block_send (live.the_row R) (lives.the_send R s), (Vec-send u32 (search sendable), (plain_send _ _ _ _ _, (plain_send _ _ _ _ _, (plain_send _ _ _ _ _, (search crosses, (heap.the_field_send, tt)))))))))
