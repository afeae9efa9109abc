-- A store may go to another thread.
use denote.Struct.Declared.{shape}
use denote.Param.Send.{IsSend, plain_send, recorded_send, struct_send, view_send}
use Rattle.entry_pool.proofs.Threads.{pool_send}
use Rattle.key_index.proofs.Index.TheSendSync as index
use Rattle.expiry_order.proofs.Order.TheSendSync as order
use Rattle.stick_pooled.proofs.value_rows.Rows.TheSendSync as rows
use Rattle.stick_pooled.proofs.slot_images.Images.TheSendSync as images
use Rattle.stick_pooled.specs.contracts.entry.Entry as entry
use Rattle.stick_pooled.proofs.entry.Entry.TheSendSync as entries
use Rattle.stick_pooled.specs.contracts.entry_store.Store as Store
use Rattle.stick_pooled.specs.contracts.entry_store.Store.TheInside as inside

pub store_send : IsSend Store.the_row
store_send =
    let I = inside.the_type in
    view_send inside.the_row _ _ _ _ (recorded_send (inside.the_field).row _ _ I.to_one (struct_send (shape I) (pool_send entry.the_row entries.the_send, (index.the_send, (order.the_send, (rows.the_send, (images.the_send, (plain_send _ _ _ _ _, tt))))))))
