-- A table may go to another thread.
use Rattle.std.proofs.Common.{[], ◌∷◌}
use denote.Struct.Declared.{shape}
use denote.Struct.Tuple.{Tuple, tuple_type, tuple_field}
use denote.Param.Send.{IsSend, plain_send, recorded_send, struct_send, view_send}
use Rattle.std.proofs.Crossing.{Vec-send}
use Rattle.std.proofs.alloc.Global.TheSendSync as heap
use Rattle.stick_key.proofs.key.StickKey.TheSendSync as keys
use Rattle.stick_key.specs.contracts.key.StickKey as key
use Rattle.stick_model.proofs.row_room.RowRoom.TheSendSync as room
use Rattle.stick_model.proofs.rows.Ticket.TheSendSync as tickets
use Rattle.stick_model.proofs.specification.Spec.TheSendSync as spec
use Rattle.stick_model.specs.contracts.rows.Ticket as ticket
use Rattle.stick_pooled.proofs.StoreThreads.{store_send}
use Rattle.stick_pooled.proofs.TicketThreads.{ticket_book_send}
use Rattle.stick_pooled.specs.contracts.StickTable as StickTable
use Rattle.stick_pooled.specs.contracts.StickTable.TheInside as inside

-- a ticket with its key
pair_send : IsSend (Tuple (ticket.the_row ∷ key.the_row ∷ []))
pair_send =
    let T = tuple_type (ticket.the_row ∷ key.the_row ∷ []) in
    recorded_send (tuple_field (ticket.the_row ∷ key.the_row ∷ [])).row _ _ T.to_one (struct_send (shape T) (tickets.the_send, (keys.the_send, tt)))

pub stick_table_send : IsSend StickTable.the_row
stick_table_send =
    let I = inside.the_type in
    view_send inside.the_row _ _ _ _ (recorded_send (inside.the_field).row _ _ I.to_one
    (struct_send (shape I) (heap.the_field_send, (spec.the_field_send, (plain_send _ _ _ _ _, (plain_send _ _ _ _ _, (store_send, (ticket_book_send, (plain_send _ _ _ _ _, (plain_send _ _ _ _ _, (Vec-send _ pair_send, (room.the_send, tt))))))))))))
