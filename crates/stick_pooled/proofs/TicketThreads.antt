-- A book of tickets may go to another thread.
use denote.Builtin.{u32}
use denote.Struct.Declared.{shape}
use denote.Param.Send.{IsSend, recorded_send, sendable, struct_send, view_send}
use Rattle.entry_pool.proofs.Threads.{pool_send}
use Rattle.stick_pooled.specs.contracts.ticket_book.TicketBook as TicketBook
use Rattle.stick_pooled.specs.contracts.ticket_book.TicketBook.TheInside as inside

pub ticket_book_send : IsSend TicketBook.the_row
ticket_book_send =
    let I = inside.the_type in
    view_send inside.the_row _ _ _ _ (recorded_send (inside.the_field).row _ _ I.to_one (struct_send (shape I) (pool_send u32 (search sendable), tt)))
