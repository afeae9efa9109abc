use Rattle.std.proofs.Common.{inl, inr}
use Rattle.table_socket.proofs.client_server.CommandServiceClientServer.serve_client.Goals as goal

pub returns-in-Ok : goal.returns-in-Ok
returns-in-Ok g c = let told = c.in-Ok.ensures.whole in (told.0, told.1, inl told.4)

pub returns-in-Err : goal.returns-in-Err
returns-in-Err g c = let told = c.in-Err.ensures.fault in (told.0, told.1, inr (told.2, told.5))
