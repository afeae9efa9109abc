use Rattle.std.proofs.Common.{ap}
use Rattle.table_socket.specs.declared.served.Served.{Served}
use Rattle.table_socket.proofs.ClientsLemmas.{visits_more}
use Rattle.table_socket.proofs.clients.serve_clients.Goals as goal

pub loop-preserved-in-Ok : goal.loop-preserved-in-Ok
loop-preserved-in-Ok g c =
    let S = g.S.ClientServer in
    let was = c.loop.invariant in
    visits_more S.visits _ _ _ was.0 _ _ _ _ _ was.2 was.3 (ap (λ (s : Served). s.clients) c.note_client.ensures) (ap (λ (s : Served). s.commands) c.note_client.ensures) was.1 c.serve_stream.ensures

pub loop-preserved : goal.loop-preserved
loop-preserved g c =
    let S = g.S.ClientServer in
    let was = c.loop.invariant in
    visits_more S.visits _ _ _ was.0 _ _ _ _ _ was.2 was.3 (ap (λ (s : Served). s.clients) c.note_client.ensures) (ap (λ (s : Served). s.commands) c.note_client.ensures) was.1 c.serve_stream.ensures
