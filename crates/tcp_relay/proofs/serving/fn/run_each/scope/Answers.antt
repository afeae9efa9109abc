use mir.Syntax.{Sym, named}
use denote.Exit
use denote.Param.{param}
use denote.RattleType.{RattleType}
use denote.Ref.{MutRef, NamedLft, ShrRef}
use denote.Struct.Declared.{shape}
use denote.Struct.Tuple.{TupleAt, field_at, type_at}
use denote.Param.Send.{IsSend, IsSync, arg_send, mut_send, param_send, param_sync, recorded_send, shr_send, struct_send}
use Rattle.std.proofs.Common.{[], ◌∷◌}
use Rattle.tcp_relay.proofs.shared.Shared.TheSendSync as shared
use Rattle.tcp_relay.proofs.worker.Worker.TheSendSync as worker
use Rattle.tcp_relay.specs.contracts.shared.Shared as Shared
use Rattle.tcp_relay.specs.contracts.worker.Worker as Worker
use Rattle.tcp_relay.proofs.serving.fn.run_each.scope.Given as given
use Rattle.tcp_relay.proofs.serving.fn.run_each.scope.Goals as goal

pair : (name : Sym) (R S : RattleType) → IsSend R → IsSend S → IsSend (TupleAt name (R ∷ S ∷ []))
pair name R S r s =
    let T = type_at name (R ∷ S ∷ []) in
    recorded_send (field_at name (R ∷ S ∷ [])).row _ _ T.to_one (struct_send (shape T) (r, (s, tt)))

-- what the bounds say, which stand behind those of lifetimes
tables : (g : given.Over) (c : goal.In-Some g) → IsSend g.row.T
tables g c = c.requires.1.1.1.1.1.0

runtime : (g : given.Over) (c : goal.In-Some g) → IsSync g.row.R
runtime g c = c.requires.1.1.1.1.1.4

gate : (g : given.Over) (c : goal.In-Some g) → IsSync g.row.G
gate g c = c.requires.1.1.1.1.1.5

-- it takes along what the workers share, by reference, and its worker, lent
takes : (g : given.Over) (c : goal.In-Some g) (name : Sym) (long of lent held : NamedLft)
    → IsSend (TupleAt name (ShrRef long.mir long.lft (Shared.the_row of (param 2 g.row.R) (param 3 g.row.G) (param 4 g.row.W) g.W.Width) ∷ MutRef lent.mir lent.lft (Worker.the_row held (param 0 g.row.T) (param 1 g.row.J) (param 2 g.row.R) (param 4 g.row.W) g.T.Table g.J.Naming g.W.Width) ∷ []))
takes g c name long of lent held =
    pair name _ _ (shr_send _ _ _ (shared.the_sync of (param 2 g.row.R) (param 3 g.row.G) (param 4 g.row.W) g.W.Width (param_sync 2 g.row.R (runtime g c)) (param_sync 3 g.row.G (gate g c))))
    (mut_send _ _ _ (worker.the_send held (param 0 g.row.T) (param 1 g.row.J) (param 2 g.row.R) (param 4 g.row.W) g.T.Table g.J.Naming g.W.Width (param_send 0 g.row.T (tables g c)) (param_sync 2 g.row.R (runtime g c))))

pub spawn-started-requires-send-F : goal.spawn-started-requires-send-F
spawn-started-requires-send-F g c κs within =
    param_send 1 _ (arg_send _ Exit.no _ (takes g c _ (record { mir = named 5; lft = κs.1.1.1.1.1.0 }) (record { mir = named 6; lft = κs.1.1.1.1.1.1.0 }) (record { mir = named 7; lft = κs.1.1.1.1.1.1.1.0 }) (record { mir = named 8; lft = κs.1.1.1.1.1.1.1.1.0 })))
