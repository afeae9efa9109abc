use Rattle.std.proofs.Common.{◌≡◌, ◌++◌, ◌∷◌, [], IfOk, OnOk, subst, rules}
use Rattle.shard_record.specs.Calls.{call}
use Rattle.shard_record.specs.Telling.{log_of, number_of}
use Rattle.shard_book.specs.Kept.{IsMadeWith}
use Rattle.shard_locks.specs.Shared.{SharedSeatState}
use Rattle.shard_locks.proofs.SharedLemmas.{made_seen, sees_asked}
use Rattle.shard_locks.proofs.shared_seat.SharedSeat.ask.Goals as goal

pub invariant_of-self : goal.invariant_of-self
invariant_of-self g c =
    (sees_asked g.J.Naming.books c.args.kept.now.number c.args.event.now c.serve.result c.self.inside.token c.serve.new.token c.self.invariant.0 c.serve.ensures.mine (search rules), c.serve.ensures.settled)

pub returns-clause-grown : goal.returns-clause-grown
returns-clause-grown g c =
    let grown : IfOk c.serve.result (λ told. c.serve.new.self.log ≡ c.args.kept.now.log ++ call (number_of c.args.kept.now.number c.args.self.now.known) c.args.event.now told.0 ∷ []) =
    subst (λ (s : SharedSeatState). IfOk c.serve.result (λ told. c.serve.new.self.log ≡ c.args.kept.now.log ++ call (number_of c.args.kept.now.number s.known) c.args.event.now told.0 ∷ [])) c.self.view_is c.serve.ensures.recorded in
    search rules

pub returns-clause-of_spec : goal.returns-clause-of_spec
returns-clause-of_spec g c =
    let spec = g.J.Naming.specs c.args.kept.now.number in
    let known = log_of c.args.kept.now.number c.serve.new.token in
    let made : OnOk c.serve.result (IsMadeWith spec known) = made_seen spec c.serve.result known c.serve.new.self.log c.serve.ensures.of_spec c.serve.ensures.seen in
    search rules
