use Rattle.std.proofs.Common.{◌≡◌, ◌++◌, ◌∷◌, [], OnOk, sym, subst, rules}
use Rattle.stick_model.specs.declared.events.Event.TheVariants.{Release}
use Rattle.stick_model.specs.declared.replies.Reply.TheVariants.{Released}
use Rattle.shard_record.specs.Calls.{call}
use Rattle.shard_record.specs.Telling.{log_of, number_of}
use Rattle.shard_book.specs.Kept.{IsMadeWith}
use Rattle.shard_locks.specs.Shared.{SharedSeatState}
use Rattle.shard_locks.proofs.SharedLemmas.{sees_given}
use Rattle.shard_locks.proofs.shared_seat.SharedSeat.give_back.Goals as goal
use Rattle.shard_locks.proofs.shared_seat.SharedSeat.give_back.Goals.{in-Ok, in-Err}

pub invariant_of-self : goal.invariant_of-self
invariant_of-self g c =
    (sees_given g.J.Naming.books c.args.kept.now.number (Release c.args.now c.args.ticket) Released c.release.result c.self.inside.token c.release.new.token c.self.invariant.0 c.release.ensures.mine (search rules), c.release.ensures.settled)

pub returns-clause-grown : goal.returns-clause-grown
returns-clause-grown g c =
    let Noted = λ (s : SharedSeatState). c.release.new.self.log ≡ c.args.kept.now.log ++ call (number_of c.args.kept.now.number s.known) (Release c.args.now c.args.ticket) Released ∷ [] in
    elim c.match-release.branch [
      | in-Ok w ↦ subst (λ r. OnOk r (Noted c.args.self.now)) (sym w.result-is) (subst Noted c.self.view_is w.in-Ok.ensures.recorded)
      | in-Err w ↦ subst (λ r. OnOk r (Noted c.args.self.now)) (sym w.result-is) tt
    ]

pub returns-clause-of_spec : goal.returns-clause-of_spec
returns-clause-of_spec g c =
    let spec = g.J.Naming.specs c.args.kept.now.number in
    let Made = IsMadeWith spec (log_of c.args.kept.now.number c.release.new.token) in
    elim c.match-release.branch [
      | in-Ok w ↦ subst (λ r. OnOk r Made) (sym w.result-is) (subst (IsMadeWith spec) (sym w.in-Ok.ensures.seen) w.in-Ok.ensures.of_spec)
      | in-Err w ↦ subst (λ r. OnOk r Made) (sym w.result-is) tt
    ]
