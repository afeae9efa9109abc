use Rattle.std.proofs.Common.{◌≡◌, ◌++◌, ◌∷◌, [], sym, ap, ◌∙◌}
use Rattle.stick_model.specs.declared.replies.Reply.TheVariants.{Released}
use Rattle.shard_record.specs.Calls.{call}
use Rattle.shard_record.specs.Parts.{caller}
use Rattle.shard_record.specs.Views.{at, only}
use Rattle.shard_record.specs.Telling.{keeping_for, key_at, log_of, mine_of, number_of, ticket_at}
use Rattle.shard_record.proofs.TellingLemmas.{given_back, has_called_as, keeps_held, keeps_seat, lent, log_now, log_of_only, may_append, owns_it, released_reply, seat_stays, takes_seat, told_of}
use Rattle.shard_record.proofs.Views.{at_put}
use Rattle.shard_record.proofs.telling.note_release.Goals as goal

pub take_seat-requires-clause-keeper : goal.take_seat-requires-clause-keeper
take_seat-requires-clause-keeper g c =
    let book = c.args.book in
    keeps_held book (log_of book c.args.keeper.now) (((ticket_at book c.args.reference), key_at book c.args.reference) ∷ []) c.take_reference.new.keeper c.take_reference.ensures.keeper

pub tell-requires-clause-keeper : goal.tell-requires-clause-keeper
tell-requires-clause-keeper g c =
    let book = c.args.book in
    let before = c.take_reference.new.keeper in
    keeps_seat book (number_of book c.args.seat.now) (log_of book before) (mine_of book c.args.seat.now) (at book before).held c.take_seat.new.keeper c.take_seat.ensures.keeper

pub tell-requires-clause-may : goal.tell-requires-clause-may
tell-requires-clause-may g c =
    let book = c.args.book in
    let log = log_of book c.args.keeper.now in
    let mine = mine_of book c.args.seat.now in
    let held = ((ticket_at book c.args.reference), key_at book c.args.reference) ∷ [] in
    let event = c.args.release.now in
    let reply = c.args.reply.now in
    let now = c.requires.release.0 in
    let with_seat : c.take_seat.new.keeper ≡ only book (keeping_for log held (caller (number_of book c.args.seat.now) mine ∷ [])) = takes_seat book (number_of book c.args.seat.now) log mine held c.take_reference.new.keeper c.take_seat.new.keeper c.take_reference.ensures.keeper c.take_seat.ensures.keeper in
    let released : reply ≡ Released = released_reply log event reply now (ticket_at book c.args.reference) (key_at book c.args.reference) c.requires.release.1 c.requires.answered c.take_reference.ensures.out in
    may_append (at book c.take_seat.new.keeper) (number_of book c.args.seat.now) event reply log mine held (ap (at book) with_seat ∙ at_put book (keeping_for log held (caller (number_of book c.args.seat.now) mine ∷ [])) []) c.requires.answered
    (owns_it event reply now (ticket_at book c.args.reference) (key_at book c.args.reference) c.requires.release.1 released)

pub tell-requires-clause-seat : goal.tell-requires-clause-seat
tell-requires-clause-seat g c = lent c.args.book c.args.seat.now c.take_seat.new.seat c.requires.settled c.take_seat.ensures.seat

pub returns : goal.returns
returns g c =
    let book = c.args.book in
    let event = c.args.release.now in
    let reply = c.args.reply.now in
    let old = c.args.seat.now in
    let number = number_of book old in
    let log = log_of book c.args.keeper.now in
    let mine = mine_of book old in
    let key = key_at book c.args.reference in
    let held = ((ticket_at book c.args.reference), key) ∷ [] in
    let lent_by = c.take_seat.new.seat in
    let now = c.requires.release.0 in
    let with_seat : c.take_seat.new.keeper ≡ only book (keeping_for log held (caller number mine ∷ [])) = takes_seat book number log mine held c.take_reference.new.keeper c.take_seat.new.keeper c.take_reference.ensures.keeper c.take_seat.ensures.keeper in
    let seen : log_of book c.take_reference.new.keeper ≡ log = log_of_only book c.take_reference.new.keeper (keeping_for log held []) c.take_reference.ensures.keeper in
    let released : reply ≡ Released = released_reply log event reply now (ticket_at book c.args.reference) key c.requires.release.1 c.requires.answered c.take_reference.ensures.out in
    let has = has_called_as book number event reply log mine held c.take_seat.new.keeper c.tell.new.keeper lent_by c.tell.new.seat with_seat c.tell.ensures.keeper c.tell.ensures.seat in
    let kept : c.tell.new.keeper ≡ only book (keeping_for (log ++ call number event reply ∷ []) [] []) =
    has.keeper ∙ ap (λ h. only book (keeping_for (log ++ call number event reply ∷ []) h [])) (given_back event reply now (ticket_at book c.args.reference) key c.requires.release.1 released) in
    record {
      released = released;
      keeper = kept;
      told = told_of book event reply log old lent_by c.tell.new.seat c.take_seat.ensures.seat has.seat (rw seen at c.take_seat.ensures.seen) (rw seen at c.take_seat.ensures.mine) c.requires.answered;
      seen = log_now book event reply log old lent_by c.tell.new.seat c.take_seat.ensures.seat has.seat ∙ sym (log_of_only book c.tell.new.keeper _ kept);
      seat = (seat_stays book event reply log old lent_by c.tell.new.seat c.take_seat.ensures.seat has.seat c.requires.settled).0;
      settled = (seat_stays book event reply log old lent_by c.tell.new.seat c.take_seat.ensures.seat has.seat c.requires.settled).1;
    }
