use Rattle.std.proofs.Common.{◌≡◌, ◌++◌, ◌∷◌, [], sym, ap, ◌∙◌}
use Rattle.stick_model.specs.Laws.{tickets_told}
use Rattle.shard_record.specs.Calls.{call}
use Rattle.shard_record.specs.Parts.{caller, holder}
use Rattle.shard_record.specs.Views.{at, only}
use Rattle.shard_record.specs.Telling.{keeping_for, log_of, mine_of, number_of}
use Rattle.shard_record.proofs.TellingLemmas.{has_called_as, keeps_seat, lent, log_now, log_of_only, may_append, none_held, owns_none, parts_held, seat_stays, told_of}
use Rattle.shard_record.proofs.Views.{at_put}
use Rattle.shard_record.proofs.telling.note.Goals as goal

pub take_seat-requires-clause-keeper : goal.take_seat-requires-clause-keeper
take_seat-requires-clause-keeper g c =
    c.requires.keeper ∙ ap (λ h. only c.args.book (keeping_for (log_of c.args.book c.args.keeper.now) h [])) (sym (none_held c.args.book c.args.keeper.now c.requires.keeper))

pub tell-requires-clause-keeper : goal.tell-requires-clause-keeper
tell-requires-clause-keeper g c =
    let book = c.args.book in
    keeps_seat book (number_of book c.args.seat.now) (log_of book c.args.keeper.now) (mine_of book c.args.seat.now) (at book c.args.keeper.now).held c.take_seat.new.keeper c.take_seat.ensures.keeper

pub tell-requires-clause-may : goal.tell-requires-clause-may
tell-requires-clause-may g c =
    let book = c.args.book in
    let log = log_of book c.args.keeper.now in
    let mine = mine_of book c.args.seat.now in
    let held = (at book c.args.keeper.now).held in
    may_append (at book c.take_seat.new.keeper) (number_of book c.args.seat.now) c.args.event.now c.args.reply.now log mine held
    (ap (at book) c.take_seat.ensures.keeper ∙ at_put book (keeping_for log held (caller (number_of book c.args.seat.now) mine ∷ [])) []) c.requires.answered (owns_none c.args.event.now c.args.reply.now held c.requires.other)

pub tell-requires-clause-seat : goal.tell-requires-clause-seat
tell-requires-clause-seat g c = lent c.args.book c.args.seat.now c.take_seat.new.seat c.requires.settled c.take_seat.ensures.seat

pub returns : goal.returns
returns g c =
    let book = c.args.book in
    let event = c.args.event.now in
    let reply = c.args.reply.now in
    let old = c.args.seat.now in
    let number = number_of book old in
    let log = log_of book c.args.keeper.now in
    let mine = mine_of book old in
    let lent_by = c.take_seat.new.seat in
    let with_seat : c.take_seat.new.keeper ≡ only book (keeping_for log [] (caller number mine ∷ [])) =
    c.take_seat.ensures.keeper ∙ ap (λ h. only book (keeping_for log h (caller number mine ∷ []))) (none_held book c.args.keeper.now c.requires.keeper) in
    let has = has_called_as book number event reply log mine [] c.take_seat.new.keeper c.tell.new.keeper lent_by c.tell.new.seat with_seat c.tell.ensures.keeper c.tell.ensures.seat in
    let parts = parts_held book (log ++ call number event reply ∷ []) (tickets_told event reply []) c.tell.new.keeper c.part_held.new.me c.part_held.result has.keeper c.part_held.ensures.left c.part_held.ensures.given in
    let kept : log_of book c.part_held.new.me ≡ log ++ call number event reply ∷ [] = log_of_only book c.part_held.new.me _ parts.0 in
    record {
      keeper = parts.0;
      told = told_of book event reply log old lent_by c.tell.new.seat c.take_seat.ensures.seat has.seat c.take_seat.ensures.seen c.take_seat.ensures.mine c.requires.answered;
      seen = log_now book event reply log old lent_by c.tell.new.seat c.take_seat.ensures.seat has.seat ∙ sym kept;
      seat = (seat_stays book event reply log old lent_by c.tell.new.seat c.take_seat.ensures.seat has.seat c.requires.settled).0;
      settled = (seat_stays book event reply log old lent_by c.tell.new.seat c.take_seat.ensures.seat has.seat c.requires.settled).1;
      given = parts.1 ∙ ap (λ l. only book (holder l (tickets_told event reply []))) (sym kept);
    }
