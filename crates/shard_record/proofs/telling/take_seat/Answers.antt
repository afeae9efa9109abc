use Rattle.std.proofs.Common.{◌≡◌, ◌∷◌, [], ap, ◌∙◌}
use Rattle.std.proofs.lemmas.List.{append-nil}
use Rattle.shard_record.specs.Parts.{caller}
use Rattle.shard_record.specs.Views.{at, only}
use Rattle.shard_record.specs.Telling.{keeping_for, log_of, mine_of, number_of, spoken}
use Rattle.shard_record.proofs.TellingLemmas.{takes}
use Rattle.shard_record.proofs.telling.take_seat.Goals as goal

pub returns : goal.returns
returns g c =
    let book = c.args.book in
    let log = log_of book c.args.keeper.now in
    let held = (at book c.args.keeper.now).held in
    let mine = mine_of book c.args.seat.now in
    let part : c.part_book-part.result ≡ only book (spoken (number_of book c.args.seat.now) (log_of book c.args.seat.now) mine) = c.part_book-part.ensures.given ∙ ap (only book) c.requires.seat in
    let has = takes book log held [] (spoken (number_of book c.args.seat.now) (log_of book c.args.seat.now) mine) c.args.keeper.now c.part_book-part.result c.join.new.me c.requires.keeper part c.join.ensures.both c.join.ensures.compared in
    record {
      keeper = has.view ∙ ap (λ h. only book (keeping_for log h (caller (number_of book c.args.seat.now) mine ∷ []))) (append-nil held);
      seat = c.part_book-part.ensures.left;
      seen = has.seen;
      mine = has.mine;
    }
