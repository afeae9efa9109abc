use Rattle.shard_record.specs.Views.{at}
use Rattle.shard_record.specs.Telling.{log_of, mine_of, number_of}
use Rattle.shard_record.proofs.TellingLemmas.{calls}
use Rattle.shard_record.proofs.telling.tell.Goals as goal

pub returns : goal.returns
returns g c =
    let before = c.args.keeper.now in
    let book = c.args.book in
    let has = calls book (number_of book before) c.args.event.now c.args.reply.now (log_of book before) (mine_of book before) (at book before).held before c.append.new.me c.part_callers-part.new.me c.part_callers-part.result c.args.seat.now c.join.new.me
    c.requires.keeper c.append.ensures c.part_callers-part.ensures.left c.part_callers-part.ensures.given c.requires.seat c.join.ensures.both in
    record { keeper = has.keeper; seat = has.seat }
