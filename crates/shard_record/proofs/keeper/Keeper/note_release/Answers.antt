use Rattle.shard_record.specs.Calls.{call}
use Rattle.shard_record.specs.Telling.{number_of}
use Rattle.shard_record.proofs.TellingLemmas.{keeper_is, keeper_more}
use Rattle.shard_record.proofs.keeper.Keeper.note_release.Goals as goal

pub invariant_of-self : goal.invariant_of-self
invariant_of-self g c = (keeper_is c.self.inside.book c.note_release.new.keeper _ c.note_release.ensures.keeper).0

pub returns-clause-noted : goal.returns-clause-noted
returns-clause-noted g c =
    keeper_more c.self.inside.book c.self.inside.token c.args.self.now (λ book. call (number_of book c.args.seat.now) c.args.release.now c.args.reply.now) c.self.view_is c.note_release.new.keeper c.note_release.ensures.keeper
