use Rattle.std.proofs.Common.{◌∷◌, []}
use Rattle.shard_record.specs.Parts.{holder}
use Rattle.shard_record.specs.Telling.{key_at, log_of, ticket_at}
use Rattle.shard_record.proofs.TellingLemmas.{held_out, takes}
use Rattle.shard_record.proofs.telling.take_reference.Goals as goal

pub returns : goal.returns
returns g c =
    let book = c.args.book in
    let log = log_of book c.args.keeper.now in
    let key = key_at book c.args.reference in
    let has = takes book log [] [] (holder (log_of book c.args.reference) (((ticket_at book c.args.reference), key) ∷ [])) c.args.keeper.now c.args.reference c.join.new.me c.requires.keeper c.requires.reference c.join.ensures.both c.join.ensures.compared in
    record { keeper = has.view; seen = has.seen; out = held_out log (ticket_at book c.args.reference) key has.out }
