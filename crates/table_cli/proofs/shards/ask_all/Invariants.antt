use Rattle.std.proofs.Common.{◌≡◌, ◌≤◌, ◌-◌, ◌*◌, ◌^◌, List, IfSome}
use Rattle.std.specs.List.{range_with_len}
use Rattle.stick_model.specs.declared.replies.Reply.{Reply}
use Rattle.shard_book.specs.Total.{IsCounted}
use Rattle.shard_book.proofs.TotalLemmas.{so_far_of}
use Rattle.table_cli.specs.Shards.{AsksWhatIsShown}
use Rattle.table_cli.proofs.ShardLemmas.{GoesOn}
use Rattle.table_cli.proofs.shards.ask_all.Given as goal

-- the shards so far are asked, and what the others answer is what all answer
abbrev pub invariant-loop-shard : goal.invariant-loop-shard
invariant-loop-shard g l =
    let K = g.K.Keeper in
    let shards = K.parts l.fn.keeper in
    record {
      asked : (replies : List Reply) × (so_far_of replies ≡ l.so_far)
          × GoesOn K.answers K.refuses l.event (range_with_len 0 shards) (K.state l.fn.keeper) (range_with_len l.shard (shards - l.shard)) (K.state l.keeper) replies;
      rows : IfSome l.so_far (AsksWhatIsShown l.event);
      counted : IfSome l.so_far (IsCounted (l.shard * 2 ^ 30));
      table : K.table l.keeper ≡ K.table l.fn.keeper;
      parts : K.parts l.keeper ≡ shards;
      end : l.shard-end ≡ shards;
      few : shards ≤ 64;
    }
