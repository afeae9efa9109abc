use Rattle.std.proofs.Common.{◌<◌, ◌^◌, ◌++◌, [], ◌∷◌, Some, None, append-nil, inl, refl, sym, ◌∙◌, ap, subst, rules, arith}
use Rattle.stick_model.specs.declared.events.Event.{Event}
use Rattle.shard_book.specs.Keeping.{IsAnswer}
use Rattle.table_cli.specs.Shards.{Ends}
use Rattle.table_texts.specs.declared.message.Message.TheVariants.{OutOfMemory}
use Rattle.shard_book.proofs.TotalLemmas.{counted, counted-more, later, so_far_of, so_far-more, so_far-none, so_far-total}
use Rattle.table_cli.proofs.ShardLemmas.{asks_shown, asks_shown-together, ends_all, ends_here, ends_in_memory, goes_more, range-more, range-none}
use Rattle.table_cli.proofs.shards.ask_all.Goals as goal

pub returns-in-Err-clause-asks : goal.returns-in-Err-clause-asks
returns-in-Err-clause-asks g c =
    let K = g.K.Keeper in
    let here = c.loop-shard.invariant in
    let below : c.loop-shard.shard < K.parts c.args.keeper.now = omega (arith, here.end, c.loop-shard-test.true) in
    (here.asked.0 ++ [], Some OutOfMemory, here.asked.2 [] (Some OutOfMemory) _ (ends_here K.answers K.refuses c.args.event.now _ _ _ c.loop-shard.shard _ (range-more _ _ below) (inl refl)), refl)

pub returns-in-Err-ask_shard-clause-asks : goal.returns-in-Err-ask_shard-clause-asks
returns-in-Err-ask_shard-clause-asks g c =
    let K = g.K.Keeper in
    let here = c.loop-shard.invariant in
    let failed = c.in-Err-ask_shard.ensures in
    let below : c.loop-shard.shard < K.parts c.args.keeper.now = omega (arith, here.end, c.loop-shard-test.true) in
    let ends = subst (λ (event : Event). Ends K.refuses (K.state c.loop-shard.keeper) c.loop-shard.shard event c.in-Err-ask_shard.message) c.in-Ok.ensures failed.ends in (
      here.asked.0 ++ [],
      Some c.in-Err-ask_shard.message,
      rw failed.err (here.asked.2 [] _ _ (ends_here K.answers K.refuses c.args.event.now _ _ _ c.loop-shard.shard _ (range-more _ _ below) ends)),
      refl,
    )

pub added-requires-clause-reply : goal.added-requires-clause-reply
added-requires-clause-reply g c =
    let told = subst (λ (event : Event). IsAnswer event c.in-Ok-ask_shard.reply) c.in-Ok.ensures c.in-Ok-ask_shard.ensures.answer in
    later (2 ^ 30) (2 ^ 62) _ (omega arith) (counted c.args.event.now told.before told.after _ c.requires.asked told.limits told.legal told.step)

pub returns-in-Err-added-clause-asks : goal.returns-in-Err-added-clause-asks
returns-in-Err-added-clause-asks g c =
    let K = g.K.Keeper in
    let here = c.loop-shard.invariant in
    let below : c.loop-shard.shard < K.parts c.args.keeper.now = omega (arith, here.end, c.loop-shard-test.true) in
    let answered = subst (λ (event : Event). K.answers (K.state c.loop-shard.keeper) c.loop-shard.shard event c.in-Ok-ask_shard.reply (K.state c.ask_shard.new.keeper)) c.in-Ok.ensures c.in-Ok-ask_shard.ensures.ok in
    let more = goes_more K.answers K.refuses c.args.event.now _ _ _ _ _ _ c.loop-shard.shard here.asked.0 c.in-Ok-ask_shard.reply (range-more _ _ below) here.asked.2 answered in
    let told = subst (λ (event : Event). IsAnswer event c.in-Ok-ask_shard.reply) c.in-Ok.ensures c.in-Ok-ask_shard.ensures.answer in
    let asks = asks_shown c.args.event.now c.in-Ok-ask_shard.reply told c.in-Err-added.ensures.memory in
    (_, Some OutOfMemory, more [] (Some OutOfMemory) _ (ends_in_memory K.answers K.refuses c.args.event.now _ _ asks), refl)

pub loop-shard-preserved : goal.loop-shard-preserved
loop-shard-preserved g c =
    let K = g.K.Keeper in
    let here = c.loop-shard.invariant in
    let below : c.loop-shard.shard < K.parts c.args.keeper.now = omega (arith, here.end, c.loop-shard-test.true) in
    let now = c.in-Ok-ask_shard.ensures in
    let answered = subst (λ (event : Event). K.answers (K.state c.loop-shard.keeper) c.loop-shard.shard event c.in-Ok-ask_shard.reply (K.state c.ask_shard.new.keeper)) c.in-Ok.ensures now.ok in
    let told = subst (λ (event : Event). IsAnswer event c.in-Ok-ask_shard.reply) c.in-Ok.ensures now.answer in
    record {
      asked = (
        here.asked.0 ++ c.in-Ok-ask_shard.reply ∷ [],
        so_far-more here.asked.0 c.loop-shard.so_far c.in-Ok-ask_shard.reply c.in-Ok-added.all here.asked.1 c.in-Ok-added.ensures.added,
        goes_more K.answers K.refuses c.args.event.now _ _ _ _ _ _ c.loop-shard.shard here.asked.0 c.in-Ok-ask_shard.reply (range-more _ _ below) here.asked.2 answered,
      );
      rows = rw c.in-Ok-added.ensures.added (asks_shown-together c.args.event.now c.loop-shard.so_far c.in-Ok-ask_shard.reply here.rows (asks_shown c.args.event.now _ told));
      counted = rw c.in-Ok-added.ensures.added (counted-more c.loop-shard.shard c.loop-shard.so_far _ here.counted (counted c.args.event.now told.before told.after _ c.requires.asked told.limits told.legal told.step));
      table = search rules;
      parts = search rules;
      end = here.end;
      few = here.few;
    }

pub returns-in-Some-clause-asks : goal.returns-in-Some-clause-asks
returns-in-Some-clause-asks g c =
    let K = g.K.Keeper in
    let here = c.loop-shard.invariant in
    let replies = here.asked.0 in (
      replies ++ [],
      None,
      here.asked.2 [] None _ (ends_all K.answers K.refuses c.args.event.now _ _ (range-none _ _ (omega (arith, here.end, c.loop-shard-test.false)))),
      (refl, so_far-total _ _ (ap so_far_of (append-nil replies) ∙ here.asked.1 ∙ c.in-Some.is)),
    )

pub returns-in-None-clause-asks : goal.returns-in-None-clause-asks
returns-in-None-clause-asks g c =
    let K = g.K.Keeper in
    let here = c.loop-shard.invariant in
    let replies = here.asked.0 in (
      replies ++ [],
      None,
      here.asked.2 [] None _ (ends_all K.answers K.refuses c.args.event.now _ _ (range-none _ _ (omega (arith, here.end, c.loop-shard-test.false)))),
      (refl, sym (so_far-none _ (ap so_far_of (append-nil replies) ∙ here.asked.1 ∙ c.in-None.is))),
    )
