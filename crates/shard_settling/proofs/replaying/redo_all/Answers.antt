use Rattle.std.proofs.Common.{◌≡◌, ℕ, ◌+◌, List, [], take, sym, ap, ◌∙◌, subst}
use Rattle.stick_model.specs.State.{State, empty_table}
use Rattle.stick_model.specs.Run.{StoredRun}
use Rattle.stick_model.specs.declared.replies.Reply.{Reply}
use Rattle.shard_book.specs.declared.recorded.Recorded.{Recorded}
use Rattle.shard_book.specs.BookState.{BookState, stored_of}
use Rattle.shard_book.proofs.BookLemmas.{live_spec}
use Rattle.shard_settling.proofs.ReplayLemmas.{LeadsOn, leads-begin, leads-more, made-more, redo-slot}
use Rattle.shard_settling.proofs.replaying.redo_all.Goals as goal

pub loop-call-init : goal.loop-call-init
loop-call-init g c =
    let book : BookState = c.args.book.now in
    let table : State = c.in_ok-table.table.now in
    let spec : c.in_ok-copy.field-0 ≡ book.base.spec = c.in_ok-copy.ensures ∙ c.spec.ensures.spec ∙ ap (λ (s : State). s.spec) c.live.ensures.live ∙ live_spec book c.live.ensures.book in
    let begins = leads-begin book table c.live.ensures.book c.requires (c.in_ok-table.ensures.empty ∙ ap empty_table spec) in
    record {
      calls = c.calls-calls.ensures.calls;
      done = subst (λ (rs : List Reply). StoredRun book.base [] rs table) (sym c.new-replies.ensures.items) begins.0;
      rest = subst (λ (cs : List Recorded). LeadsOn table cs book.live) (sym c.calls-calls.ensures.calls) begins.1;
    }

pub loop-call-preserved : goal.loop-call-preserved
loop-call-preserved g c =
    let book : BookState = c.args.book.now in
    let calls : List Recorded = c.calls-calls.result.now in
    let i : ℕ = c.loop-call.call-index in
    let call : Recorded = c.call-item.result in
    let middle : State = c.loop-call.table.now in
    let next : State = c.redo_again.new.table.now in
    let reply : Reply = c.in-Ok.reply in
    let was = c.loop-call.invariant in
    let slot = redo-slot book.live calls i call middle reply next c.loop-call-test.true c.call-item.is was.rest c.in-Ok.ensures.redone in
    record {
      calls = was.calls;
      done = subst (λ (rs : List Reply). StoredRun book.base (stored_of (take (i + 1) calls)) rs next) (sym c.in_ok-push-in-Ok.ensures.items)
          (made-more book.base book.live calls i call c.loop-call.replies.items middle reply next c.loop-call-test.true c.call-item.is was.done slot c.in-Ok.ensures.step);
      rest = leads-more book.live calls i call middle reply next c.loop-call-test.true c.call-item.is was.rest slot c.in-Ok.ensures.step;
    }
