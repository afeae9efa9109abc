use Rattle.std.proofs.Common.{List, length, refl, sym, ap, ◌∙◌, subst}
use Rattle.std.proofs.lemmas.Bool.{false≢true}
use Rattle.stick_model.specs.declared.replies.Reply.{Reply}
use Rattle.stick_model.proofs.RunLemmas.{run_determined, stored_run_length}
use Rattle.shard_book.specs.declared.recorded.Recorded.{Recorded}
use Rattle.shard_book.specs.BookState.{BookState, stored_of}
use Rattle.shard_book.proofs.BookLemmas.{length-stored_of}
use Rattle.shard_locks.specs.Shared.{seats_of}
use Rattle.shard_settling.specs.Settled.{AreTold}
use Rattle.shard_settling.proofs.checking.check_record.Goals as goal

pub are_told-requires : goal.are_told-requires
are_told-requires g c =
    let b : BookState = c.args.book.now in
    ap length c.as_slice.ensures.value ∙ stored_run_length b.base (stored_of b.calls) c.in-Ok-replay.replies.items b.live c.in-Ok-replay.ensures ∙ length-stored_of b.calls ∙ sym (ap length c.calls.ensures.calls)

pub returns-then-not-told-clause-err : goal.returns-then-not-told-clause-err
returns-then-not-told-clause-err g c = (
  refl,
  λ recorded.
      let b : BookState = c.args.book.now in
      let seen = recorded.witnessed c.if-not-keep.false in
      let same = run_determined b.base (stored_of b.calls) seen.replies c.in-Ok-replay.replies.items b.live b.live seen.run c.in-Ok-replay.ensures in
      let Told : List Recorded × List Reply → Type 0 = λ p. AreTold c.args.shard (seats_of c.args.seats.now) p.0 p.1 in
      let told = subst Told (λ i. (sym c.calls.ensures.calls i, (same.0 ∙ sym c.as_slice.ensures.value) i)) seen.told in
      false≢true (sym c.if-not-told.true ∙ c.in-Ok-are_told.ensures.1 told),
)
