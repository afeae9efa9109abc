use Rattle.std.proofs.Common.{◌≡◌, ◌≤◌, ◌<◌, ℕ, List, drop, length, Some, sym, ap, ◌∙◌, subst, arith, rules, ⊎_elim}
use Rattle.std.specs.Prelude.{slice_get}
use Rattle.std.proofs.lemmas.Bool.{cases_lt, false≢true, le-leb, lt-leb}
use Rattle.stick_model.specs.declared.replies.Reply.{Reply}
use Rattle.shard_book.specs.declared.recorded.Recorded.{Recorded}
use Rattle.shard_book.specs.declared.receipt.Receipt.{Receipt}
use Rattle.shard_book.specs.SeatState.{receipts_at}
use Rattle.shard_settling.proofs.ToldLemmas.{all_told, at_place, heads_are, heads_join, none_left, one_left, some_reply, told-skip}
use Rattle.shard_settling.proofs.telling.is_told.Goals as goal
use Rattle.shard_settling.proofs.telling.is_told.Goals.{then-seat+else-next-receipts+in_ok-is_same+else-not-is_same, else-seat}

pub returns-then-next-receipts : goal.returns-then-next-receipts
returns-then-next-receipts c =
    let cs : List Recorded = c.args.calls.now in
    let rs : List Reply = c.args.replies.now in
    let i : ℕ = c.loop-i.i in
    let r = some_reply rs i (omega (arith, c.requires, c.loop-i-test.true)) in (
      λ f. absurd (false≢true f),
      λ all. absurd (none_left c.args.shard c.args.seat cs rs c.args.receipts.now i c.loop-i.next c.index-calls-i.result r.0 c.loop-i-test.true c.index-calls-i.is r.1 r.2 (sym c.seat.ensures ∙ c.if-seat.true) c.if-next-receipts.true (c.loop-i.invariant.same.0 all)),
    )

pub returns-then-not-is_same : goal.returns-then-not-is_same
returns-then-not-is_same c =
    let x = c.index-receipts-next in
    let y = c.index-replies-i in
    let shard = c.loop-i.invariant.here x.result (at_place c.args.receipts.now c.loop-i.next x.result c.if-next-receipts.false x.is) in (
      λ f. absurd (false≢true f),
      λ all. absurd (false≢true (sym c.if-not-is_same.true ∙ c.in_ok-is_same.ensures.1 (heads_are c.args.shard c.args.seat c.args.calls.now c.args.replies.now c.args.receipts.now c.loop-i.i c.loop-i.next c.index-calls-i.result y.result x.result c.loop-i-test.true c.index-calls-i.is (omega (arith, c.requires, c.loop-i-test.true)) y.is (sym c.seat.ensures ∙ c.if-seat.true) c.if-next-receipts.false x.is shard (c.loop-i.invariant.same.0 all)).0)),
    )

pub loop-i-preserved : goal.loop-i-preserved
loop-i-preserved c =
    let xs : List Receipt = c.args.receipts.now in
    let cs : List Recorded = c.args.calls.now in
    let rs : List Reply = c.args.replies.now in
    let i : ℕ = c.loop-i.i in
    let call = c.index-calls-i in
    let Here : ℕ → Type 0 = λ n. (one : Receipt) → slice_get xs n ≡ Some one → one.shard ≡ c.args.shard in
    let At = λ (n : ℕ). receipts_at c.args.shard (drop n xs) in
    let was = c.loop-i.invariant in
    elim c.if-seat.branch [
      | then-seat+else-next-receipts+in_ok-is_same+else-not-is_same w ↦
          let x = w.index-receipts-next in
          let y = w.index-replies-i in
          let shard = was.here x.result (at_place xs c.loop-i.next x.result w.if-next-receipts.false x.is) in
          let agreed = w.in_ok-is_same.ensures.0 (search rules) in
          let later = w.next_at-next-then-seat.ensures in
          let below : i < length rs = omega (arith, c.requires, c.loop-i-test.true) in
          record {
            bound = rw w.next-is later.bound.1;
            here = subst Here (sym w.next-is) later.here;
            same = (
              λ all. (heads_are c.args.shard c.args.seat cs rs xs i c.loop-i.next call.result y.result x.result c.loop-i-test.true call.is below y.is (sym c.seat.ensures ∙ w.if-seat.true) w.if-next-receipts.false x.is shard (was.same.0 all)).1 ∙ later.rest ∙ ap At (sym w.next-is),
              λ e. was.same.1 (heads_join c.args.shard c.args.seat cs rs xs i c.loop-i.next call.result y.result x.result c.loop-i-test.true call.is below y.is (sym c.seat.ensures ∙ w.if-seat.true) w.if-next-receipts.false x.is shard agreed.0 agreed.1 (e ∙ ap At w.next-is ∙ sym later.rest)),
            );
          }
      | else-seat w ↦
          let r = some_reply rs i (omega (arith, c.requires, c.loop-i-test.true)) in
          let skip = told-skip c.args.shard c.args.seat cs rs i call.result r.0 c.loop-i-test.true call.is r.1 r.2 (λ same. w.if-seat.false (c.seat.ensures ∙ same)) in
          record {
            bound = rw w.next-is was.bound;
            here = subst Here (sym w.next-is) was.here;
            same = (λ all. sym skip ∙ was.same.0 all ∙ ap At (sym w.next-is), λ e. was.same.1 (skip ∙ e ∙ ap At w.next-is));
          }
    ]

pub returns : goal.returns
returns c =
    let next : ℕ = c.loop-i.next in
    let count : ℕ = length c.args.receipts.now in
    ⊎_elim
    (λ (left : next < count). (
      λ t. absurd (false≢true (sym (lt-leb count next left) ∙ t)),
      λ all. absurd (one_left c.args.shard c.args.seat c.args.calls.now c.args.replies.now c.args.receipts.now c.loop-i.i next c.loop-i-test.false left c.loop-i.invariant.here (c.loop-i.invariant.same.0 all)),
    ))
    (λ (past : count ≤ next). (
      λ t. c.loop-i.invariant.same.1 (all_told c.args.shard c.args.seat c.args.calls.now c.args.replies.now c.args.receipts.now c.loop-i.i next c.loop-i-test.false past),
      λ all. le-leb count next past,
    ))
    (cases_lt next count)
