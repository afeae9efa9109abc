use Rattle.std.proofs.Common.{◌≡◌, ◌≤◌, vec_len, vec_capacity, arith}
use Rattle.stick_model.specs.State.{State, empty_table}
use Rattle.shard_book.proofs.BookLemmas.{empty_is_book, empty_has_places}
use Rattle.shard_book.proofs.book.Book.open.Goals as goal

pub invariant_of-result : goal.invariant_of-result
invariant_of-result g c =
    let live : State = g.T.Table.state c.in_ok-live.live in
    let base : State = g.T.Table.base c.in_ok-live.live in
    let base_is : base ≡ empty_table c.args.spec = c.in_ok-live.ensures.base in
    let live_is : live ≡ empty_table c.args.spec = c.in_ok-live.ensures.empty in
    let within : vec_len c.new.result ≤ vec_capacity c.new.result = omega (arith, c.new.ensures.len) in (
      empty_is_book c.args.spec base live c.new.result.items c.requires base_is c.new.ensures.items live_is,
      empty_has_places c.args.spec live (vec_len c.new.result) (vec_capacity c.new.result) live_is within,
    )

pub returns-clause-book : goal.returns-clause-book
returns-clause-book g c =
    let live : State = g.T.Table.state c.in_ok-live.live in
    let base : State = g.T.Table.base c.in_ok-live.live in
    let base_is : base ≡ empty_table c.args.spec = c.in_ok-live.ensures.base in
    empty_is_book c.args.spec base live c.new.result.items c.requires base_is c.new.ensures.items c.in_ok-live.ensures.empty
