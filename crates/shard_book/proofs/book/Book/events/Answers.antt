use Rattle.std.proofs.Common.{◌≡◌, ◌≤◌, ◌+◌, ◌^◌, length, ap, ◌∙◌, arith}
use Rattle.shard_book.specs.BookState.{BookState}
use Rattle.shard_book.proofs.BookLemmas.{live_events, live_events-limit}
use Rattle.shard_book.proofs.book.Book.events.Goals as goal

pub returns-clause-events : goal.returns-clause-events
returns-clause-events g c =
    let book : BookState = record { base = g.T.Table.base c.self.inside.live; calls = c.self.inside.calls.items; live = g.T.Table.state c.self.inside.live } in
    let calls : length c.as_slice.result.now ≡ length book.calls = ap length c.as_slice.ensures.value in
    let events : book.live.events ≡ book.base.events + length book.calls = live_events book c.self.invariant.0 in
    let count : c.base_events.result ≡ book.base.events = c.base_events.ensures in
    let sum : c.base_events.result + length c.as_slice.result.now ≡ book.live.events = omega arith in
    sum ∙ ap (λ (b : BookState). b.live.events) c.self.view_is

pub returns-clause-limit : goal.returns-clause-limit
returns-clause-limit g c =
    let book : BookState = record { base = g.T.Table.base c.self.inside.live; calls = c.self.inside.calls.items; live = g.T.Table.state c.self.inside.live } in
    let calls : length c.as_slice.result.now ≡ length book.calls = ap length c.as_slice.ensures.value in
    let events : book.live.events ≡ book.base.events + length book.calls = live_events book c.self.invariant.0 in
    let limit : book.live.events ≤ 2 ^ 62 = live_events-limit book c.self.invariant.0 in
    let count : c.base_events.result ≡ book.base.events = c.base_events.ensures in
    omega arith
