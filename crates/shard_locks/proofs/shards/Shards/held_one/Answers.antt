use Rattle.std.proofs.Common.{◌≡◌, ℕ, true, List, length, rules, subst, sym}
use Rattle.shard_record.specs.declared.view.Call.{Call}
use Rattle.shard_record.specs.Calls.{passed_in}
use Rattle.shard_record.specs.Telling.{log_of}
use Rattle.shard_locks.specs.Shared.{WasOut}
use Rattle.shard_locks.specs.ShardsState.{ShardsState, book_of}
use Rattle.shard_locks.proofs.HoldingLemmas.{books_inside, reference_count, reference_holds}
use Rattle.shard_locks.proofs.shards.Shards.held_one.Goals as goal

pub returns : goal.returns
returns g c =
    let inside : ShardsState = record { spec = c.self.inside.spec; shards = length c.self.inside.books.items; keep = c.self.inside.keep; first = c.self.inside.first } in
    let books = books_inside inside c.args.self.now g.J.Naming.books c.self.view_is c.self.invariant.1 in
    let of : ℕ = c.into_token-book.result.0 in
    let book : ℕ = book_of c.args.self.now c.args.reference.shard in
    let same : of ≡ book = search rules in
    let knew : log_of book c.args.seat.known ≡ log_of of c.into_token-held.result = λ i. log_of (sym same i) (sym c.into_token-held.ensures.known i) in
    record {
      one = reference_count c.args.self.now g.J.Naming.books of c.args.reference.shard c.into_token-held.result c.into_token-book.result.1 c.join.new.me books c.into_token-held.ensures.sees
          c.into_token-book.ensures.reference same c.requires.shard c.join.ensures.both;
      passed = λ key limit was passed.
          reference_holds c.args.self.now g.J.Naming.books limit of c.args.reference.ticket key c.into_token-held.result c.into_token-book.result.1 c.join.new.me
          books c.into_token-held.ensures.sees c.into_token-book.ensures.reference c.into_token-book.ensures.ticket c.into_token-book.ensures.known
          (subst (λ (log : List Call). WasOut log c.args.reference.ticket key) knew was)
          (subst (λ (log : List Call). passed_in key limit log (c.args.reference.ticket, key) ≡ true) knew passed)
          c.join.ensures.both c.join.ensures.compared;
    }
