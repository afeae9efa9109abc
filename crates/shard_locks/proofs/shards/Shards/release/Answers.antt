use Rattle.std.proofs.Common.{◌≡◌, ℕ, ◌∷◌, [], rules, subst, sym, ◌∙◌}
use Rattle.stick_model.specs.declared.events.Event.TheVariants.{Release}
use Rattle.stick_model.specs.declared.replies.Reply.TheVariants.{Released}
use Rattle.shard_record.specs.Parts.{holder}
use Rattle.shard_record.specs.Views.{View, only}
use Rattle.shard_record.specs.Telling.{IsReference, IsTold, key_at, ticket_at}
use Rattle.shard_locks.specs.ShardsState.{book_of}
use Rattle.shard_locks.proofs.KeyLemmas.{HasComeBack, comes_back, known_alone, still_reference}
use Rattle.shard_locks.proofs.SharedLemmas.{has_made}
use Rattle.shard_locks.proofs.shards.Shards.release.Given.{Over}
use Rattle.shard_locks.proofs.shards.Shards.release.Goals as goal

pub give_back-requires-clause-reference : goal.give_back-requires-clause-reference
give_back-requires-clause-reference g c =
    let of : ℕ = c.into_token-book.result.0 in
    let number : c.deref_mut.result.now.number ≡ of = search rules in
    let same : c.part_keeper-known.new.me ≡ c.into_token-book.result.1 = still_reference of c.into_token-book.result.1 c.part_keeper-known.new.me c.into_token-book.ensures.reference c.part_keeper-known.ensures.left in
    subst (λ n. IsReference n c.part_keeper-known.new.me) (sym number) (subst (IsReference of) (sym same) c.into_token-book.ensures.reference)

pub give_back-requires-clause-ticket : goal.give_back-requires-clause-ticket
give_back-requires-clause-ticket g c =
    let of : ℕ = c.into_token-book.result.0 in
    let number : c.deref_mut.result.now.number ≡ of = search rules in
    let same : c.part_keeper-known.new.me ≡ c.into_token-book.result.1 = still_reference of c.into_token-book.result.1 c.part_keeper-known.new.me c.into_token-book.ensures.reference c.part_keeper-known.ensures.left in
    let ticket : c.ticket-ticket.result ≡ ticket_at of c.into_token-book.result.1 = search rules in
    ticket ∙ (λ i. ticket_at (sym number i) (sym same i))

-- what comes back
back : (g : Over) (c : goal.After-join g) → HasComeBack c.into_token-book.result.0 c.ticket-ticket.result c.join.new.me
back g c =
    let of : ℕ = c.into_token-book.result.0 in
    let kept = c.deref_mut.result.now in
    let reference : View = c.into_token-book.result.1 in
    let number : kept.number ≡ of = search rules in
    let same : c.part_keeper-known.new.me ≡ reference = still_reference of reference c.part_keeper-known.new.me c.into_token-book.ensures.reference c.part_keeper-known.ensures.left in
    let ticket : c.ticket-ticket.result ≡ ticket_at of reference = search rules in
    let came : c.in-Err.token ≡ only kept.number (holder kept.log ((c.ticket-ticket.result, key_at kept.number c.part_keeper-known.new.me) ∷ [])) = search rules in
    comes_back of kept.log c.ticket-ticket.result reference c.in-Err.token c.part_keeper-known.result c.join.new.me c.into_token-book.ensures.reference ticket c.into_token-book.ensures.known
    (came ∙ (λ i. only (number i) (holder kept.log ((c.ticket-ticket.result, key_at (number i) (same i)) ∷ []))))
    (known_alone of reference c.part_keeper-known.result c.into_token-book.ensures.reference c.part_keeper-known.ensures.given)
    c.join.ensures.both c.join.ensures.compared

pub new-requires-clause-reference : goal.new-requires-clause-reference
new-requires-clause-reference g c = (back g c).reference

pub new-requires-clause-ticket : goal.new-requires-clause-ticket
new-requires-clause-ticket g c = (back g c).ticket_is

pub new-requires-clause-known : goal.new-requires-clause-known
new-requires-clause-known g c = (back g c).known

pub returns-in-Ok-clause-mine : goal.returns-in-Ok-clause-mine
returns-in-Ok-clause-mine g c =
    let book : ℕ = book_of c.args.self.now c.args.reference.shard in
    let told : IsTold book (Release c.args.now c.args.reference.ticket) Released c.args.seat.now.known c.give_back.new.self.known = search rules in
    has_made book (Release c.args.now c.args.reference.ticket) Released c.args.seat.now.known c.give_back.new.self.known told
