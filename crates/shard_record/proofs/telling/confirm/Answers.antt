use Rattle.std.proofs.Common.{◌≡◌, ◌∷◌, [], sym, ◌∙◌, subst}
use mathlib.Core.List.{IsPrefix}
use Rattle.shard_record.specs.Views.{View, only}
use Rattle.shard_record.specs.Telling.{IsKeeper, IsOut, keeping_for, key_at, log_of, ticket_at}
use Rattle.shard_record.proofs.TellingLemmas.{parts_held}
use Rattle.shard_record.proofs.telling.confirm.Goals as goal

pub take_reference-requires-clause-keeper : goal.take_reference-requires-clause-keeper
take_reference-requires-clause-keeper g c =
    let book = c.args.book in
    let parts = parts_held book (log_of book c.args.keeper.now) [] c.args.keeper.now c.part_held-blank.new.me c.part_held-blank.result c.requires.keeper c.part_held-blank.ensures.left c.part_held-blank.ensures.given in
    subst (IsKeeper book) (sym (parts.0 ∙ sym c.requires.keeper)) c.requires.keeper

pub returns : goal.returns
returns g c =
    let book = c.args.book in
    let keeper = c.args.keeper.now in
    let log = log_of book keeper in
    let shown : c.replace-shown.result ≡ c.args.reference.now = c.replace-shown.ensures.value in
    let blank = parts_held book log [] keeper c.part_held-blank.new.me c.part_held-blank.result c.requires.keeper c.part_held-blank.ensures.left c.part_held-blank.ensures.given in
    let same : c.part_held-blank.new.me ≡ keeper = blank.0 ∙ sym c.requires.keeper in
    let held = (ticket_at book c.args.reference.now, key_at book c.args.reference.now) ∷ [] in
    let taken : c.take_reference.new.keeper ≡ only book (keeping_for log held []) =
    c.take_reference.ensures.keeper ∙ (λ i. only book (keeping_for (log_of book (same i)) ((ticket_at book (shown i), key_at book (shown i)) ∷ []) [])) in
    let parts = parts_held book log held c.take_reference.new.keeper c.part_held.new.me c.part_held.result taken c.part_held.ensures.left c.part_held.ensures.given in
    record {
      keeper = parts.0 ∙ sym c.requires.keeper;
      reference = parts.1;
      seen = subst (λ (y : View × View). IsPrefix (log_of book y.0) (log_of book y.1)) (λ i. (shown i, same i)) c.take_reference.ensures.seen;
      out = subst (λ (y : View × View). IsOut (log_of book y.1) (ticket_at book y.0) (key_at book y.0)) (λ i. (shown i, same i)) c.take_reference.ensures.out;
    }
