use Rattle.std.proofs.Common.{◌≡◌, ℕ, ◌+◌, ◌<◌, refl, sym, ap, ◌∙◌, List, length, drop, get_or, None, Some, Option, is_some, IsSome}
use Rattle.std.proofs.lemmas.Bool.{false≢true}
use Rattle.std.proofs.lemmas.List.{at_drop_more, drop_all}
use Rattle.stored_data.specs.Acts.{with_value}
use Rattle.stick_pooled.specs.Stock.{Held, Stock, held_at, with_values}
use Rattle.stick_model.specs.Step.{put_pairs}
use Rattle.stick_model.specs.declared.rows.Cell.{Cell}
use Rattle.stick_pooled.proofs.StoreLemmas.{values-again, values-same, values-at}
use Rattle.stick_pooled.proofs.pairs.put_pairs.Goals as goal

record IsOneMore (s new : Stock) (slot : ℕ) (pairs : List Cell) (i : ℕ) : Type 0 where
  there : IsSome (held_at new slot)
  left : with_values new slot (put_pairs (drop (i + 1) pairs)) ≡ with_values s slot (put_pairs (drop i pairs))

one-more : (s new : Stock) (slot : ℕ) (pairs : List Cell) (i : ℕ) (d : Cell) → i < length pairs → IsSome (held_at s slot)
    → new ≡ with_values s slot (λ values. with_value values (get_or pairs i d).field (get_or pairs i d).value) → IsOneMore s new slot pairs i
one-more s new slot pairs i d inside some is = go (held_at s slot) refl some
  where
    go : (o : Option Held) → held_at s slot ≡ o → IsSome o → IsOneMore s new slot pairs i
    go None there none = absurd (false≢true none)
    go (Some h) there _ = record {
      there = ap (λ (x : Stock). is_some (held_at x slot)) is ∙ ap is_some (values-at s slot h (λ values. with_value values (get_or pairs i d).field (get_or pairs i d).value) there);
      left = ap (λ (x : Stock). with_values x slot (put_pairs (drop (i + 1) pairs))) is
          ∙ values-again s slot h (λ values. with_value values (get_or pairs i d).field (get_or pairs i d).value) (put_pairs (drop (i + 1) pairs)) there
          ∙ sym (at_drop_more (λ ps. with_values s slot (put_pairs ps)) pairs i d inside);
    }

pub loop-pair-preserved : goal.loop-pair-preserved
loop-pair-preserved c =
    let m = one-more c.loop-pair.store c.put.new.self c.args.slot c.args.pairs.now c.loop-pair.pair-index _ c.loop-pair-test.true c.loop-pair.invariant.there c.put.ensures in
    record { there = m.there; left = m.left ∙ c.loop-pair.invariant.left }

pub returns : goal.returns
returns c =
    sym (ap (λ ps. with_values c.loop-pair.store c.args.slot (put_pairs ps)) (drop_all c.loop-pair.pair-index c.args.pairs.now c.loop-pair-test.false) ∙ values-same c.loop-pair.store c.args.slot)
    ∙ c.loop-pair.invariant.left
