use Rattle.std.proofs.Common.{◌≡◌, ℕ, ◌+◌, ◌^◌, ◌<◌, ◌≤◌, ◌∙◌, length, get_or, cond, ap, arith}
use Rattle.std.proofs.lemmas.List.{take_more}
use Rattle.admit_world.proofs.ScheduleLemmas.{ran_more}
use Rattle.admit_world.proofs.world.World.run.Goals as goal
use Rattle.admit_world.proofs.world.World.run.Goals.{then-element, else-element}

pub loop-number-preserved : goal.loop-number-preserved
loop-number-preserved g c =
    let before = c.loop-number.invariant in
    let grown : (c.if-element.refused ≡ c.loop-number.refused + cond c.element.result 1 0) × (c.if-element.refused ≤ c.loop-number.number-index + 1) = elim c.if-element.branch [
      | then-element w ↦ (let one : ◌≡◌ {A = ℕ} (cond c.element.result 1 0) 1 = ap (λ b. cond b 1 0) w.if-element.true in (omega (arith, one, w.refused-is), omega (arith, w.refused-is, before.few)))
      | else-element w ↦ (let none : ◌≡◌ {A = ℕ} (cond c.element.result 1 0) 0 = ap (λ b. cond b 1 0) w.if-element.false in (omega (arith, none, w.refused-is), omega (arith, w.refused-is, before.few)))
    ] in
    let IsElement : ℕ × ℕ → Type 0 = λ element. (element.0 < length c.args.self.now.visitors) × (element.1 < 2 ^ 62) in
    let here : IsElement (get_or c.args.schedule.now c.loop-number.number-index (0, 0)) = c.requires.schedule c.loop-number.number-index (0, 0) c.loop-number-test.true in
    record {
      few = grown.1;
      setup = c.element.ensures.setup ∙ before.setup;
      count = c.element.ensures.count ∙ before.count;
      ran = ran_more _ _ _ _ _ _ _ _ c.element.result before.ran c.element.ensures.went (take_more c.args.schedule.now c.loop-number.number-index _ c.loop-number-test.true) grown.0;
    }
