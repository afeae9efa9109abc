use Rattle.std.proofs.Common.{ℕ, ◌≡◌, ◌-◌, sym, ap, length, ◌∙◌}
use Rattle.stick_model.specs.State.{State}
use Rattle.stick_model.specs.Step.{begun}
use Rattle.stick_model.specs.declared.replies.Reply.TheVariants.{Expired}
use Rattle.stick_pooled.proofs.TableLemmas.{records-length}
use Rattle.stick_pooled.proofs.StatesLemmas.{now_is}
use Rattle.stick_pooled.proofs.StickTable.expire.Goals as goal

pub returns-clause-now : goal.returns-clause-now
returns-clause-now c =
    let t = c.self.inside in
    let u = c.self-2.inside in
    let before : length c.args.self.now.now.records ≡ c.len-before.result = ap (λ (s : State). length s.records) (sym (now_is c.self.view_is)) ∙ records-length t.spec.expire t.store c.self.invariant.0.stock ∙ sym c.len-before.ensures in
    let after : length (begun c.args.self.now.now c.args.now).records ≡ c.len.result = ap (λ (s : State). length s.records) (sym (now_is c.self-2.view_is ∙ c.begin.ensures.now)) ∙ records-length u.spec.expire u.store c.self-2.invariant.0.stock ∙ sym c.len.ensures in
    let gone : length c.args.self.now.now.records - length (begun c.args.self.now.now c.args.now).records ≡ c.from.result =
    ap (λ (n : ℕ). n - length (begun c.args.self.now.now c.args.now).records) before ∙ ap (λ (n : ℕ). c.len-before.result - n) after ∙ sym (c.from.ensures ∙ c.saturating_sub.ensures) in
    λ i. (Expired (gone i), sym c.begin.ensures.now i)
