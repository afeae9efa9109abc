use Rattle.std.proofs.Common.{◌≡◌, ◌*◌, rules, replicate, ℕ}
use Rattle.stick_pooled.proofs.CutLemmas.{new-rows}
use Rattle.stick_pooled.proofs.value_rows.Rows.new.Goals as goal

pub returns : goal.returns
returns c =
    let total : c.in-Some.all ≡ c.args.count * c.width-width.result = search rules in
    let zeros : c.in_ok-words.words.items ≡ replicate {A = ℕ} c.in-Some.all 0 = search rules in
    new-rows c.args.columns c.args.count c.width-width.result c.in-Some.all c.in_ok-words.words.items total zeros
