use Rattle.std.proofs.Common.{◌≡◌, ◌*◌, ◌%◌, ◌^◌, subst, sym, arith}
use Rattle.std.specs.Int.{bit_at}
use Rattle.std.specs.Prelude.{bit_or}
use Rattle.key_index.proofs.MarkLemmas.{marked_or, kept_or}
use Rattle.std.proofs.lemmas.Nat.{pow_below}
use Rattle.key_index.proofs.with_mark.Goals as goal

pub returns-clause-marked : goal.returns-clause-marked
returns-clause-marked c =
    let small = pow_below c.args.mark 8 c.requires in
    let is : 1 * 2 ^ c.args.mark % 256 ≡ 2 ^ c.args.mark = omega (arith, small) in
    subst (λ b. bit_at (bit_or c.args.marks b) c.args.mark ≡ 1) (sym is) (marked_or c.args.marks c.args.mark)

pub returns-clause-kept : goal.returns-clause-kept
returns-clause-kept c = λ other is. kept_or c.args.marks _ other is
