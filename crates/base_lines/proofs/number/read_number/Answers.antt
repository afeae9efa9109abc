use Rattle.std.proofs.Common.{◌≡◌, ◌∙◌, sym, get_or, true, rules}
use Rattle.std.specs.Char.{is_ascii_digit}
use Rattle.base_lines.proofs.NumberLemmas.{number_of-too_large, number_of-all}
use Rattle.base_lines.proofs.number.read_number.Goals as goal

pub returns-in_err-number : goal.returns-in_err-number
returns-in_err-number c =
    let digit : is_ascii_digit (get_or c.args.text.now c.loop-byte.byte-index 0) ≡ true = search rules in
    c.from_residual.ensures ∙ sym (number_of-too_large _ _ _ c.loop-byte-test.true digit c.loop-byte.invariant.value c.in_err-number.ensures)

pub returns : goal.returns
returns c = sym (number_of-all _ _ _ c.loop-byte-test.false c.loop-byte.invariant.some c.loop-byte.invariant.digits c.loop-byte.invariant.value c.loop-byte.invariant.fits)
