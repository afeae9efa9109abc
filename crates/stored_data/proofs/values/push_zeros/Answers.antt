use Rattle.std.proofs.Common.{◌≡◌, ◌<◌, ◌∙◌, true, ap, arith, rules}
use Rattle.std.specs.Prelude.{◌++◌, map, filter, ◌-◌, ◌+◌}
use Rattle.stored_data.specs.Acts.{is_kept, zero_field}
use Rattle.stored_data.specs.Fields.{element, elements_from, size}
use Rattle.stored_data.proofs.WordColumns.{zeros-joined}
use Rattle.stored_data.proofs.values.push_zeros.Goals as goal

pub loop-index-preserved : goal.loop-index-preserved
loop-index-preserved c =
    let kept : is_kept (element c.args.column 0) ≡ true = search rules in
    let inside : c.loop-index.index < size c.args.column = omega (arith, c.loop-index.invariant.end, c.loop-index-test.true) in
    record {
      fields = ap (λ items. items ++ map zero_field (filter is_kept (elements_from c.args.column (c.loop-index.index + 1) (size c.args.column - (c.loop-index.index + 1))))) c.in_ok-push_zero.ensures
          ∙ zeros-joined c.args.column c.loop-index.fields.items c.loop-index.index kept inside ∙ c.loop-index.invariant.fields;
      end = c.loop-index.invariant.end;
      within = omega (arith, inside);
    }
