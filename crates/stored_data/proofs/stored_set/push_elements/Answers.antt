use Rattle.std.proofs.Common.{◌<◌, ◌∙◌, ap, arith}
use Rattle.std.specs.Prelude.{◌++◌, map, ◌-◌, ◌+◌}
use Rattle.stored_data.specs.Fields.{elements_from, size}
use Rattle.stored_data.proofs.Elements.{spread-joined}
use Rattle.stored_data.proofs.stored_set.push_elements.Goals as goal

pub loop-index-preserved : goal.loop-index-preserved
loop-index-preserved c =
    let inside : c.loop-index.index < size c.args.column = omega (arith, c.loop-index.invariant.end, c.loop-index-test.true) in
    record {
      fields = ap (λ items. items ++ map (λ one. one.field) (elements_from c.args.column (c.loop-index.index + 1) (size c.args.column - (c.loop-index.index + 1)))) c.in_ok-push.ensures.items
          ∙ spread-joined c.args.column c.loop-index.fields.items c.loop-index.index inside ∙ c.loop-index.invariant.fields;
      end = c.loop-index.invariant.end;
      within = omega (arith, inside);
    }
