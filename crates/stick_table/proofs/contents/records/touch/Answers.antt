use Rattle.std.proofs.Common.{sym, ◌∙◌, ap, arith, get_or, unwrap_or}
use Rattle.std.specs.Map.{set_value}
use Rattle.stick_model.specs.Key.{same_key}
use Rattle.stick_table.proofs.EntryLemmas.{lookup-here, set_value-here}
use Rattle.stick_table.proofs.contents.records.touch.Goals as goal

pub returns-then-place-records : goal.returns-then-place-records
returns-then-place-records c = λ z.
    let es = c.args.records.now in
    let test = same_key c.args.key.now in
    let i = c.position_of-place.result in
    let d = c.index-records-place.result in
    let here = c.position_of-place.ensures.here d (omega arith) in
    let found = lookup-here test es i d (omega arith) here c.position_of-place.ensures.found in
    sym (set_value-here test es i d (record { stamp = c.args.stamp; date = c.args.date; values = (get_or es i d).1.values }) (omega arith) here (c.position_of-place.ensures.set _))
    ∙ ap (λ o. set_value test es (record { stamp = c.args.stamp; date = c.args.date; values = (unwrap_or o z).values })) (sym found)
