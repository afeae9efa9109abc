use Rattle.std.proofs.Common.{sym, ◌∙◌, ap, arith, get_or, unwrap_or, set}
use Rattle.std.specs.Map.{set_value}
use Rattle.stick_model.specs.Key.{same_key}
use Rattle.stored_data.specs.Acts.{acted}
use Rattle.stick_model.specs.declared.rows.Record.{Record}
use Rattle.stick_table.proofs.EntryLemmas.{lookup-here, set_value-here}
use Rattle.stick_table.proofs.contents.records.act_at.Goals as goal

pub returns-then-place-records-clause-records : goal.returns-then-place-records-clause-records
returns-then-place-records-clause-records c = λ z.
    let es = c.args.records.now in
    let test = same_key c.args.key.now in
    let i = c.position_of-place.result in
    let d = c.index-records-place.result in
    let here = c.position_of-place.ensures.here d (omega arith) in
    let found = lookup-here test es i d (omega arith) here c.position_of-place.ensures.found in
    let after = λ (kept : Record). record kept { values = acted kept.values c.args.clock c.args.act } in
    ap (λ o. set_value test es (after (unwrap_or o z))) found
    ∙ set_value-here test es i d (after (get_or es i d).1) (omega arith) here (c.position_of-place.ensures.set _)
    ∙ ap (λ v. set es i ((get_or es i d).0, record (get_or es i d).1 { values = v })) (sym c.act.ensures.«data»)
