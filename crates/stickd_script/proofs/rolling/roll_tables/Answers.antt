use Rattle.std.proofs.Common.{◌≡◌, ◌<◌, List, Some, length, slice_get, slice_set, sym, ap, subst, ◌∙◌, arith}
use Rattle.std.proofs.lemmas.List.Edits.{map_over_more}
use Rattle.std.proofs.lemmas.Option.{slice_get-get_or}
use Rattle.shard_book.specs.BooksState.{BooksState}
use Rattle.shard_book.specs.declared.named.Named.{Named}
use Rattle.admit_drive.specs.Tables.{table_states}
use Rattle.stickd_script.specs.Rolling.{TablesRoll, rolled_named}
use Rattle.stickd_script.proofs.RollLemmas.{before_rolls, length-rolled_before, refused_at}
use Rattle.stickd_script.proofs.rolling.roll_tables.Goals as goal

pub returns-in-Err-clause-rolls : goal.returns-in-Err-clause-rolls
returns-in-Err-clause-rolls g c =
    let old : List (Named BooksState) = c.args.tables.now.items in
    let place = c.loop-place.place in
    let before : Named BooksState = c.index_mut.result.now in
    let after : Named BooksState = c.roll_table.new.named in
    let count : length c.loop-place.tables.items ≡ length old = ap length c.loop-place.invariant ∙ length-rolled_before place old in
    let within : place < length old = omega (arith, c.loop-place-test.true, c.as_slice-place-end.ensures.len, ap length c.as_slice-place-end.ensures.value) in
    let at : slice_get c.loop-place.tables.items place ≡ Some before = slice_get-get_or c.loop-place.tables.items place before (omega (arith, within, count)) ∙ ap Some (sym c.index_mut.ensures.value) in
    subst (λ (ts : List (Named BooksState)). TablesRoll (table_states old) (table_states (slice_set ts place after))) (sym c.loop-place.invariant)
    (refused_at place old before after (ap (λ (ts : List (Named BooksState)). slice_get ts place) (sym c.loop-place.invariant) ∙ at) c.in-Err.ensures.name c.in-Err.ensures.err)

pub loop-place-preserved : goal.loop-place-preserved
loop-place-preserved g c =
    let old : List (Named BooksState) = c.args.tables.now.items in
    let place = c.loop-place.place in
    let within : place < length old = omega (arith, c.loop-place-test.true, c.as_slice-place-end.ensures.len, ap length c.as_slice-place-end.ensures.value) in
    ap (slice_set c.loop-place.tables.items place) c.in-Ok.ensures.ok ∙ map_over_more rolled_named old c.loop-place.tables.items place c.index_mut.result.now within c.loop-place.invariant c.index_mut.ensures.value

pub returns-clause-rolls : goal.returns-clause-rolls
returns-clause-rolls g c =
    let old : List (Named BooksState) = c.args.tables.now.items in
    subst (λ (ts : List (Named BooksState)). TablesRoll (table_states old) (table_states ts)) (sym c.loop-place.invariant) (before_rolls c.loop-place.place old)
