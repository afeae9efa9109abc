use Rattle.std.proofs.Common.{◌≡◌, true, false, sym, ◌∙◌, subst}
use Rattle.stored_data.specs.Data.{is_rate, is_array}
use Rattle.stored_data.specs.Stored.{IsPeriod, IsCount, Holds, is_excluded}
use Rattle.stored_data.specs.declared.datum.Datum.{Datum}
use Rattle.rule_words.proofs.NumberLemmas.{IsReadOf, column_of-IsReadOf}
use Rattle.rule_words.proofs.columns.add_item.Goals as goal

pub add-requires-clause-absent : goal.add-requires-clause-absent
add-requires-clause-absent c =
    let is : IsReadOf c.in-Some.datum c.in_ok-column.column = column_of-IsReadOf c.in-Some.datum c.before_parenthesis.result.1.now c.in_ok-column.column (sym c.read_column.ensures ∙ c.in_ok-column.was) in
    λ held. let yes : c.holds.result ≡ true = c.holds.ensures.holds.1 (subst (λ (d : Datum). Holds c.args.columns.now d) is.datum_is held) in cc

pub add-requires-clause-apart : goal.add-requires-clause-apart
add-requires-clause-apart c =
    let is : IsReadOf c.in-Some.datum c.in_ok-column.column = column_of-IsReadOf c.in-Some.datum c.before_parenthesis.result.1.now c.in_ok-column.column (sym c.read_column.ensures ∙ c.in_ok-column.was) in
    let apart : is_excluded c.args.columns.now c.in-Some.datum ≡ false = cc in
    subst (λ (d : Datum). is_excluded c.args.columns.now d ≡ false) (sym is.datum_is) apart

pub add-requires-clause-period : goal.add-requires-clause-period
add-requires-clause-period c =
    let is : IsReadOf c.in-Some.datum c.in_ok-column.column = column_of-IsReadOf c.in-Some.datum c.before_parenthesis.result.1.now c.in_ok-column.column (sym c.read_column.ensures ∙ c.in_ok-column.was) in
    subst (λ (d : Datum). IsPeriod (is_rate d) c.in_ok-column.column.period) (sym is.datum_is) is.period

pub add-requires-clause-count : goal.add-requires-clause-count
add-requires-clause-count c =
    let is : IsReadOf c.in-Some.datum c.in_ok-column.column = column_of-IsReadOf c.in-Some.datum c.before_parenthesis.result.1.now c.in_ok-column.column (sym c.read_column.ensures ∙ c.in_ok-column.was) in
    subst (λ (d : Datum). IsCount (is_array d) c.in_ok-column.column.count) (sym is.datum_is) is.count
