use Rattle.std.proofs.Common.{◌≡◌, ◌+◌, ◌<◌, ◌==◌, ap, sym, ◌∙◌, arith, inl, inr, map, true}
use Rattle.std.proofs.lemmas.Bool.Decides.{nat_tests}
use Rattle.stored_data.specs.Fields.{element, size}
use Rattle.stored_data.specs.Words.{altered, edited, edited_change, edited_index, edited_moment, field_at}
use Rattle.stored_data.proofs.Rows.{altered-edited, edited-keeps}
use Rattle.stored_data.proofs.WordColumns.{nothing_kept, leaves_all, past_all, column-edited, inside_column}
use Rattle.stored_data.proofs.words.edit_column.Goals as goal

pub returns-then-keeps-clause-fields : goal.returns-then-keeps-clause-fields
returns-then-keeps-clause-fields c = leaves_all c.args.column c.args.edit c.args.words.now c.args.at (edited-keeps c.args.edit c.args.column.datum (sym c.change-change.ensures ∙ c.keeps.ensures.0 c.if-keeps.true))

pub returns-then-not-is_kept-clause-fields : goal.returns-then-not-is_kept-clause-fields
returns-then-not-is_kept-clause-fields c =
    let none = nothing_kept c.args.column 0 (size c.args.column) c.args.words.now c.args.at (sym c.is_kept.ensures ∙ c.if-not-is_kept.true) in
    none ∙ sym (ap (map (edited c.args.edit)) none)

pub returns-then-index-size-clause-fields : goal.returns-then-index-size-clause-fields
returns-then-index-size-clause-fields c =
    past_all c.args.column c.args.edit c.args.words.now c.args.at (omega (arith, c.index_in-index.ensures, c.size.ensures, c.if-index-size.true))

pub change_at-requires-clause-kept : goal.change_at-requires-clause-kept
change_at-requires-clause-kept c = sym c.is_kept.ensures ∙ c.if-not-is_kept.false

pub change_at-requires-clause-within : goal.change_at-requires-clause-within
change_at-requires-clause-within c =
    let below : c.index_in-index.result < size c.args.column = omega (arith, c.size.ensures, c.if-index-size.false) in
    omega (arith, inside_column c.args.column c.index_in-index.result (sym c.is_kept.ensures ∙ c.if-not-is_kept.false) below, c.requires.within)

pub returns-clause-fields : goal.returns-clause-fields
returns-clause-fields c =
    let below : c.index_in-index.result < size c.args.column = omega (arith, c.size.ensures, c.if-index-size.false) in
    let same : (c.index_in-index.result == edited_index c.args.edit c.args.column.datum) ≡ true = grind (arith, nat_tests, c.index_in-index.ensures) in
    let changed_so : field_at (element c.args.column c.index_in-index.result) c.change_at.new.words (c.args.at + c.index_in-index.result) ≡ altered (edited_moment c.args.edit) (edited_change c.args.edit c.args.column.datum) (field_at (element c.args.column c.index_in-index.result) c.args.words.now (c.args.at + c.index_in-index.result)) =
    (λ i. record { field = (element c.args.column c.index_in-index.result).field; content = c.change_at.ensures.content i })
    ∙ (λ i. altered (c.moment.ensures i) (c.change-change.ensures i) (field_at (element c.args.column c.index_in-index.result) c.args.words.now (c.args.at + c.index_in-index.result))) in
    let is = altered-edited c.args.edit (field_at (element c.args.column c.index_in-index.result) c.args.words.now (c.args.at + c.index_in-index.result)) same in
    column-edited c.args.column c.args.edit c.args.words.now c.change_at.new.words c.args.at c.index_in-index.result (sym c.is_kept.ensures ∙ c.if-not-is_kept.false) c.index_in-index.ensures below
    (changed_so ∙ is) c.change_at.ensures.elsewhere

pub returns-clause-elsewhere : goal.returns-clause-elsewhere
returns-clause-elsewhere c k out =
    let below : c.index_in-index.result < size c.args.column = omega (arith, c.size.ensures, c.if-index-size.false) in
    let inside = inside_column c.args.column c.index_in-index.result (sym c.is_kept.ensures ∙ c.if-not-is_kept.false) below in
    elim out [ inl h ↦ c.change_at.ensures.elsewhere k (inl (omega (arith, h))) | inr h ↦ c.change_at.ensures.elsewhere k (inr (omega (arith, h, inside))) ]
