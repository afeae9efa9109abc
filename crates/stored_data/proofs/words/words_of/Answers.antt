use Rattle.std.proofs.Common.{◌≡◌, true, false, sym, ap, ◌∙◌}
use Rattle.std.specs.Prelude.{if◌then◌else◌}
use Rattle.stored_data.specs.Data.{is_rate}
use Rattle.stored_data.specs.Fields.{size}
use Rattle.stored_data.proofs.WordColumns.{column_words}
use Rattle.stored_data.proofs.words.words_of.Goals as goal

pub returns-then-not-is_kept : goal.returns-then-not-is_kept
returns-then-not-is_kept c = sym (column_words c.args.column false (sym c.is_kept.ensures ∙ c.if-not-is_kept.true))

pub returns-then-is_rate : goal.returns-then-is_rate
returns-then-is_rate c =
    let rate : is_rate c.args.column.datum ≡ true = sym c.is_rate.ensures ∙ c.if-is_rate.true in
    sym (column_words c.args.column true (sym c.is_kept.ensures ∙ c.if-not-is_kept.false) ∙ ap (λ b. if b then 2 else size c.args.column) rate)

pub returns-else-is_rate : goal.returns-else-is_rate
returns-else-is_rate c =
    let rate : is_rate c.args.column.datum ≡ false = sym c.is_rate.ensures ∙ c.if-is_rate.false in
    c.size.ensures ∙ sym (column_words c.args.column true (sym c.is_kept.ensures ∙ c.if-not-is_kept.false) ∙ ap (λ b. if b then 2 else size c.args.column) rate)
