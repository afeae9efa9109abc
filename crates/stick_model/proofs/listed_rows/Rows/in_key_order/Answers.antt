use Rattle.std.proofs.Common.{◌∙◌, ap, sym}
use Rattle.stick_model.specs.Gathered.{in_key_order}
use Rattle.stick_model.specs.Listed.{of_all, rows_of}
use Rattle.stick_model.specs.declared.listed_rows.Form.{Form}
use Rattle.stick_model.proofs.ListedLemmas.{order-again, parts-order}
use Rattle.stick_model.proofs.listed_rows.Rows.in_key_order.Goals as goal

pub returns-in-Packed : goal.returns-in-Packed
returns-in-Packed c =
    rw (c.in-Packed.is)
    (parts-order c.in-Packed.parts.items ∙ ap (λ (form : Form). in_key_order (rows_of form)) (sym c.in-Packed.is) ∙ ap in_key_order c.self.view_is)

pub returns-in-Merged : goal.returns-in-Merged
returns-in-Merged c =
    rw (c.in-Merged.is)
    (sym (order-again (of_all c.in-Merged.parts.items)) ∙ ap (λ (form : Form). in_key_order (rows_of form)) (sym c.in-Merged.is) ∙ ap in_key_order c.self.view_is)
