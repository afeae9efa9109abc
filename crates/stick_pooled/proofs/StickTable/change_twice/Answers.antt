use Rattle.std.proofs.Common.{◌≡◌, sym, ◌∙◌, ap, false, unwrap_or}
use Rattle.std.proofs.lemmas.Bool.{false≢true}
use Rattle.stick_model.specs.Step.{Outcome, shows_rows, slot_of}
use Rattle.stick_model.proofs.ReplyLemmas.{rows_told}
use Rattle.stick_pooled.proofs.StickTable.change_twice.Goals as goal

pub unreachable-requires : goal.unreachable-requires
unreachable-requires c =
    let none : shows_rows c.in_ok-reply.reply ≡ false = sym (ap (λ (o : Outcome). shows_rows o.0) c.in_ok-reply.ensures.ok) ∙ rows_told c.args.self.now.now c.args.event.now (unwrap_or (slot_of c.in_ok-reply.reply) 0) c.requires.rows in
    false≢true (c.in-Err.ensures.memory none)
