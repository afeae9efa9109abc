use Rattle.std.proofs.Common.{◌≡◌, ◌∙◌, [], true, false, sym, refl}
use Rattle.std.specs.Prelude.{is_none}
use Rattle.rule_eval.specs.Asked.{asked_by}
use Rattle.rule_eval.specs.Eval.{remaining}
use Rattle.rule_eval.specs.Left.{is_done}
use Rattle.admit_core.specs.Conn.{Judges, progress_of, wanted}
use Rattle.admit_core.specs.Connection.{is_asking, is_judged}
use Rattle.admit_core.proofs.ConnLemmas.{free_for_none, heard_is, not_decided, received_same, stands_heard}
use Rattle.admit_core.proofs.conn.Conn.hear.Goals as goal

pub invariant_of-self-2 : goal.invariant_of-self-2
unfolding wanted progress_of
invariant_of-self-2 g c =
    let conn = c.args.self.now in
    let judged : is_judged conn.phase ≡ true = sym c.is_judged.ensures ∙ c.if-not-is_judged.false in
    let none : is_none conn.given ≡ true = conn.not_given judged in
    let asked : c.asks-asked.result ≡ asked_by (remaining conn.eval []) = c.asks-asked.ensures.asked in
    let asks : is_done (remaining conn.eval []) ≡ false = not_decided (remaining conn.eval []) c.asks-asked.result asked c.in_default.not-Decided in
    record {
      not_given = λ _. none;
      not_held = free_for_none c.receive.new.held conn.given none;
      same_tables = λ _. received_same (remaining conn.eval []) (progress_of conn) c.asks-asked.result c.args.answer.now c.args.reference c.receive.new.held _ _ none judged asks c.requires.answers asked (conn.same_tables judged) c.receive.ensures c.hear.ensures.slots;
    }

pub returns-clause-progress : goal.returns-clause-progress
unfolding wanted progress_of
returns-clause-progress g c =
    let conn = c.args.self.now in
    let judged : is_judged conn.phase ≡ true = sym c.is_judged.ensures ∙ c.if-not-is_judged.false in
    let none : is_none conn.given ≡ true = conn.not_given judged in
    let asked : c.asks-asked.result ≡ asked_by (remaining conn.eval []) = c.asks-asked.ensures.asked in
    let asks : is_done (remaining conn.eval []) ≡ false = not_decided (remaining conn.eval []) c.asks-asked.result asked c.in_default.not-Decided in
    heard_is (remaining conn.eval []) (progress_of conn) c.asks-asked.result c.args.reference c.receive.new.held judged asks none asked c.receive.ensures

pub returns-clause-stands : goal.returns-clause-stands
unfolding wanted progress_of Judges
returns-clause-stands g c connection stands =
    let conn = c.args.self.now in
    let judged : is_judged conn.phase ≡ true = sym c.is_judged.ensures ∙ c.if-not-is_judged.false in
    let none : is_none conn.given ≡ true = conn.not_given judged in
    let asked : c.asks-asked.result ≡ asked_by (remaining conn.eval []) = c.asks-asked.ensures.asked in
    let asks : is_done (remaining conn.eval []) ≡ false = not_decided (remaining conn.eval []) c.asks-asked.result asked c.in_default.not-Decided in
    let asking : is_asking (wanted conn) (progress_of conn) ≡ true = rw (judged, asks) refl in
    stands_heard conn _ connection c.args.answer.now c.args.reference stands (c.hear.ensures.stands connection.setup connection.samples connection.answers stands.judges) asking
    (heard_is (remaining conn.eval []) (progress_of conn) c.asks-asked.result c.args.reference c.receive.new.held judged asks none asked c.receive.ensures)
