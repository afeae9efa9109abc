use Rattle.std.proofs.Common.{arith}
use Rattle.table_texts.proofs.DottedLemmas.{written}
use Rattle.table_texts.proofs.rows.push_dotted.Goals as goal

pub returns : goal.returns
returns c =
    written c.args.text.now.items c.args.address c.push_decimal.new.text.items c.push.new.self.items c.push_decimal-2.new.text.items c.push-2.new.self.items
    c.push_decimal-3.new.text.items c.push-3.new.self.items c.push_decimal-4.new.text.items c.from.result c.from-2.result c.from-3.result c.from-4.result
    (omega (arith, c.well_formed)) c.from.ensures c.from-2.ensures c.from-3.ensures c.from-4.ensures
    c.in_ok-push_decimal.ensures.ok c.in_ok-push.ensures.items c.in_ok-push_decimal-2.ensures.ok c.in_ok-push-2.ensures.items
    c.in_ok-push_decimal-3.ensures.ok c.in_ok-push-3.ensures.items c.in_ok-push_decimal-4.ensures.ok
