-- What holds at every moment.
use Rattle.std.proofs.Common.{ap, sym, ◌∙◌, arith, cond, count_by}
use Rattle.stick_model.specs.Key.{same_key}
use Rattle.shard_record.specs.Calls.{Held, passed_in}
use Rattle.shard_record.specs.Laws.{AtOnceLaw}
use Rattle.shard_record.proofs.Records.{history_out, record_limit}

pub at_once-law : AtOnceLaw
at_once-law views kept book =
    let one = kept book in
    record {
      limit = λ key limit. omega (arith, one.balanced (λ (x : Held). cond (passed_in key limit one.log x) 1 0), record_limit one.log one.live key limit one.history);
      current = λ key. one.balanced (λ (x : Held). cond (same_key key x.1) 1 0) ∙ sym (ap (λ ts. count_by (λ (x : Held). same_key key x.1) ts) (history_out one.log one.live one.history));
    }
