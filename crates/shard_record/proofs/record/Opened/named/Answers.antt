use Rattle.std.proofs.Common.{sym, ap, subst}
use Rattle.shard_record.specs.Dealing.{IsLeft}
use Rattle.shard_record.proofs.DealingLemmas.{opening_left}
use Rattle.shard_record.proofs.record.Opened.named.Goals as goal

pub returns-clause-begun : goal.returns-clause-begun
returns-clause-begun g c =
    let self = c.args.self in
    subst (IsLeft 0 self.books 0 self.seats) (sym (ap (λ me. me.0) self.fresh.1)) (opening_left self.books self.seats)
