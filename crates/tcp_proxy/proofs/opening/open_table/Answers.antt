use Rattle.std.proofs.Common.{◌≡◌, ◌+◌, subst, sym, vec_len, arith}
use Rattle.stick_model.specs.declared.specification.Spec.{Spec}
use Rattle.shard_locks.specs.Shared.{AreParts}
use Rattle.tcp_proxy.proofs.OpenLemmas.{seats_counted}
use Rattle.tcp_proxy.proofs.opening.open_table.Goals as goal

pub new-requires-clause-parts : goal.new-requires-clause-parts
new-requires-clause-parts g c =
    subst (λ (spec : Spec). AreParts g.J.Naming.specs c.args.dealer.now.kept (record spec { seed = c.args.seed }) c.args.shards) (sym c.in_ok-spec.ensures) c.requires.parts

pub take_last-keeper-requires : goal.take_last-keeper-requires
take_last-keeper-requires g c =
    let counted : vec_len c.in_ok-table.seats ≡ c.args.workers + c.args.clients + 1 = seats_counted c.in_ok-table.seats (c.args.workers + c.args.clients + 1) c.args.keep c.in_ok-table.ensures.seats in
    omega arith

pub split_off-requires : goal.split_off-requires
split_off-requires g c =
    let counted : vec_len c.in_ok-table.seats ≡ c.args.workers + c.args.clients + 1 = seats_counted c.in_ok-table.seats (c.args.workers + c.args.clients + 1) c.args.keep c.in_ok-table.ensures.seats in
    let keeper : vec_len c.take_last-keeper.new.seats + 1 ≡ vec_len c.in_ok-table.seats = c.take_last-keeper.ensures in
    omega arith

pub returns-clause-commands : goal.returns-clause-commands
returns-clause-commands g c =
    let counted : vec_len c.in_ok-table.seats ≡ c.args.workers + c.args.clients + 1 = seats_counted c.in_ok-table.seats (c.args.workers + c.args.clients + 1) c.args.keep c.in_ok-table.ensures.seats in
    let keeper : vec_len c.take_last-keeper.new.seats + 1 ≡ vec_len c.in_ok-table.seats = c.take_last-keeper.ensures in
    let tail = c.in_ok-commands.ensures.tail_len in
    omega (arith, tail)
