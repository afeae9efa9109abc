use Rattle.stick_key.proofs.Ipv6Digits.{first_written}
use Rattle.stick_key.proofs.ipv6.printer.push_groups.Goals as goal

pub loop-group-init : goal.loop-group-init
loop-group-init c =
    first_written c.push_group.new.text.items c.args.text.now.items c.args.groups.now c.in-Some.rest.now c.in-Some.first.now
    c.in-Some.ensures.cases.0 c.in_ok-push_group.ensures
