use Rattle.std.proofs.Common.{arith}
use Rattle.proxy_header.proofs.GroupLemmas.{first_written}
use Rattle.proxy_header.proofs.printing.push_groups.Goals as goal

pub loop-group-init : goal.loop-group-init
loop-group-init c = record {
  text = first_written c.push_group.new.text c.args.text.now c.args.groups.now c.in-Some.rest.now c.in-Some.first.now c.in-Some.ensures.cases.0 c.push_group.ensures.text;
  room = omega arith;
}
