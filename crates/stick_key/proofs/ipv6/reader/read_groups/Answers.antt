use Rattle.std.proofs.Common.{[], ◌∷◌, ap, arith, length, length-append}
use Rattle.stick_key.proofs.Ipv6Groups.{spelled_more, only_more, only_group, too_many}
use Rattle.stick_key.proofs.ipv6.reader.read_groups.Goals as goal

pub returns-in_err-read_hex_group-clause-none : goal.returns-in_err-read_hex_group-clause-none
returns-in_err-read_hex_group-clause-none c =
    rw c.from_residual.ensures (λ all spell. absurd (only_group c.args.dotted_end c.args.text.now c.loop-count.rest.now c.in-Some.after.now c.in-Some.part.now c.loop-count.groups
    c.in-Some.ensures.found c.in_err-read_hex_group.ensures c.loop-count.invariant.only all spell))

pub returns-clause-none : goal.returns-clause-none
returns-clause-none c = λ all spell.
    too_many c.args.dotted_end c.args.text.now c.loop-count.rest.now c.loop-count.groups (omega (arith, c.loop-count.invariant.counted)) c.loop-count.invariant.only all spell

pub loop-count-preserved : goal.loop-count-preserved
loop-count-preserved c =
    record {
      counted = omega (arith, c.loop-count.invariant.counted, ap length c.push.ensures, length-append c.loop-count.groups (c.in_ok-read_hex_group.field-0 ∷ []));
      spelled = rw c.push.ensures (spelled_more c.args.dotted_end c.args.text.now c.loop-count.rest.now c.in-Some.after.now c.in-Some.part.now c.loop-count.groups c.in_ok-read_hex_group.field-0
          c.in-Some.ensures.found c.in_ok-read_hex_group.ensures.0 c.in_ok-read_hex_group.ensures.1 c.loop-count.invariant.spelled);
      only = rw c.push.ensures (only_more c.args.dotted_end c.args.text.now c.loop-count.rest.now c.in-Some.after.now c.in-Some.part.now c.loop-count.groups c.in_ok-read_hex_group.field-0
          c.in-Some.ensures.found c.in_ok-read_hex_group.ensures.1 c.loop-count.invariant.only);
    }
