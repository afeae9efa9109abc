use Rattle.std.proofs.Common.{arith, inl}
use Rattle.stick_key.proofs.Ipv6Gaps.{full_sound}
use Rattle.stick_key.proofs.Ipv6Sides.{found_more, full_only, none_more, sides_complete, sides_sound}
use Rattle.stick_key.proofs.ipv6.reader.read_all.Goals as goal

pub returns-in-Some-clause-found : goal.returns-in-Some-clause-found
returns-in-Some-clause-found c =
    found_more _ _ _ (λ all sides. sides_sound c.args.text.now c.in-Some.before.now c.in-Some.after.now all c.in-Some.ensures.found.0 sides) c.read_shortened.ensures.found

pub returns-in-Some-clause-none : goal.returns-in-Some-clause-none
returns-in-Some-clause-none c =
    none_more _ _ _ (λ all eight spells. sides_complete c.args.text.now c.in-Some.before.now c.in-Some.after.now all c.in-Some.ensures.found.0 c.in-Some.ensures.found.1 spells)
    c.read_shortened.ensures.none

pub returns-in-None-clause-found : goal.returns-in-None-clause-found
returns-in-None-clause-found c = found_more _ _ _ (λ all spell. inl (full_sound c.args.text.now all spell)) c.read_full.ensures.found

pub returns-in-None-clause-none : goal.returns-in-None-clause-none
returns-in-None-clause-none c =
    none_more _ _ _ (λ all eight spells. full_only c.args.text.now all c.in-None.ensures.none (omega arith) spells) c.read_full.ensures.none
