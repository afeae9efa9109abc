use Rattle.std.proofs.Common.{◌≡◌, ◌<◌, ◌+◌, ◌/◌, ◌∙◌, length, arith, ap}
use Rattle.std.specs.Prelude.{min}
use Rattle.std.proofs.lemmas.Bool.Decides.{nat_tests}
use Rattle.std.proofs.lemmas.List.{length_push}
use Rattle.stick_key.proofs.HexadecimalLemmas.{spelled_all, spelled_more}
use Rattle.stick_key.proofs.hexadecimal.spelled_bytes.Goals as goal

pub loop-place-preserved : goal.loop-place-preserved
loop-place-preserved c =
    let inside : c.loop-place.place < length c.args.digits.now / 2 = grind (arith, nat_tests, c.min-place-end.ensures, c.loop-place-test.true) in
    let more = spelled_more c.args.digits.now c.loop-place.place inside in
    let longer = ap length c.push_reserved.ensures.items ∙ length_push c.loop-place.bytes.items _ in
    record {
      so_far = cc (c.push_reserved.ensures.items, c.loop-place.invariant.so_far, more, c.digit.ensures, c.digit-in-loop-place.ensures);
      long = longer ∙ ap (λ n. n + 1) c.loop-place.invariant.long;
      room = omega (arith, c.push_reserved.ensures.capacity, c.loop-place.invariant.room);
    }

pub returns-clause-bytes : goal.returns-clause-bytes
returns-clause-bytes c =
    let both : c.loop-place.place ≡ min c.args.count (length c.args.digits.now / 2) =
    grind (arith, nat_tests, c.min-place-end.ensures, c.loop-place-test.false, c.loop-place.auto.place-end) in
    c.loop-place.invariant.so_far ∙ spelled_all c.args.digits.now c.loop-place.place c.args.count both
