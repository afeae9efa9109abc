use Rattle.std.proofs.Common.{◌≡◌, ◌<◌, [], ◌∷◌, false, arith}
use Rattle.std.specs.Fmt.{digits}
use Rattle.stick_key.proofs.Ipv6Digits.{one_digit, two_digits, three_digits, four_digits, pushed}
use Rattle.stick_key.proofs.ipv6.printer.push_group.Goals as goal

pub returns-then-group-lt16 : goal.returns-then-group-lt16
returns-then-group-lt16 c =
    let last = rw c.to_be_bytes.ensures at c.hex_digit-last.ensures in
    let same : c.hex_digit-last.result ∷ [] ≡ digits 16 false c.args.group = cc (one_digit c.args.group c.if-group-lt16.true) in
    pushed _ _ _ _ _ same c.extend_from_slice.ensures.items

pub returns-then-group-lt256 : goal.returns-then-group-lt256
returns-then-group-lt256 c =
    let last = rw c.to_be_bytes.ensures at c.hex_digit-last.ensures in
    let third = rw c.to_be_bytes.ensures at c.hex_digit-third.ensures in
    let same : c.hex_digit-third.result ∷ c.hex_digit-last.result ∷ [] ≡ digits 16 false c.args.group =
    cc (two_digits c.args.group c.if-group-lt16.false c.if-group-lt256.true) in
    pushed _ _ _ _ _ same c.extend_from_slice-then-group-lt256.ensures.items

pub returns-then-group-lt4096 : goal.returns-then-group-lt4096
returns-then-group-lt4096 c =
    let last = rw c.to_be_bytes.ensures at c.hex_digit-last.ensures in
    let third = rw c.to_be_bytes.ensures at c.hex_digit-third.ensures in
    let second = rw c.to_be_bytes.ensures at c.hex_digit-second.ensures in
    let same : c.hex_digit-second.result ∷ c.hex_digit-third.result ∷ c.hex_digit-last.result ∷ [] ≡ digits 16 false c.args.group =
    cc (three_digits c.args.group c.if-group-lt256.false c.if-group-lt4096.true) in
    pushed _ _ _ _ _ same c.extend_from_slice-then-group-lt4096.ensures.items

pub returns : goal.returns
returns c =
    let last = rw c.to_be_bytes.ensures at c.hex_digit-last.ensures in
    let third = rw c.to_be_bytes.ensures at c.hex_digit-third.ensures in
    let second = rw c.to_be_bytes.ensures at c.hex_digit-second.ensures in
    let first = rw c.to_be_bytes.ensures at c.hex_digit.ensures in
    let small : c.args.group < 65536 = omega (arith, c.ranges.group.fits) in
    let same : c.hex_digit.result ∷ c.hex_digit-second.result ∷ c.hex_digit-third.result ∷ c.hex_digit-last.result ∷ [] ≡ digits 16 false c.args.group =
    cc (four_digits c.args.group c.if-group-lt4096.false small) in
    pushed _ _ _ _ _ same c.extend_from_slice-2.ensures.items
