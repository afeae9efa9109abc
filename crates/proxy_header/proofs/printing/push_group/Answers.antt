use Rattle.std.proofs.Common.{◌≡◌, ◌<◌, ◌++◌, [], ◌∷◌, false, arith, ap, ◌∙◌}
use Rattle.std.specs.Fmt.{digits}
use Rattle.proxy_header.proofs.GroupLemmas.{one_digit, two_digits, three_digits, four_digits}
use Rattle.proxy_header.proofs.printing.push_group.Goals as goal

pub returns-then-group-lt16-clause-text : goal.returns-then-group-lt16-clause-text
returns-then-group-lt16-clause-text c =
    let last = rw c.to_be_bytes.ensures at c.hex_digit-last.ensures in
    let same : c.hex_digit-last.result ∷ [] ≡ digits 16 false c.args.group = cc (one_digit c.args.group c.if-group-lt16.true) in
    c.push.ensures ∙ ap (λ rest. c.args.text.now ++ rest) same

pub returns-then-group-lt256-clause-text : goal.returns-then-group-lt256-clause-text
returns-then-group-lt256-clause-text c =
    let last = rw c.to_be_bytes.ensures at c.hex_digit-last.ensures in
    let third = rw c.to_be_bytes.ensures at c.hex_digit-third.ensures in
    let same : c.hex_digit-third.result ∷ c.hex_digit-last.result ∷ [] ≡ digits 16 false c.args.group =
    cc (two_digits c.args.group c.if-group-lt16.false c.if-group-lt256.true) in
    c.push-then-group-lt256.ensures ∙ ap (λ rest. c.args.text.now ++ rest) same

pub returns-then-group-lt4096-clause-text : goal.returns-then-group-lt4096-clause-text
returns-then-group-lt4096-clause-text c =
    let last = rw c.to_be_bytes.ensures at c.hex_digit-last.ensures in
    let third = rw c.to_be_bytes.ensures at c.hex_digit-third.ensures in
    let second = rw c.to_be_bytes.ensures at c.hex_digit-second.ensures in
    let same : c.hex_digit-second.result ∷ c.hex_digit-third.result ∷ c.hex_digit-last.result ∷ [] ≡ digits 16 false c.args.group =
    cc (three_digits c.args.group c.if-group-lt256.false c.if-group-lt4096.true) in
    c.push-then-group-lt4096.ensures ∙ ap (λ rest. c.args.text.now ++ rest) same

pub returns-clause-text : goal.returns-clause-text
returns-clause-text c =
    let last = rw c.to_be_bytes.ensures at c.hex_digit-last.ensures in
    let third = rw c.to_be_bytes.ensures at c.hex_digit-third.ensures in
    let second = rw c.to_be_bytes.ensures at c.hex_digit-second.ensures in
    let first = rw c.to_be_bytes.ensures at c.hex_digit.ensures in
    let small : c.args.group < 65536 = omega (arith, c.ranges.group.fits) in
    let same : c.hex_digit.result ∷ c.hex_digit-second.result ∷ c.hex_digit-third.result ∷ c.hex_digit-last.result ∷ [] ≡ digits 16 false c.args.group =
    cc (four_digits c.args.group c.if-group-lt4096.false small) in
    c.push-2.ensures ∙ ap (λ rest. c.args.text.now ++ rest) same
