use Rattle.std.proofs.Common.{ℕ, ap, ◌∙◌}
use Rattle.std.specs.Prelude.{bit_xor}
use Rattle.std.specs.declared.hash.DefaultHasher.{DefaultHasher}
use Rattle.core.specs.Hash.DefaultHasher.{round}
use Rattle.key_index.proofs.sip.finished.Goals as goal

pub returns : goal.returns
returns c =
    let marked : DefaultHasher → DefaultHasher = λ t. record { v0 = t.v0; v1 = t.v1; v2 = bit_xor t.v2 255; v3 = t.v3; tail = t.tail; length = t.length } in
    let all : DefaultHasher → ℕ = λ u. bit_xor (bit_xor (bit_xor u.v0 u.v1) u.v2) u.v3 in
    ap all (c.rounded-end.ensures ∙ ap round (c.rounded-2.ensures ∙ ap round (c.rounded.ensures ∙ ap round (ap marked c.with_word-mixed.ensures))))
