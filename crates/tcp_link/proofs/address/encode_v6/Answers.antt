use Rattle.std.proofs.Common.{◌∙◌, ap, arith, length, refl, w32}
use Rattle.std.specs.Int.{to_le_bytes}
use Rattle.std.specs.Net.Addr.{ipv6_octets}
use Rattle.std.specs.Net.Socket.{v6_ip, v6_scope_id}
use Rattle.tcp_link.specs.Addresses.{head_v6}
use Rattle.tcp_link.proofs.AddressLemmas.{encoded}
use Rattle.tcp_link.proofs.address.encode_v6.Goals as goal

pub returns : goal.returns
returns c =
    let octets = c.copy_from_slice-2.ensures.after ∙ c.octets.ensures ∙ ap ipv6_octets c.ip.ensures in
    let scope = c.copy_from_slice-3.ensures.after ∙ c.to_ne_bytes.ensures ∙ ap (to_le_bytes w32) c.scope_id.ensures in
    encoded _ _ _ (head_v6 c.args.address) (ipv6_octets (v6_ip c.args.address)) (to_le_bytes w32 (v6_scope_id c.args.address))
    (c.copy_from_slice.ensures.after ∙ c.head_v6.ensures) octets scope refl (omega (arith, ap length octets, c.copy_from_slice-2.ensures.len, c.copy_from_slice-2.auto, c.octets.auto)) refl
