use Rattle.std.proofs.Common.{◌∙◌, ap, arith, sym}
use Rattle.std.specs.Prelude.{Some}
use Rattle.stick_key.proofs.Ipv6AddressLemmas.{ipv6_of-groups, ipv6_of-none}
use Rattle.stick_key.proofs.ipv6.reader.read_ipv6.Goals as goal

pub returns-in_err-read_all-clause-address : goal.returns-in_err-read_all-clause-address
returns-in_err-read_all-clause-address c = c.from_residual.ensures ∙ ipv6_of-none _ c.in_err-read_all.ensures.none

pub returns-clause-address : goal.returns-clause-address
returns-clause-address c = ap Some c.bytes_of.ensures ∙ sym (ipv6_of-groups _ _ (omega arith) c.in_ok-read_all.ensures.found)
