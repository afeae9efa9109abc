use Rattle.std.proofs.Common.{◌∙◌, ap}
use Rattle.stickd_ctl.specs.AddressSets.{is_host}
use Rattle.stickd_ctl.proofs.address_keys.is_ipv6_host.Goals as goal

pub returns-in-Some : goal.returns-in-Some
returns-in-Some c = c.is_some_address.ensures ∙ ap is_host c.in-Some.ensures.address
