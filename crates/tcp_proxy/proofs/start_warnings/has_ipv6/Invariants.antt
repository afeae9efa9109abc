use Rattle.std.proofs.Common.{◌≡◌, drop}
use Rattle.std.specs.List.{list_any}
use Rattle.tcp_proxy.specs.Places.{is_ipv6}
use Rattle.tcp_proxy.proofs.start_warnings.has_ipv6.Given as goal

-- none so far is one
abbrev pub invariant-loop-bind : goal.invariant-loop-bind
invariant-loop-bind l = list_any is_ipv6 (drop l.bind-index l.binds) ≡ list_any is_ipv6 l.binds
