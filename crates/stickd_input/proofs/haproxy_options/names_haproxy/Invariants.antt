use Rattle.std.proofs.Common.{◌≡◌, drop}
use Rattle.stickd_input.specs.Haproxy as spec
use Rattle.stickd_input.proofs.haproxy_options.names_haproxy.Given as goal

-- Whether a command line names it is whether the words that are left do.
abbrev pub invariant-loop-word : goal.invariant-loop-word
invariant-loop-word l = spec.names_haproxy (drop l.word-index l.words) ≡ spec.names_haproxy l.words
