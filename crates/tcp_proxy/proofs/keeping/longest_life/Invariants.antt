use Rattle.std.proofs.Common.{◌≡◌, drop, fold, max, map, ℕ}
use Rattle.rule_model.specs.declared.sections.NamedSpec.{NamedSpec}
use Rattle.stick_model.specs.declared.specification.Spec.{Spec}
use Rattle.table_cli.specs.Lives.{life_of, longest_life}
use Rattle.tcp_proxy.proofs.keeping.longest_life.Given as goal

-- those so far, and those that are left
abbrev pub invariant-loop-named : goal.invariant-loop-named
invariant-loop-named l =
    fold (λ (longest : ℕ) (spec : Spec). max longest (life_of spec)) l.longest (map (λ (named : NamedSpec). named.spec) (drop l.named-index l.named-items))
    ≡ longest_life (map (λ (named : NamedSpec). named.spec) l.setup.tables)
