use Rattle.std.proofs.Common.{◌≡◌, ◌++◌, map, drop}
use Rattle.std.specs.List.{filter}
use Rattle.std.specs.Str.{bytes_eq}
use Rattle.rule_model.specs.declared.criteria.Acl.{Acl}
use Rattle.rule_words.specs.Conditions.{declarations_of}
use Rattle.rule_words.proofs.conditions.declarations.Given as goal

-- those so far, and those of the declarations that are left
abbrev pub invariant-loop-acl : goal.invariant-loop-acl
invariant-loop-acl l =
    l.criteria ++ map (λ (acl : Acl). acl.criterion) (filter (λ acl. bytes_eq acl.name l.name) (drop l.acl-index l.acls)) ≡ declarations_of l.acls l.name
