-- Criteria in braces.
use Rattle.std.proofs.Common.{ℕ, Result, Ok, List}
use Rattle.std.specs.Prelude.{ok_or}
use Rattle.rule_model.specs.Reading.{◌>>=◌}
use Rattle.rule_model.specs.declared.criteria.Criterion.{Criterion}
use Rattle.rule_model.specs.declared.faults.Fault.{Fault}
use Rattle.rule_model.specs.declared.faults.Fault.TheVariants.{BadCondition}
use Rattle.rule_words.specs.declared.criteria.Draft.{Draft}
use Rattle.rule_words.specs.Drafts.{finished}
use Rattle.rule_words.specs.Sentences.{closed}

-- what a draft gives behind words in braces, with the words behind those
abbrev pub drafted : Draft → List (List ℕ) → Result (Criterion × List (List ℕ)) Fault
drafted draft words = ok_or (closed words) BadCondition >>= λ parts. ok_or (finished draft parts.0) BadCondition >>= λ criterion. Ok (criterion, parts.1)
