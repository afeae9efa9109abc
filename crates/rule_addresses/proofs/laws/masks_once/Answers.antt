use Rattle.rule_addresses.proofs.PrefixLemmas.{leaves_whole, masks_mapped, masks_once}
use Rattle.rule_addresses.proofs.laws.masks_once.Goals as goal

pub returns-clause-once : goal.returns-clause-once
returns-clause-once c = masks_once

pub returns-clause-whole : goal.returns-clause-whole
returns-clause-whole c = leaves_whole

pub returns-clause-mapped : goal.returns-clause-mapped
returns-clause-mapped c = masks_mapped
