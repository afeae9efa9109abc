use Rattle.stickd_ctl.proofs.SavingLemmas.{joined_three}
use Rattle.stickd_ctl.proofs.exported.push_rules_note.Goals as goal

pub returns : goal.returns
returns c = joined_three c.args.text.now.items _ _ _ _ _ _ c.in_ok-extend_from_slice.ensures.items c.in_ok-push_named.ensures c.in_ok-push_named-2.ensures
