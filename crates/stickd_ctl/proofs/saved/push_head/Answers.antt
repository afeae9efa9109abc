use Rattle.stickd_ctl.proofs.SavingLemmas.{joined_five}
use Rattle.stickd_ctl.proofs.saved.push_head.Goals as goal

pub returns : goal.returns
returns c =
    joined_five c.args.text.now.items _ _ _ _ _ _ _ _ _ _ c.in_ok-push_decimal.ensures.ok c.in_ok-extend_from_slice.ensures.items c.in_ok-extend_from_slice-2.ensures.items c.in_ok-extend_from_slice-3.ensures.items
    c.in_ok-extend_from_slice-4.ensures.items
