use Rattle.std.proofs.Common.{rules, ◌≡◌, ◌-◌, suc, [], ◌∷◌, ◌++◌, subst, arith}
use Rattle.rule_words.specs.Lines.{lines_of}
use Rattle.rule_config.specs.Config.{FailsAt, config_of}
use Rattle.stickd_input.specs.Faults.{faults_of}
use Rattle.stickd_input.proofs.FaultLemmas.{fault_taken}
use Rattle.stickd_input.proofs.all_faults.find_faults.Goals as goal

pub loop-left-preserved : goal.loop-left-preserved
loop-left-preserved c =
    let some : c.loop-left.left ≡ suc (c.loop-left.left - 1) = omega (arith, c.loop-left-test.true) in
    let fails : FailsAt (lines_of c.loop-left.text.items) c.in-Err.fault.line c.in-Err.fault.kind (config_of c.loop-left.text.items)
    = subst (λ t. FailsAt (lines_of t) c.in-Err.fault.line c.in-Err.fault.kind (config_of t)) c.as_slice-in-loop-left.ensures.value c.in-Err.ensures.answers in
    let pushed : c.push.new.self ≡ c.loop-left.faults ++ c.in-Err.fault ∷ [] = search rules in
    fault_taken (faults_of c.args.text.now.items) c.loop-left.faults c.push.new.self c.loop-left.left (c.loop-left.left - 1) c.loop-left.text.items
    c.blank_line.new.text.items c.in-Err.fault c.in-Wrong._kind c.loop-left.invariant some fails c.in-Wrong.is pushed c.blank_line.ensures
