-- The faults that are found one after another.
use Rattle.std.proofs.Common.{◌≡◌, ◌∙◌, ℕ, suc, Err, List, [], ◌∷◌, ◌++◌, sym, ap, subst, append_assoc}
use Rattle.rule_model.specs.declared.faults.Fault.{Fault}
use Rattle.rule_model.specs.declared.faults.ReadError.TheVariants.{Wrong}
use Rattle.rule_words.specs.Lines.{lines_of}
use Rattle.rule_config.specs.Config.{FailsAt, config_of}
use Rattle.rule_config.specs.declared.config.ConfigFault.{ConfigFault}
use Rattle.stickd_input.specs.Faults.{and_later, blanked, first_faults}

-- a fault that is found, and the text whose line is blank, take the place of the text
pub fault_taken : (all found more : List ConfigFault) (left most : ℕ) (text next : List ℕ) (fault : ConfigFault) (wrong : Fault)
    → all ≡ found ++ first_faults left text → left ≡ suc most → FailsAt (lines_of text) fault.line fault.kind (config_of text) → fault.kind ≡ Wrong wrong
    → more ≡ found ++ fault ∷ [] → next ≡ blanked fault.line text
    → all ≡ more ++ first_faults most next
unfolding first_faults
fault_taken all found more left most text next fault wrong whole left_is fails kind pushed blank =
    let said : config_of text ≡ Err (fault.line, wrong) = subst (λ k. FailsAt (lines_of text) fault.line k (config_of text)) kind fails in
    let step : first_faults (suc most) text ≡ record { line = fault.line; kind = Wrong wrong } ∷ first_faults most (blanked fault.line text) = ap (and_later (first_faults most) text) said in
    whole ∙ ap (λ n. found ++ first_faults n text) left_is ∙ ap (λ l. found ++ l) step
    ∙ ap (λ k. found ++ record { line = fault.line; kind = k } ∷ first_faults most (blanked fault.line text)) (sym kind)
    ∙ sym (append_assoc found (fault ∷ []) (first_faults most (blanked fault.line text)))
    ∙ ap (λ l. l ++ first_faults most (blanked fault.line text)) (sym pushed)
    ∙ ap (λ t. more ++ first_faults most t) (sym blank)
