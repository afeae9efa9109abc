-- Worked examples of criteria and conditions, which the checker computes.
use Rattle.std.specs.Prelude.{refl, ◌≡◌, false, true, [], ◌∷◌, codes, Ok, Err}
use Rattle.base_lines.specs.Number.{number_of}
use Rattle.stored_data.specs.declared.act.Act.TheVariants.{IncGpc}
use Rattle.stored_data.specs.declared.datum.Datum.TheVariants.{ConnCur, Gpc}
use Rattle.rule_model.specs.declared.actions.Slot.TheVariants.{Sc0, Sc2}
use Rattle.rule_model.specs.declared.criteria.Criterion.TheVariants as criteria
use Rattle.rule_model.specs.declared.criteria.Fetch.TheVariants.{Datum, Element}
use Rattle.rule_model.specs.declared.criteria.Measure.TheVariants.{SourcePort, Tracked, Counted}
use Rattle.rule_model.specs.declared.criteria.Operator.TheVariants.{Gt}
use Rattle.rule_model.specs.declared.criteria.Pattern.TheVariants.{Between, Compare}
use Rattle.rule_model.specs.declared.faults.Fault.TheVariants.{BadCondition, UnknownAcl}
use Rattle.rule_words.specs.Conditions.{condition_of, criteria_of, criterion_of}
use Rattle.rule_words.specs.ElementNames.{element_of}
use Rattle.rule_words.specs.TermNames.{element_subject, fetch_of, on_slot, plain_subject, slot_subject, source_subject, subject_of}
use Rattle.rule_words.specs.Values.{operator_of, pattern_of, range_of}

criterion-limit : criterion_of (codes "www") (codes "sc0_conn_cur" ∷ codes "gt" ∷ codes "1" ∷ []) ≡ Ok (criteria.Matches (Tracked Sc0 (Datum ConnCur)) (Compare Gt 1 ∷ []))
unfolding subject_of plain_subject on_slot slot_subject fetch_of operator_of pattern_of number_of
criterion-limit = refl

criterion-range : criterion_of (codes "www") (codes "src_port" ∷ codes "1:1023" ∷ []) ≡ Ok (criteria.Matches SourcePort (Between 1 1023 ∷ []))
unfolding subject_of plain_subject operator_of pattern_of range_of number_of
criterion-range = refl

criterion-range_under_gt : criterion_of (codes "www") (codes "src_port" ∷ codes "gt" ∷ codes "1:2" ∷ []) ≡ Err BadCondition
unfolding subject_of plain_subject operator_of pattern_of range_of number_of
criterion-range_under_gt = refl

criterion-without_value : criterion_of (codes "www") (codes "src_port" ∷ codes "gt" ∷ []) ≡ Err BadCondition
unfolding subject_of plain_subject operator_of pattern_of range_of number_of
criterion-without_value = refl

condition-always : condition_of (codes "www") [] (codes "TRUE" ∷ []) ≡ Ok ((record { negated = false; criteria = criteria.Always true ∷ [] } ∷ []) ∷ [])
unfolding criteria_of
condition-always = refl

condition-unknown_acl : condition_of (codes "www") [] (codes "worse" ∷ []) ≡ Err UnknownAcl
unfolding criteria_of
condition-unknown_acl = refl

condition-nothing_behind_or : condition_of (codes "www") [] (codes "TRUE" ∷ codes "or" ∷ []) ≡ Err BadCondition
unfolding criteria_of
condition-nothing_behind_or = refl

criterion-element : criterion_of (codes "www") (codes "sc_get_gpc(1,0)" ∷ codes "gt" ∷ codes "1" ∷ []) ≡ Ok (criteria.Matches (Tracked Sc0 (Element (record { datum = Gpc; index = 1 }))) (Compare Gt 1 ∷ []))
unfolding subject_of plain_subject on_slot slot_subject fetch_of element_subject element_of operator_of pattern_of number_of
criterion-element = refl

criterion-counts_element : criterion_of (codes "www") (codes "sc_inc_gpc(99,2)" ∷ codes "gt" ∷ codes "1" ∷ []) ≡ Ok (criteria.Matches (Counted Sc2 (IncGpc 99)) (Compare Gt 1 ∷ []))
unfolding subject_of plain_subject on_slot slot_subject fetch_of element_subject element_of operator_of pattern_of number_of
criterion-counts_element = refl

criterion-index_too_great : criterion_of (codes "www") (codes "sc_get_gpc(100,0)" ∷ codes "1" ∷ []) ≡ Err BadCondition
unfolding subject_of plain_subject on_slot slot_subject fetch_of element_subject element_of source_subject operator_of pattern_of number_of
criterion-index_too_great = refl

criterion-zeros_before_a_slot : criterion_of (codes "www") (codes "sc_conn_cur(00)" ∷ codes "gt" ∷ codes "1" ∷ []) ≡ Ok (criteria.Matches (Tracked Sc0 (Datum ConnCur)) (Compare Gt 1 ∷ []))
unfolding subject_of plain_subject on_slot slot_subject fetch_of operator_of pattern_of number_of
criterion-zeros_before_a_slot = refl

criterion-zeros_before_an_element : criterion_of (codes "www") (codes "sc_get_gpc(01,00)" ∷ codes "gt" ∷ codes "1" ∷ []) ≡ Ok (criteria.Matches (Tracked Sc0 (Element (record { datum = Gpc; index = 1 }))) (Compare Gt 1 ∷ []))
unfolding subject_of plain_subject on_slot slot_subject fetch_of element_subject element_of operator_of pattern_of number_of
criterion-zeros_before_an_element = refl
