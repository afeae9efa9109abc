-- Admitted connections that hold a key are at most as many as the limit.
use Rattle.std.proofs.Common.{◌≡◌, ℕ, ◌≤◌, refl, sym, ap, ◌∙◌, arith, Bool, true, false, cond, ◌&&◌, List, [], ◌∷◌, count_by, slice_get, Option, Some, None}
use Rattle.std.specs.List.{list_any}
use Rattle.std.specs.Option.{option_and_then, option_map_or}
use Rattle.std.proofs.lemmas.Bool.{false≢true}
use Rattle.std.proofs.lemmas.List.Sums.{sum_by-cons}
use Rattle.stick_key.specs.Shard.{shard}
use Rattle.stick_model.specs.Key.{Key, same_key}
use Rattle.stick_model.specs.Passed.{has_passed, passed_count, passing_looks}
use Rattle.stick_model.specs.State.{State, empty_table, key_of, same_ticket}
use Rattle.stick_model.specs.declared.rows.Ticket.{Ticket}
use Rattle.stick_model.proofs.KeyLemmas.{same_key-exact, same_key-refl}
use Rattle.stick_model.proofs.LegalLemmas.{empty_legal}
use Rattle.stick_model.proofs.LimitLemmas.{limit-law}
use Rattle.stick_model.proofs.TestLemmas.{and-left, and-right}
use Rattle.rule_model.specs.declared.sections.Setup.{Setup}
use Rattle.rule_eval.specs.Limit.{IsWithin, LimitsFirst}
use Rattle.rule_eval.specs.Verdict.{next}
use Rattle.rule_eval.specs.declared.wants.Verdict.TheVariants.{Accept}
use Rattle.rule_eval.specs.declared.wants.Want.TheVariants.{Done}
use Rattle.rule_eval.proofs.LimitLaws.{within_lem}
use Rattle.admit_core.specs.Connection.{Connection}
use Rattle.admit_core.specs.declared.need.Phase.TheVariants.{Admitted}
use Rattle.admit_drive.specs.Balance.{same_reference, times_by, times_in}
use Rattle.admit_world.specs.Balance.{times_held}
use Rattle.admit_world.specs.Limit.{admitted_of, holds_key, is_admitted, is_in, key_held}
use Rattle.admit_drive.specs.Tables.{shard_at}
use Rattle.admit_world.specs.World.{WorldState}
use Rattle.shard_port.specs.declared.reference.Reference.{Reference}
use Rattle.admit_drive.proofs.CallLemmas.{self_reference}
use Rattle.admit_world.proofs.LimitLemmas.{HasTracked, IsLimited, found_among, passed_within, phase_of}
use Rattle.admit_world.proofs.PassedLemmas.{count_matched}
use Rattle.admit_drive.proofs.StartLemmas.{once_out}
use Rattle.admit_world.proofs.WorldLemmas.{IsWorld}

-- whether a slot holds the ticket of a shard
abbrev mine : ℕ → ℕ → Option (ℕ × Reference) → Ticket × Key → Bool
mine table part o held = option_map_or (λ (entry : ℕ × Reference). same_reference (table, record { shard = part; ticket = held.0 }) entry) o false

mine_in : (table part : ℕ) (o : Option (ℕ × Reference)) (held : Ticket × Key) → cond (mine table part o held) 1 0 ≤ times_in (table, record { shard = part; ticket = held.0 }) o
mine_in table part None held = omega arith
mine_in table part (Some entry) held = same_le (cond (same_reference (table, record { shard = part; ticket = held.0 }) entry) 1 0)
  where
    same_le : (n : ℕ) → n ≤ n
    same_le n = omega arith

count_mine : (table part : ℕ) (held : Ticket × Key) (connections : List (Connection Reference))
    → count_by (λ (c : Connection Reference). mine table part c.progress.held.sc0 held) connections ≤ times_held (table, record { shard = part; ticket = held.0 }) connections
count_mine table part held [] = omega arith
count_mine table part held (c ∷ more) =
    let reference : ℕ × Reference = (table, record { shard = part; ticket = held.0 }) in
    omega (
      arith,
      count_mine table part held more,
      mine_in table part c.progress.held.sc0 held,
      sum_by-cons (λ (x : Connection Reference). cond (mine table part x.progress.held.sc0 held) 1 0) c more,
      sum_by-cons (λ (x : Connection Reference). times_by reference x.progress.held) c more,
    )

module _ (setup : Setup) (name : List ℕ) (table limit : ℕ) (key : Key) (world : WorldState) (first : LimitsFirst setup name table limit) (stands : IsWorld setup world) (limited : IsLimited setup table limit key world) where
  abbrev part : ℕ
  part = shard key setup.shards

  abbrev passed : List Ticket
  passed = passing_looks key limit limited.events limited.replies

  mine_once : (held : Ticket × Key) → count_by (λ (c : Connection Reference). mine table part c.progress.held.sc0 held) world.connections ≤ 1
  mine_once held =
      let reference : ℕ × Reference = (table, record { shard = part; ticket = held.0 }) in
      omega (arith, count_mine table part held world.connections, stands.balance reference, once_out setup world.tables reference stands.tables)

  -- the ticket of one that is admitted has passed
  pub ticket_passed : (i : ℕ) (c : Connection Reference) (entry : ℕ × Reference) → slice_get world.connections i ≡ Some c → (tracked : HasTracked setup table limit key world.tables passed c entry) → c.progress.phase ≡ Admitted → tracked.source ≡ key
      → list_any (same_ticket entry.1.ticket) passed ≡ true
  ticket_passed i c entry at tracked admitted source =
      let lived = stands.each i c at in
      let accepted : next setup c.samples c.answers ≡ Done Accept = ap (λ (s : Setup). next s c.samples c.answers) (sym lived.1) ∙ lived.0.accepted admitted in
      let within : IsWithin limit c.answers = within_lem setup name table limit c.samples tracked.source c.answers first tracked.is accepted in
      passed_within limit passed entry.1.ticket c.answers within (tracked.looked source)

  of_entry : (i : ℕ) (c : Connection Reference) (entry : ℕ × Reference) → slice_get world.connections i ≡ Some c → HasTracked setup table limit key world.tables passed c entry → is_admitted c.progress.phase ≡ true
      → option_map_or (same_key key) (key_held world.tables (Some entry)) false ≡ true → list_any (λ h. has_passed key passed h && mine table part (Some entry) h) limited.live.tickets ≡ true
  of_entry i c entry at tracked admitted keyed =
      let known : same_key key tracked.source ≡ true = sym (ap (λ o. option_map_or (same_key key) o false) tracked.keyed) ∙ keyed in
      let source : tracked.source ≡ key = sym (same_key-exact key tracked.source known) in
      let passes : list_any (same_ticket entry.1.ticket) passed ≡ true = ticket_passed i c entry at tracked (phase_of c.progress.phase admitted) source in
      let on : entry.1.shard ≡ part = tracked.on_shard ∙ ap (λ k. shard k setup.shards) source in
      let there : shard_at world.tables entry.0 entry.1.shard ≡ Some limited.live = (λ k. shard_at world.tables (tracked.in_table k) (on k)) ∙ limited.at in
      let of_key : key_of entry.1.ticket limited.live.tickets ≡ Some key =
      sym (ap (λ o. option_and_then (λ (state : State). key_of entry.1.ticket state.tickets) o) there) ∙ tracked.keyed ∙ ap Some source in
      let same : same_reference (table, record { shard = part; ticket = entry.1.ticket }) entry ≡ true =
      (λ k. same_reference (sym tracked.in_table k, record { shard = sym on k; ticket = entry.1.ticket }) entry) ∙ self_reference entry in
      found_among (λ h. has_passed key passed h && mine table part (Some entry) h) entry.1.ticket key limited.live.tickets of_key
      (λ k. (same_key-refl key k && passes k) && same k)

  each_has : (i : ℕ) (c : Connection Reference) → slice_get world.connections i ≡ Some c → holds_key world.tables table key c ≡ true → list_any (λ h. has_passed key passed h && mine table part c.progress.held.sc0 h) limited.live.tickets ≡ true
  each_has i c at holds = by c.progress.held.sc0 refl holds
    where
      by : (o : Option (ℕ × Reference)) → c.progress.held.sc0 ≡ o → (is_admitted c.progress.phase && (is_in table o && option_map_or (same_key key) (key_held world.tables o) false)) ≡ true
          → list_any (λ h. has_passed key passed h && mine table part o h) limited.live.tickets ≡ true
      by None is holds = absurd (nothing (is_admitted c.progress.phase) holds)
        where
          nothing : (b : Bool) → (b && false) ≡ true → ⊥
          nothing true both = false≢true both
          nothing false both = false≢true both
      by (Some entry) is holds =
          let admitted : is_admitted c.progress.phase ≡ true = and-left (is_admitted c.progress.phase) (is_in table (Some entry) && option_map_or (same_key key) (key_held world.tables (Some entry)) false) holds in
          let rest : (is_in table (Some entry) && option_map_or (same_key key) (key_held world.tables (Some entry)) false) ≡ true = and-right (is_admitted c.progress.phase) (is_in table (Some entry) && option_map_or (same_key key) (key_held world.tables (Some entry)) false) holds in
          of_entry i c entry at (limited.each i c entry at is) admitted (and-right (is_in table (Some entry)) (option_map_or (same_key key) (key_held world.tables (Some entry)) false) rest)

  pub limited_count : admitted_of world table key ≤ limit
  limited_count =
      let fewer : admitted_of world table key ≤ passed_count key passed limited.live =
      count_matched (has_passed key passed) (λ (c : Connection Reference) (h : Ticket × Key). mine table part c.progress.held.sc0 h) world.connections limited.live.tickets (holds_key world.tables table key) mine_once each_has in
      let most : passed_count key passed limited.live ≤ limit = limit-law (empty_table limited.spec) limited.events limited.replies limited.live key limit (empty_legal limited.spec) limited.run in
      omega (arith, fewer, most)
