-- Whatever the schedule, a key has as many references in a shard as connections hold of it.
use Rattle.std.proofs.Common.{◌≡◌, ℕ, ◌+◌, ◌≤◌, refl, sym, ap, subst, ◌∙◌, arith, Bool, true, false, cond, nat_eq, ◌&&◌, List, [], ◌∷◌, sum_by, Option, Some, None}
use Rattle.std.specs.Prelude.{IfSome}
use Rattle.std.specs.Option.{option_and_then, option_map_or}
use Rattle.std.proofs.lemmas.Bool.{false≢true}
use Rattle.std.proofs.lemmas.Bool.Decides.{nat_tests}
use Rattle.std.proofs.lemmas.List.Sums.{sum_by-cons}
use Rattle.std.proofs.lemmas.Map.Entries.{All-lookup}
use Rattle.stick_key.specs.Shard.{shard}
use Rattle.stick_model.specs.Key.{Key, same_key}
use Rattle.stick_model.specs.Legal.{IsLegal}
use Rattle.stick_model.specs.State.{State, key_of, refs, same_ticket}
use Rattle.stick_model.specs.declared.rows.Ticket.{Ticket}
use Rattle.stick_model.proofs.KeyLemmas.{same_key-exact}
use Rattle.stick_model.proofs.TestLemmas.{eq-from}
use Rattle.rule_model.specs.declared.sections.Setup.{Setup}
use Rattle.admit_core.specs.Connection.{Connection}
use Rattle.admit_core.specs.declared.held.Held.{Held}
use Rattle.admit_drive.specs.Balance.{times_by, times_in, times_of, times_out}
use Rattle.admit_world.specs.Balance.{times_held}
use Rattle.admit_world.specs.Shown.{is_of_key, references_of, slots_of_key}
use Rattle.admit_drive.specs.Tables.{TableState, shard_at}
use Rattle.admit_world.specs.World.{WorldState}
use Rattle.shard_port.specs.declared.reference.Reference.{Reference}
use Rattle.admit_drive.proofs.CallLemmas.{eq_self, legal_at}
use Rattle.admit_drive.specs.Laws.{AreHome}
use Rattle.admit_drive.proofs.TicketLemmas.{once_of, same_self, same_turned, times}
use Rattle.admit_world.proofs.WorldLemmas.{IsWorld}

-- a reference of the shard
abbrev here : ℕ → ℕ → Ticket → ℕ × Reference
here table part ticket = (table, record { shard = part; ticket = ticket })

-- of the tickets of a key, how many a slot holds
abbrev held_of : ℕ → ℕ → Key → List (Ticket × Key) → Option (ℕ × Reference) → ℕ
held_of table part key tickets o = sum_by (λ (h : Ticket × Key). cond (same_key key h.1) (times_in (here table part h.0) o) 0) tickets

abbrev held_by : ℕ → ℕ → Key → List (Ticket × Key) → Held Reference → ℕ
held_by table part key tickets held = held_of table part key tickets held.sc0 + held_of table part key tickets held.sc1 + held_of table part key tickets held.sc2

-- ---- each ticket of the key is held once

-- one ticket more
sum_more : {C : Type 0} (b : Bool) (f g w : C → ℕ) (cs : List C) → ((c : C) → w c ≡ cond b (f c) 0 + g c) → sum_by w cs ≡ cond b (sum_by f cs) 0 + sum_by g cs
sum_more true f g w [] is = refl
sum_more false f g w [] is = refl
sum_more true f g w (c ∷ cs) is = omega (arith, is c, sum_more true f g w cs is, sum_by-cons w c cs, sum_by-cons f c cs, sum_by-cons g c cs)
sum_more false f g w (c ∷ cs) is = omega (arith, is c, sum_more false f g w cs is, sum_by-cons w c cs, sum_by-cons g c cs)

by_more : (b : Bool) (x y z a c d : ℕ) → cond b x 0 + a + (cond b y 0 + c) + (cond b z 0 + d) ≡ cond b (x + y + z) 0 + (a + c + d)
by_more true x y z a c d = omega arith
by_more false x y z a c d = omega arith

held_more : (table part : ℕ) (key : Key) (h : Ticket × Key) (tickets : List (Ticket × Key)) (held : Held Reference)
    → held_by table part key (h ∷ tickets) held ≡ cond (same_key key h.1) (times_by (here table part h.0) held) 0 + held_by table part key tickets held
held_more table part key h tickets held =
    let each : Option (ℕ × Reference) → Ticket × Key → ℕ = λ o x. cond (same_key key x.1) (times_in (here table part x.0) o) 0 in
    (λ k. sum_by-cons (each held.sc0) h tickets k + sum_by-cons (each held.sc1) h tickets k + sum_by-cons (each held.sc2) h tickets k)
    ∙ by_more (same_key key h.1) (times_in (here table part h.0) held.sc0) (times_in (here table part h.0) held.sc1) (times_in (here table part h.0) held.sc2) (held_of table part key tickets held.sc0) (held_of table part key tickets held.sc1) (held_of table part key tickets held.sc2)

once_each : (b : Bool) (n rest all : ℕ) → (b ≡ true → n ≡ 1) → rest ≡ all → cond b 1 0 + rest ≡ cond b n 0 + all
once_each true n rest all one is = omega (arith, one refl, is)
once_each false n rest all one is = omega (arith, is)

none_each : {C : Type 0} (f : C → ℕ) (cs : List C) → ((c : C) → f c ≡ 0) → sum_by f cs ≡ 0
none_each f [] is = refl
none_each f (c ∷ cs) is = omega (arith, is c, none_each f cs is, sum_by-cons f c cs)

-- the tickets are among those that are held once each
refs_held : (table part : ℕ) (key : Key) (connections : List (Connection Reference)) (tickets : List (Ticket × Key)) → ((ticket : Ticket) → 1 ≤ times ticket tickets → times_held (here table part ticket) connections ≡ 1)
    → refs key tickets ≡ sum_by (λ (c : Connection Reference). held_by table part key tickets c.progress.held) connections
refs_held table part key connections [] once = sym (none_each (λ (c : Connection Reference). held_by table part key [] c.progress.held) connections (λ c. refl))
refs_held table part key connections (h ∷ tickets) once =
    let one : times_held (here table part h.0) connections ≡ 1 = once h.0 (let own : ◌≡◌ {A = ℕ} (cond (same_ticket h.0 h.0) 1 0) 1 = ap (λ b. cond b 1 0) (same_self h.0) in omega (arith, own, sum_by-cons (λ (x : Ticket × Key). cond (same_ticket h.0 x.0) 1 0) h tickets)) in
    let later = refs_held table part key connections tickets (λ ticket some. once ticket (omega (arith, some, sum_by-cons (λ (x : Ticket × Key). cond (same_ticket ticket x.0) 1 0) h tickets))) in
    sum_by-cons (λ (x : Ticket × Key). cond (same_key key x.1) 1 0) h tickets
    ∙ once_each (same_key key h.1) (times_held (here table part h.0) connections) (refs key tickets) (sum_by (λ (c : Connection Reference). held_by table part key tickets c.progress.held) connections) (λ _. one) later
    ∙ sym (sum_more (same_key key h.1) (λ (c : Connection Reference). times_by (here table part h.0) c.progress.held) (λ (c : Connection Reference). held_by table part key tickets c.progress.held) (λ (c : Connection Reference). held_by table part key (h ∷ tickets) c.progress.held)
    connections (λ c. held_more table part key h tickets c.progress.held))

-- ---- a slot holds a ticket of the key, or none

-- of a ticket that is out once at most
turned : (a b : Ticket) → same_ticket a b ≡ same_ticket b a
turned a b = by (same_ticket a b) (same_ticket b a) refl refl
  where
    by : (x y : Bool) → same_ticket a b ≡ x → same_ticket b a ≡ y → x ≡ y
    by true true one other = refl
    by false false one other = refl
    by true false one other = absurd (false≢true (sym other ∙ same_turned a b one))
    by false true one other = absurd (false≢true (sym one ∙ same_turned b a other))

abbrev own : Key → Ticket → List (Ticket × Key) → ℕ
own key ticket tickets = sum_by (λ (h : Ticket × Key). cond (same_key key h.1) (cond (same_ticket ticket h.0) 1 0) 0) tickets

within : (b : Bool) (n : ℕ) → n ≡ 0 → cond b n 0 ≡ 0
within true n is = is
within false n is = refl

own_none : (key : Key) (ticket : Ticket) (tickets : List (Ticket × Key)) → times ticket tickets ≡ 0 → own key ticket tickets ≡ 0
own_none key ticket [] none = refl
own_none key ticket (h ∷ tickets) none =
    let first : ◌≡◌ {A = ℕ} (cond (same_ticket ticket h.0) 1 0) 0 = omega (arith, none, sum_by-cons (λ (x : Ticket × Key). cond (same_ticket ticket x.0) 1 0) h tickets) in
    let rest : times ticket tickets ≡ 0 = omega (arith, none, sum_by-cons (λ (x : Ticket × Key). cond (same_ticket ticket x.0) 1 0) h tickets) in
    omega (
      arith,
      within (same_key key h.1) (cond (same_ticket ticket h.0) 1 0) first,
      own_none key ticket tickets rest,
      sum_by-cons (λ (x : Ticket × Key). cond (same_key key x.1) (cond (same_ticket ticket x.0) 1 0) 0) h tickets,
    )

own_once : (key : Key) (ticket : Ticket) (tickets : List (Ticket × Key)) → times ticket tickets ≤ 1 → own key ticket tickets ≡ cond (option_map_or (same_key key) (key_of ticket tickets) false) 1 0
own_once key ticket [] once = refl
own_once key ticket (h ∷ tickets) once =
    elim (same_ticket ticket h.0) as (λ b. same_ticket ticket h.0 ≡ b → own key ticket (h ∷ tickets) ≡ cond (option_map_or (same_key key) (cond b (Some h.1) (key_of ticket tickets)) false) 1 0) [
      | true ↦ λ is.
          let one : ◌≡◌ {A = ℕ} (cond (same_ticket ticket h.0) 1 0) 1 = ap (λ b. cond b 1 0) is in
          let none : times ticket tickets ≡ 0 = omega (arith, once, one, sum_by-cons (λ (x : Ticket × Key). cond (same_ticket ticket x.0) 1 0) h tickets) in
          let first : cond (same_key key h.1) (cond (same_ticket ticket h.0) 1 0) 0 ≡ cond (same_key key h.1) 1 0 = ap (λ n. cond (same_key key h.1) n 0) one in
          omega (arith, first, own_none key ticket tickets none, sum_by-cons (λ (x : Ticket × Key). cond (same_key key x.1) (cond (same_ticket ticket x.0) 1 0) 0) h tickets)
      | false ↦ λ differ.
          let none : ◌≡◌ {A = ℕ} (cond (same_ticket ticket h.0) 1 0) 0 = ap (λ b. cond b 1 0) differ in
          let first : cond (same_key key h.1) (cond (same_ticket ticket h.0) 1 0) 0 ≡ 0 = within (same_key key h.1) (cond (same_ticket ticket h.0) 1 0) none in
          omega (
            arith,
            first,
            own_once key ticket tickets (omega (arith, once, sum_by-cons (λ (x : Ticket × Key). cond (same_ticket ticket x.0) 1 0) h tickets)),
            sum_by-cons (λ (x : Ticket × Key). cond (same_key key x.1) (cond (same_ticket ticket x.0) 1 0) 0) h tickets,
          )
    ] refl

-- what a slot holds is of this shard, of another, or of another table
by_place : (table part : ℕ) (key : Key) (tickets : List (Ticket × Key)) (entry : ℕ × Reference) (a b : Bool) → nat_eq table entry.0 ≡ a → nat_eq part entry.1.shard ≡ b
    → held_of table part key tickets (Some entry) ≡ cond (a && b) (own key entry.1.ticket tickets) 0
by_place table part key [] entry true true t s = refl
by_place table part key [] entry true false t s = refl
by_place table part key [] entry false b t s = refl
by_place table part key (h ∷ tickets) entry a b t s =
    let places : times_in (here table part h.0) (Some entry) ≡ cond (a && (b && same_ticket entry.1.ticket h.0)) 1 0 = (λ k. cond (t k && (s k && turned h.0 entry.1.ticket k)) 1 0) in
    let first : cond (same_key key h.1) (times_in (here table part h.0) (Some entry)) 0 ≡ cond (same_key key h.1) (cond (a && (b && same_ticket entry.1.ticket h.0)) 1 0) 0 = ap (λ n. cond (same_key key h.1) n 0) places in
    sum_by-cons (λ (x : Ticket × Key). cond (same_key key x.1) (times_in (here table part x.0) (Some entry)) 0) h tickets
    ∙ (λ k. first k + by_place table part key tickets entry a b t s k)
    ∙ joined a b (same_key key h.1) (same_ticket entry.1.ticket h.0) (own key entry.1.ticket tickets)
    ∙ ap (λ n. cond (a && b) n 0) (sym (sum_by-cons (λ (x : Ticket × Key). cond (same_key key x.1) (cond (same_ticket entry.1.ticket x.0) 1 0) 0) h tickets))
  where
    joined : (a b c d : Bool) (n : ℕ) → cond c (cond (a && (b && d)) 1 0) 0 + cond (a && b) n 0 ≡ cond (a && b) (cond c (cond d 1 0) 0 + n) 0
    joined true true c d n = refl
    joined true false true d n = refl
    joined true false false d n = refl
    joined false b true d n = refl
    joined false b false d n = refl

module _ (setup : Setup) (tables : List TableState) (table : ℕ) (key : Key) (live : State) (at : shard_at tables table (shard key setup.shards) ≡ Some live) (legal : IsLegal live) (home : AreHome setup.shards tables) where
  abbrev part : ℕ
  part = shard key setup.shards

  -- a reference of another shard isn't of the key
  elsewhere : (entry : ℕ × Reference) (o : Option State) → shard_at tables entry.0 entry.1.shard ≡ o → nat_eq part entry.1.shard ≡ false → option_map_or (same_key key) (option_and_then (λ (state : State). key_of entry.1.ticket state.tickets) o) false ≡ false
  elsewhere entry None is differ = refl
  elsewhere entry (Some other) is differ = by (key_of entry.1.ticket other.tickets) refl
    where
      by : (o : Option Key) → key_of entry.1.ticket other.tickets ≡ o → option_map_or (same_key key) o false ≡ false
      by None of = refl
      by (Some k) of = test (same_key key k) refl
        where
          test : (b : Bool) → same_key key k ≡ b → b ≡ false
          test false same = refl
          test true same =
              let all : IfSome (key_of entry.1.ticket other.tickets) (λ (x : Key). shard x setup.shards ≡ entry.1.shard) = All-lookup (λ (x : Key). shard x setup.shards ≡ entry.1.shard) (same_ticket entry.1.ticket) other.tickets (home entry.0 entry.1.shard other is) in
              let lies : shard k setup.shards ≡ entry.1.shard = subst (λ o. IfSome o (λ (x : Key). shard x setup.shards ≡ entry.1.shard)) of all in
              let there : part ≡ entry.1.shard = ap (λ x. shard x setup.shards) (same_key-exact key k same) ∙ lies in
              absurd (false≢true (sym differ ∙ ap (λ n. nat_eq n entry.1.shard) there ∙ eq_self entry.1.shard))

  slot_holds : (o : Option (ℕ × Reference)) → held_of table part key live.tickets o ≡ cond (is_of_key tables table key o) 1 0
  slot_holds None = none_each (λ (h : Ticket × Key). cond (same_key key h.1) 0 0) live.tickets (λ h. within (same_key key h.1) 0 refl)
  slot_holds (Some entry) = by (nat_eq table entry.0) (nat_eq part entry.1.shard) refl refl
    where
      of_state : Option State → Bool
      of_state o = option_map_or (same_key key) (option_and_then (λ (state : State). key_of entry.1.ticket state.tickets) o) false

      swapped : nat_eq entry.0 table ≡ nat_eq table entry.0
      swapped = grind (arith, nat_tests)

      by : (a b : Bool) → nat_eq table entry.0 ≡ a → nat_eq part entry.1.shard ≡ b → held_of table part key live.tickets (Some entry) ≡ cond (is_of_key tables table key (Some entry)) 1 0
      by true true t s =
          let in_table : table ≡ entry.0 = eq-from table entry.0 t in
          let on : part ≡ entry.1.shard = eq-from part entry.1.shard s in
          let there : shard_at tables entry.0 entry.1.shard ≡ Some live = (λ k. shard_at tables (sym in_table k) (sym on k)) ∙ at in
          by_place table part key live.tickets entry true true t s ∙ own_once key entry.1.ticket live.tickets (once_of entry.1.ticket live legal)
          ∙ sym (ap (λ b. cond (b && of_state (shard_at tables entry.0 entry.1.shard)) 1 0) (swapped ∙ t) ∙ ap (λ o. cond (of_state o) 1 0) there)
      by true false t s =
          by_place table part key live.tickets entry true false t s
          ∙ sym (ap (λ b. cond (b && of_state (shard_at tables entry.0 entry.1.shard)) 1 0) (swapped ∙ t) ∙ ap (λ b. cond b 1 0) (elsewhere entry (shard_at tables entry.0 entry.1.shard) refl s))
      by false b t s =
          by_place table part key live.tickets entry false b t s ∙ sym (ap (λ b. cond (b && of_state (shard_at tables entry.0 entry.1.shard)) 1 0) (swapped ∙ t))

  slots_hold : (held : Held Reference) → held_by table part key live.tickets held ≡ slots_of_key tables table key held
  slots_hold held = (λ k. slot_holds held.sc0 k + slot_holds held.sc1 k + slot_holds held.sc2 k)

-- as many references of a key are out of its shard as connections hold
pub refs_are_held : (setup : Setup) (world : WorldState) (table : ℕ) (key : Key) (live : State) → IsWorld setup world → AreHome setup.shards world.tables → shard_at world.tables table (shard key setup.shards) ≡ Some live
    → refs key live.tickets ≡ references_of world table key
refs_are_held setup world table key live stands home at =
    refs_held table (shard key setup.shards) key world.connections live.tickets once
    ∙ same_sums (λ (c : Connection Reference). held_by table (shard key setup.shards) key live.tickets c.progress.held) (λ (c : Connection Reference). slots_of_key world.tables table key c.progress.held) world.connections
    (λ c. slots_hold setup world.tables table key live at legal home c.progress.held)
  where
    legal : IsLegal live
    legal = legal_at setup world.tables table (shard key setup.shards) live stands.tables at

    once : (ticket : Ticket) → 1 ≤ times ticket live.tickets → times_held (here table (shard key setup.shards) ticket) world.connections ≡ 1
    once ticket some =
        let out : times_out (here table (shard key setup.shards) ticket) world.tables ≡ times_of ticket live = ap (λ o. option_map_or (times_of ticket) o 0) at in
        omega (arith, stands.balance (here table (shard key setup.shards) ticket), out, some, once_of ticket live legal)

    same_sums : {C : Type 0} (f g : C → ℕ) (cs : List C) → ((c : C) → f c ≡ g c) → sum_by f cs ≡ sum_by g cs
    same_sums f g [] is = refl
    same_sums f g (c ∷ cs) is = omega (arith, is c, same_sums f g cs is, sum_by-cons f c cs, sum_by-cons g c cs)
