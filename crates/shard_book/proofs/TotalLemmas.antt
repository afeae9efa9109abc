-- On the replies of shards, added up.
use Rattle.std.proofs.Common.{◌≡◌, ◌∙◌, ◌≤◌, ◌+◌, ◌-◌, ◌*◌, ◌^◌, ℕ, true, false, Option, Some, None, IfSome, List, [], ◌∷◌, ◌++◌, length, fold, refl, sym, ap, subst, rules, arith}
use Rattle.std.specs.Option.{option_map_or}
use Rattle.std.proofs.lemmas.List.Sums.{count_by-le-length, fold-append}
use Rattle.stored_data.specs.declared.field.Field.{Field}
use Rattle.stick_model.specs.State.{State, stays}
use Rattle.stick_model.specs.Step.{Outcome, Step, begun, listed, cleared}
use Rattle.stick_model.specs.Legal.{IsLegal}
use Rattle.stick_model.specs.Limits.{IsTableSpec}
use Rattle.stick_model.specs.Filters.{not_stored, is_matched}
use Rattle.stick_model.specs.declared.filters.Filter.{Filter}
use Rattle.stick_model.specs.declared.events.Event.{Event}
use Rattle.stick_model.specs.declared.events.Event.TheVariants.{Get, Track, Look, Count, Release, Put, Clear, ClearWhere, List as ListRows, Expire}
use Rattle.stick_model.specs.declared.replies.Reply.{Reply}
use Rattle.stick_model.specs.declared.replies.Reply.TheVariants.{Absent, NotStored}
use Rattle.stick_model.proofs.EntryLemmas.{length-filter-le}
use Rattle.stick_model.proofs.ListedLemmas.{key_ranks}
use Rattle.stick_model.proofs.OrderLemmas.{order-moves, order-rises}
use Rattle.stick_model.specs.Gathered.{has_lower_key, in_key_order}
use Rattle.stick_model.specs.declared.rows.Row.{Row}
use Rattle.shard_book.specs.Total.{IsAsked, IsCounted, IsInKeyOrder, both, together, total}

-- ---- rows in the order of their keys
pub in_order : (rows : List Row) → IsInKeyOrder rows (in_key_order rows)
in_order rows = record { same = order-moves has_lower_key rows; rising = order-rises has_lower_key key_ranks rows }

-- ---- that the numbers can be added up

listed_counted : (limit : ℕ) (state : State) (choice : Filter) (missing : Option Field) → length state.records ≤ limit → IsCounted limit (option_map_or NotStored missing (listed state choice))
listed_counted limit state choice None within = within
listed_counted limit state choice (Some field) within = tt

cleared_counted : (limit : ℕ) (state : State) (choice : Filter) (missing : Option Field) → length state.records ≤ limit
    → IsCounted limit (option_map_or {U = Outcome} (λ field. (NotStored field, state)) missing (cleared state choice)).0
cleared_counted limit state choice None within = (
  omega (arith, count_by-le-length (is_matched state.clock state.tickets choice false) state.records, within),
  omega (arith, count_by-le-length (is_matched state.clock state.tickets choice true) state.records, within),
)
cleared_counted limit state choice (Some field) within = tt

-- the numbers of a shard's reply are at most the greatest size of a table
pub counted : (event : Event) (before after : State) (reply : Reply) → IsAsked event → IsTableSpec before.spec → IsLegal before → Step before event reply after → IsCounted (2 ^ 30) reply
counted (ListRows now choice) before after reply asked limits legal step =
    let state : State = begun before now in
    subst (IsCounted (2 ^ 30)) (ap (λ (o : Outcome). o.0) step.gives) (listed_counted (2 ^ 30) state choice (not_stored state.spec.columns choice)
    (omega (arith, length-filter-le (stays state.clock state.tickets) before.records, legal.within_size, limits.size.1)))
counted (ClearWhere now choice) before after reply asked limits legal step =
    let state : State = begun before now in
    subst (IsCounted (2 ^ 30)) (ap (λ (o : Outcome). o.0) step.gives) (cleared_counted (2 ^ 30) state choice (not_stored state.spec.columns choice)
    (omega (arith, length-filter-le (stays state.clock state.tickets) before.records, legal.within_size, limits.size.1)))
counted (Get now key) before after reply asked limits legal step = absurd asked
counted (Track now key) before after reply asked limits legal step = absurd asked
counted (Look now ticket) before after reply asked limits legal step = absurd asked
counted (Count now ticket act) before after reply asked limits legal step = absurd asked
counted (Release now ticket) before after reply asked limits legal step = absurd asked
counted (Put now key pairs) before after reply asked limits legal step = absurd asked
counted (Clear now key) before after reply asked limits legal step = absurd asked
counted (Expire now) before after reply asked limits legal step = absurd asked

both_counted : (a b : ℕ) (first second : Reply) → IsCounted a first → IsCounted b second → IsCounted (a + b) (both first second)
both_counted a b first second h k = search rules

pub later : (a b : ℕ) (reply : Reply) → a ≤ b → IsCounted a reply → IsCounted b reply
later a b reply le h = search rules

pub counted-more : (n : ℕ) (so_far : Option Reply) (next : Reply) → IfSome so_far (IsCounted (n * 2 ^ 30)) → IsCounted (2 ^ 30) next → IsCounted ((n + 1) * 2 ^ 30) (together so_far next)
counted-more n None next h k = later (2 ^ 30) ((n + 1) * 2 ^ 30) next (omega arith) k
counted-more n (Some before) next h k = subst (λ limit. IsCounted limit (both before next)) (omega arith) (both_counted (n * 2 ^ 30) (2 ^ 30) before next h k)

-- ---- adding up

-- what the replies so far come to, if there are any
abbrev pub so_far_of : List Reply → Option Reply
so_far_of [] = None
so_far_of (reply ∷ replies) = Some (fold both reply replies)

value_or : Reply → Option Reply → Reply
value_or d None = d
value_or d (Some x) = x

inside : {x y : Reply} → Some x ≡ Some y → x ≡ y
unfolding value_or
inside {x} {y} e = ap (value_or x) e

pub so_far-more : (replies : List Reply) (so_far : Option Reply) (next all : Reply) → so_far_of replies ≡ so_far → all ≡ together so_far next → so_far_of (replies ++ next ∷ []) ≡ Some all
so_far-more [] None next all is gives = ap Some (sym gives)
so_far-more [] (Some before) next all is gives = cc is
so_far-more (reply ∷ replies) None next all is gives = cc is
so_far-more (reply ∷ replies) (Some before) next all is gives =
    ap Some (fold-append both reply replies (next ∷ []) ∙ ap (λ found. both found next) (inside is) ∙ sym gives)

pub so_far-total : (replies : List Reply) (reply : Reply) → so_far_of replies ≡ Some reply → reply ≡ total replies
so_far-total [] reply is = cc is
so_far-total (first ∷ replies) reply is = sym (inside is)

pub so_far-none : (replies : List Reply) → so_far_of replies ≡ None → total replies ≡ Absent
so_far-none [] is = refl
so_far-none (reply ∷ replies) is = cc is

-- what the replies so far and those to come are together
abbrev pub total_from : Option Reply → List Reply → Reply
total_from None rest = total rest
total_from (Some before) rest = fold both before rest

pub total_from-more : (so_far : Option Reply) (reply all : Reply) (rest left : List Reply) → rest ≡ reply ∷ left → all ≡ together so_far reply → total_from so_far rest ≡ total_from (Some all) left
total_from-more None reply all rest left is gives = ap total is ∙ ap (λ first. fold both first left) (sym gives)
total_from-more (Some before) reply all rest left is gives = ap (fold both before) is ∙ ap (λ first. fold both first left) (sym gives)

-- the numbers so far are those of the replies that were added up
pub so_far_counted-more : (so_far : Option Reply) (reply all : Reply) (rest left : List Reply) (n : ℕ) → rest ≡ reply ∷ left → all ≡ together so_far reply → length rest ≤ n
    → IfSome so_far (IsCounted ((n - length rest) * 2 ^ 30)) → IsCounted (2 ^ 30) reply → IsCounted ((n - length left) * 2 ^ 30) all
so_far_counted-more so_far reply all rest left n is gives few before here =
    let one_more : n - length rest + 1 ≡ n - length left = omega (arith, ap length is, few) in
    subst (IsCounted ((n - length left) * 2 ^ 30)) (sym gives) (subst (λ k. IsCounted (k * 2 ^ 30) (together so_far reply)) one_more (counted-more (n - length rest) so_far reply before here))
