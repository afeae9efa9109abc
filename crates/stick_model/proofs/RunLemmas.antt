-- On runs, of events and of stored calls.
use Rattle.std.proofs.Common.{◌≡◌, ℕ, ◌+◌, refl, sym, ◌∙◌, ap, subst, arith, List, [], ◌∷◌, ◌++◌, length, true, Option, None, Some, unwrap_or, IfSome, IsTrue}
use Rattle.std.specs.Option.{option_map_or}
use Rattle.stick_model.specs.State.{State}
use Rattle.stick_model.specs.Step.{Outcome, Step, slot_of, is_free_slot, after}
use Rattle.stick_model.specs.Run.{Run, events_of, stored_calls, StoredRun, LastingRun, redone, CanRedo, CanRedoAll, redone_all}
use Rattle.stick_model.specs.Refusals.{has_life, IsRefused}
use Rattle.stick_model.specs.Laws.{OneRunLaw, RedoLaw, RunsOn, JoinLaw, CountLaw, StoredCountLaw, StoredRunsOn, StoredJoinLaw, LastingLaw}
use Rattle.stick_model.specs.declared.events.Stored.{Stored}
use Rattle.stick_model.specs.declared.events.Event.{Event}
use Rattle.stick_model.specs.declared.replies.Reply.{Reply}
use Rattle.stick_model.specs.declared.replies.Refusal.{Refusal}
use Rattle.stick_model.specs.declared.replies.Refusal.TheVariants.{Stale, Exhausted, Memory, Behind}
use Rattle.std.proofs.lemmas.Bool.{false≢true}
use Rattle.stick_model.proofs.StepLemmas.{step_events, step_spec, step_determined}

-- ---- runs of events

-- a run and one step more
pub run_more : (old : State) (events : List Event) (replies : List Reply) (new : State) (event : Event) (reply : Reply) (next : State)
    → Run old events replies new → Step new event reply next → Run old (events ++ event ∷ []) (replies ++ reply ∷ []) next
run_more old [] [] new event reply next run step = (next, subst (λ (s : State). Step s event reply next) run step, refl)
run_more old [] (r ∷ rs) new event reply next run step = absurd run
run_more old (e ∷ es) [] new event reply next run step = absurd run
run_more old (e ∷ es) (r ∷ rs) new event reply next run step = (run.0, run.1, run_more run.0 es rs new event reply next run.2 step)

-- two runs, the second from where the first ends
pub run_join : (old : State) (events : List Event) (replies : List Reply) (middle : State) (later : List Event) (rest : List Reply) (new : State)
    → Run old events replies middle → Run middle later rest new → Run old (events ++ later) (replies ++ rest) new
run_join old [] [] middle later rest new run more = subst (λ (s : State). Run s later rest new) run more
run_join old [] (r ∷ rs) middle later rest new run more = absurd run
run_join old (e ∷ es) [] middle later rest new run more = absurd run
run_join old (e ∷ es) (r ∷ rs) middle later rest new run more = (run.0, run.1, run_join run.0 es rs middle later rest new run.2 more)

-- a run of joined lists parts
pub run_part : (old : State) (events later : List Event) (replies : List Reply) (new : State) → Run old (events ++ later) replies new → RunsOn old events later replies new
run_part old [] later replies new run = record { middle = old; first = []; rest = replies; joined = refl; before = refl; after = run }
run_part old (e ∷ es) later [] new run = absurd run
run_part old (e ∷ es) later (r ∷ rs) new run =
    let more : RunsOn run.0 es later rs new = run_part run.0 es later rs new run.2 in
    record { middle = more.middle; first = r ∷ more.first; rest = more.rest; joined = ap (λ xs. r ∷ xs) more.joined; before = (run.0, run.1, more.before); after = more.after }

pub join-law : JoinLaw
join-law old events later replies new = (
  λ run. run_part old events later replies new run,
  λ on. subst (λ rs. Run old (events ++ later) rs new) (sym on.joined) (run_join old events on.first on.middle later on.rest new on.before on.after),
)

-- as many events are counted as there were
pub run_events : CountLaw
run_events old [] [] new run = let same : new.events ≡ old.events = ap (λ (s : State). s.events) run in omega arith
run_events old [] (r ∷ rs) new run = absurd run
run_events old (e ∷ es) [] new run = absurd run
run_events old (e ∷ es) (r ∷ rs) new run =
    let one : run.0.events ≡ old.events + 1 = step_events old e r run.0 run.1 in
    let rest : new.events ≡ run.0.events + length es = run_events run.0 es rs new run.2 in
    omega arith

-- as many replies as events
pub run_length : (old : State) (events : List Event) (replies : List Reply) (new : State) → Run old events replies new → length replies ≡ length events
run_length old [] [] new run = refl
run_length old [] (r ∷ rs) new run = absurd run
run_length old (e ∷ es) [] new run = absurd run
run_length old (e ∷ es) (r ∷ rs) new run = let rest : length rs ≡ length es = run_length run.0 es rs new run.2 in omega arith

-- the specification stays
pub run_spec : (old : State) (events : List Event) (replies : List Reply) (new : State) → Run old events replies new → new.spec ≡ old.spec
run_spec old [] [] new run = ap (λ (s : State). s.spec) run
run_spec old [] (r ∷ rs) new run = absurd run
run_spec old (e ∷ es) [] new run = absurd run
run_spec old (e ∷ es) (r ∷ rs) new run = run_spec run.0 es rs new run.2 ∙ step_spec old e r run.0 run.1

-- ---- runs of stored calls

pub run_from_stored : (old : State) (calls : List Stored) (replies : List Reply) (new : State) → StoredRun old calls replies new → Run old (events_of calls) replies new
run_from_stored old [] [] new run = run
run_from_stored old [] (r ∷ rs) new run = absurd run
run_from_stored old (c ∷ cs) [] new run = absurd run
run_from_stored old (c ∷ cs) (r ∷ rs) new run = (run.0, run.2, run_from_stored run.0 cs rs new run.3)

pub stored_from_run : (old : State) (events : List Event) (replies : List Reply) (new : State) → Run old events replies new → StoredRun old (stored_calls events replies) replies new
stored_from_run old [] [] new run = run
stored_from_run old [] (r ∷ rs) new run = absurd run
stored_from_run old (e ∷ es) [] new run = absurd run
stored_from_run old (e ∷ es) (r ∷ rs) new run = (run.0, refl, run.1, stored_from_run run.0 es rs new run.2)

pub length-events_of : (calls : List Stored) → length (events_of calls) ≡ length calls
length-events_of [] = refl
length-events_of (c ∷ cs) = let rest : length (events_of cs) ≡ length cs = length-events_of cs in omega arith

pub stored_run_more : (old : State) (calls : List Stored) (replies : List Reply) (new : State) (call : Stored) (reply : Reply) (next : State)
    → StoredRun old calls replies new → call.slot ≡ slot_of reply → Step new call.event reply next → StoredRun old (calls ++ call ∷ []) (replies ++ reply ∷ []) next
stored_run_more old [] [] new call reply next run slot step = (next, slot, subst (λ (s : State). Step s call.event reply next) run step, refl)
stored_run_more old [] (r ∷ rs) new call reply next run slot step = absurd run
stored_run_more old (c ∷ cs) [] new call reply next run slot step = absurd run
stored_run_more old (c ∷ cs) (r ∷ rs) new call reply next run slot step = (run.0, run.1, run.2, stored_run_more run.0 cs rs new call reply next run.3 slot step)

pub stored_run_join : (old : State) (calls : List Stored) (replies : List Reply) (middle : State) (later : List Stored) (rest : List Reply) (new : State)
    → StoredRun old calls replies middle → StoredRun middle later rest new → StoredRun old (calls ++ later) (replies ++ rest) new
stored_run_join old [] [] middle later rest new run more = subst (λ (s : State). StoredRun s later rest new) run more
stored_run_join old [] (r ∷ rs) middle later rest new run more = absurd run
stored_run_join old (c ∷ cs) [] middle later rest new run more = absurd run
stored_run_join old (c ∷ cs) (r ∷ rs) middle later rest new run more = (run.0, run.1, run.2, stored_run_join run.0 cs rs middle later rest new run.3 more)

pub stored_run_part : (old : State) (calls later : List Stored) (replies : List Reply) (new : State) → StoredRun old (calls ++ later) replies new → StoredRunsOn old calls later replies new
stored_run_part old [] later replies new run = record { middle = old; first = []; rest = replies; joined = refl; before = refl; after = run }
stored_run_part old (c ∷ cs) later [] new run = absurd run
stored_run_part old (c ∷ cs) later (r ∷ rs) new run =
    let more : StoredRunsOn run.0 cs later rs new = stored_run_part run.0 cs later rs new run.3 in
    record { middle = more.middle; first = r ∷ more.first; rest = more.rest; joined = ap (λ xs. r ∷ xs) more.joined; before = (run.0, run.1, run.2, more.before); after = more.after }

pub stored_run_events : (old : State) (calls : List Stored) (replies : List Reply) (new : State) → StoredRun old calls replies new → new.events ≡ old.events + length calls
stored_run_events old calls replies new run = let one = length-events_of calls in let all : new.events ≡ old.events + length (events_of calls) = run_events old (events_of calls) replies new (run_from_stored old calls replies new run) in omega arith

pub stored_run_length : (old : State) (calls : List Stored) (replies : List Reply) (new : State) → StoredRun old calls replies new → length replies ≡ length calls
stored_run_length old calls replies new run = run_length old (events_of calls) replies new (run_from_stored old calls replies new run) ∙ length-events_of calls

pub stored-count-law : StoredCountLaw
stored-count-law old calls replies new run = (stored_run_events old calls replies new run, stored_run_length old calls replies new run)

pub stored-join-law : StoredJoinLaw
stored-join-law old calls later replies new = (
  λ run. stored_run_part old calls later replies new run,
  λ on. subst (λ rs. StoredRun old (calls ++ later) rs new) (sym on.joined) (stored_run_join old calls on.first on.middle later on.rest new on.before on.after),
)

pub stored_run_spec : (old : State) (calls : List Stored) (replies : List Reply) (new : State) → StoredRun old calls replies new → new.spec ≡ old.spec
stored_run_spec old calls replies new run = run_spec old (events_of calls) replies new (run_from_stored old calls replies new run)

-- the replies and the state after stored calls are determined
pub run_determined : OneRunLaw
run_determined old [] [] [] new other a b = (refl, a ∙ sym b)
run_determined old [] (r ∷ rs) others new other a b = absurd a
run_determined old [] [] (s ∷ ss) new other a b = absurd b
run_determined old (call ∷ calls) [] others new other a b = absurd a
run_determined old (call ∷ calls) (r ∷ rs) [] new other a b = absurd b
run_determined old (call ∷ calls) (r ∷ rs) (s ∷ ss) new other a b =
    let one = step_determined old call.event r s a.0 b.0 a.2 b.2 (sym a.1 ∙ b.1) in
    let rest = run_determined a.0 calls rs ss new other a.3 (subst (λ (m : State). StoredRun m calls ss other) (sym one.1) b.3) in
    ((λ i. one.0 i ∷ rest.0 i), rest.1)

-- ---- stored calls, made again

-- a stored call that was answered so is answered so again
pub redone_is : (old : State) (call : Stored) (reply : Reply) (new : State) → Step old call.event reply new → call.slot ≡ slot_of reply → redone old call ≡ (reply, new)
redone_is old call reply new step slot = ap (λ o. after old call.event (unwrap_or o 0)) slot ∙ step.gives

pub can_redo : (old : State) (call : Stored) (reply : Reply) (new : State) → Step old call.event reply new → call.slot ≡ slot_of reply → CanRedo old call
can_redo old call reply new step slot =
    subst (λ (o : Outcome). IfSome (slot_of o.0) (λ s. (call.slot ≡ Some s) × IsTrue (is_free_slot old s))) (sym (redone_is old call reply new step slot)) (named (slot_of reply) slot step.free)
  where
    named : (told : Option ℕ) → call.slot ≡ told → IsTrue (option_map_or (is_free_slot old) told true) → IfSome told (λ s. (call.slot ≡ Some s) × IsTrue (is_free_slot old s))
    named None is free = tt
    named (Some s) is free = (is, free)

pub redo-law : RedoLaw
redo-law old [] [] new run = (tt, ap (λ (s : State). let none : List Reply = [] in (none, s)) (sym run))
redo-law old [] (r ∷ rs) new run = absurd run
redo-law old (c ∷ cs) [] new run = absurd run
redo-law old (c ∷ cs) (r ∷ rs) new run =
    let one : redone old c ≡ (r, run.0) = redone_is old c r run.0 run.2 run.1 in
    let rest = redo-law run.0 cs rs new run.3 in (
      (can_redo old c r run.0 run.2 run.1, subst (λ (o : Outcome). CanRedoAll o.1 cs) (sym one) rest.0),
      ap (λ (o : Outcome). let more = redone_all o.1 cs in (o.0 ∷ more.0, more.1)) one ∙ ap (λ (more : List Reply × State). (r ∷ more.0, more.1)) rest.1,
    )

-- a run of stored calls, each with life left where it was made
pub stored-from-lasting : (old : State) (calls : List Stored) (replies : List Reply) (new : State) → LastingRun old calls replies new → StoredRun old calls replies new
stored-from-lasting old [] [] new run = run
stored-from-lasting old [] (r ∷ rs) new run = absurd run
stored-from-lasting old (c ∷ cs) [] new run = absurd run
stored-from-lasting old (c ∷ cs) (r ∷ rs) new run = (run.0, run.1, run.3, stored-from-lasting run.0 cs rs new run.4)

pub lasting_run_more : (old : State) (calls : List Stored) (replies : List Reply) (new : State) (call : Stored) (reply : Reply) (next : State)
    → LastingRun old calls replies new → call.slot ≡ slot_of reply → IsTrue (has_life new call.event) → Step new call.event reply next → LastingRun old (calls ++ call ∷ []) (replies ++ reply ∷ []) next
lasting_run_more old [] [] new call reply next run slot life step =
    (next, slot, subst (λ (s : State). IsTrue (has_life s call.event)) run life, subst (λ (s : State). Step s call.event reply next) run step, refl)
lasting_run_more old [] (r ∷ rs) new call reply next run slot life step = absurd run
lasting_run_more old (c ∷ cs) [] new call reply next run slot life step = absurd run
lasting_run_more old (c ∷ cs) (r ∷ rs) new call reply next run slot life step = (run.0, run.1, run.2, run.3, lasting_run_more run.0 cs rs new call reply next run.4 slot life step)

-- one call more that is made again
pub redone_all-more : (old : State) (calls : List Stored) (replies : List Reply) (new : State) (call : Stored) (reply : Reply) (next : State)
    → redone_all old calls ≡ (replies, new) → redone new call ≡ (reply, next) → redone_all old (calls ++ call ∷ []) ≡ (replies ++ reply ∷ [], next)
redone_all-more old [] replies new call reply next so_far one =
    let none : [] ≡ replies = ap (λ (o : List Reply × State). o.0) so_far in
    let same : old ≡ new = ap (λ (o : List Reply × State). o.1) so_far in
    let here : redone old call ≡ (reply, next) = ap (λ s. redone s call) same ∙ one in
    ap (λ (o : Outcome). let all : List Reply × State = (o.0 ∷ [], o.1) in all) here ∙ ap (λ rs. let all : List Reply × State = (rs ++ reply ∷ [], next) in all) none
redone_all-more old (c ∷ cs) replies new call reply next so_far one =
    let first : Outcome = redone old c in
    let rest : List Reply × State = redone_all first.1 cs in
    let more : redone_all first.1 (cs ++ call ∷ []) ≡ (rest.0 ++ reply ∷ [], next) =
    redone_all-more first.1 cs rest.0 rest.1 call reply next refl (ap (λ (o : List Reply × State). redone o.1 call) so_far ∙ one) in
    ap (λ (o : List Reply × State). let all : List Reply × State = (first.0 ∷ o.0, o.1) in all) more ∙ ap (λ (o : List Reply × State). let all : List Reply × State = (o.0 ++ reply ∷ [], next) in all) so_far

-- what is left of calls that can be made again, once the first is made
pub can_redo-rest : (old : State) (call : Stored) (calls : List Stored) (reply : Reply) (new : State) → CanRedoAll old (call ∷ calls) → redone old call ≡ (reply, new) → CanRedoAll new calls
can_redo-rest old call calls reply new can one = subst (λ (o : Outcome). CanRedoAll o.1 calls) one can.1

-- and of a run whose events had life left
pub lasting-rest : (old : State) (call : Stored) (calls : List Stored) (replies : List Reply) (end : State) (reply : Reply) (new : State)
    → LastingRun old (call ∷ calls) replies end → redone old call ≡ (reply, new) → (rest : List Reply) × LastingRun new calls rest end
lasting-rest old call calls [] end reply new run one = absurd run
lasting-rest old call calls (r ∷ rs) end reply new run one =
    let same : run.0 ≡ new = ap (λ (o : Outcome). o.1) (sym (redone_is old call r run.0 run.3 run.1) ∙ one) in
    (rs, subst (λ (s : State). LastingRun s calls rs end) same run.4)

-- such a run's next call is refused for want of memory alone
pub lasting-refused : (old : State) (call : Stored) (calls : List Stored) (replies : List Reply) (end : State) (refusal : Refusal) → LastingRun old (call ∷ calls) replies end → IsRefused old call.event refusal → refusal ≡ Memory
lasting-refused old call calls [] end refusal run refused = absurd run
lasting-refused old call calls (r ∷ rs) end Memory run refused = refl
lasting-refused old call calls (r ∷ rs) end Stale run refused = absurd (false≢true (sym refused ∙ run.3.out))
lasting-refused old call calls (r ∷ rs) end Exhausted run refused = absurd (false≢true (sym refused.1 ∙ run.2))
lasting-refused old call calls (r ∷ rs) end (Behind count front) run refused = absurd refused

-- wherever the calls before one of them lead, it is refused so
lasting-next : (old : State) (before : List Stored) (call : Stored) (later : List Stored) (replies : List Reply) (new : State) (first : List Reply) (middle : State) (refusal : Refusal)
    → LastingRun old (before ++ call ∷ later) replies new → StoredRun old before first middle → IsRefused middle call.event refusal → refusal ≡ Memory
lasting-next old [] call later replies new [] middle refusal run so_far refused =
    lasting-refused old call later replies new refusal run (subst (λ (s : State). IsRefused s call.event refusal) so_far refused)
lasting-next old [] call later replies new (f ∷ fs) middle refusal run so_far refused = absurd so_far
lasting-next old (c ∷ cs) call later [] new first middle refusal run so_far refused = absurd run
lasting-next old (c ∷ cs) call later (r ∷ rs) new [] middle refusal run so_far refused = absurd so_far
lasting-next old (c ∷ cs) call later (r ∷ rs) new (f ∷ fs) middle refusal run so_far refused =
    let one = step_determined old c.event r f run.0 so_far.0 run.3 so_far.2 (sym run.1 ∙ so_far.1) in
    lasting-next so_far.0 cs call later rs new fs middle refusal (subst (λ (m : State). LastingRun m (cs ++ call ∷ later) rs new) one.1 run.4) so_far.3 refused

pub lasting-law : LastingLaw
lasting-law old calls replies new run = record {
  run = stored-from-lasting old calls replies new run;
  refused = λ before call later first middle refusal are so_far refused.
      lasting-next old before call later replies new first middle refusal (subst (λ (cs : List Stored). LastingRun old cs replies new) are run) so_far refused;
}
