use Rattle.std.proofs.Common.{◌≡◌, ℕ, ◌<◌, ◌∷◌, [], ◌++◌, ◌+◌, sym, ◌∙◌, ap, subst, take, drop, get_or, length, List, inr, rules, arith}
use Rattle.std.proofs.lemmas.List.{take_more, at_drop_more}
use Rattle.stick_model.specs.State.{State}
use Rattle.stick_model.specs.Run.{Run, RunStops, RefusesFirst}
use Rattle.stick_model.specs.Step.{Step}
use Rattle.stick_model.specs.Refusals.{IsRefused}
use Rattle.stick_model.specs.declared.events.Event.{Event}
use Rattle.stick_model.specs.declared.replies.Reply.{Reply}
use Rattle.stick_model.specs.declared.replies.Refusal.{Refusal}
use Rattle.stick_model.proofs.RunLemmas.{run_more}
use Rattle.stick_table.proofs.running.run.Goals as goal

-- one event more of those that were answered
answered-more : (old : State) (events : List Event) (i : ℕ) (event : Event) (replies : List Reply) (middle : State) (reply : Reply) (next : State) → i < length events → event ≡ get_or events i event
    → Run old (take i events) replies middle → Step middle event reply next → Run old (take (i + 1) events) (replies ++ reply ∷ []) next
answered-more old events i event replies middle reply next below is so_far step =
    let split : take (i + 1) events ≡ take i events ++ event ∷ [] = take_more events i event below ∙ ap (λ (e : Event). take i events ++ e ∷ []) (sym is) in
    subst (λ (es : List Event). Run old es (replies ++ reply ∷ []) next) (sym split) (run_more old (take i events) replies middle event reply next so_far step)

-- the next event is refused, and the table stays
refused-next : (old : State) (events : List Event) (i : ℕ) (event : Event) (replies : List Reply) (middle next : State) (refusal : Refusal) → i < length events → event ≡ get_or events i event
    → Run old (take i events) replies middle → IsRefused middle event refusal → next ≡ middle → RunStops old events refusal next
refused-next old events i event replies middle next refusal below is so_far refused stays =
    let rest : drop i events ≡ event ∷ drop (i + 1) events = at_drop_more (λ es. es) events i event below ∙ ap (λ (e : Event). e ∷ drop (i + 1) events) (sym is) in
    subst (λ (s : State). RunStops old events refusal s) (sym stays) (record {
      done = i;
      replies = replies;
      run = so_far;
      why = inr (subst (λ (es : List Event). RefusesFirst middle es refusal) (sym rest) refused);
    })

pub returns-in_err-reply-clause-err : goal.returns-in_err-reply-clause-err
returns-in_err-reply-clause-err g c =
    let state = g.T.Table.state in
    let stops = refused-next (state c.args.table.now) c.args.events.now c.loop-event.event-index c.event-item.result c.loop-event.replies.items (state c.loop-event.table) (state c.step.new.self) c.in_err-reply.field-0.0
    c.loop-event-test.true c.event-item.is c.loop-event.invariant.run c.in_err-reply.ensures.refused c.in_err-reply.ensures.err in
    search rules

pub loop-event-preserved : goal.loop-event-preserved
loop-event-preserved g c =
    let state = g.T.Table.state in
    record {
      run = subst (λ (rs : List Reply). Run (state c.args.table.now) (take (c.loop-event.event-index + 1) c.args.events.now) rs (state c.step.new.self)) (sym c.push_reserved.ensures.items)
          (answered-more (state c.args.table.now) c.args.events.now c.loop-event.event-index c.event-item.result c.loop-event.replies.items (state c.loop-event.table) c.in_ok-reply.reply (state c.step.new.self)
          c.loop-event-test.true c.event-item.is c.loop-event.invariant.run c.in_ok-reply.ensures.ok);
      base = c.step.ensures.base ∙ c.loop-event.invariant.base;
      used = omega (arith, c.push_reserved.ensures.len, c.loop-event.invariant.used);
      room = omega (arith, c.push_reserved.ensures.capacity, c.loop-event.invariant.room);
    }
