use Rattle.std.proofs.Common.{◌≡◌, ℕ, ◌<◌, ◌∷◌, [], ◌++◌, ◌+◌, sym, ◌∙◌, ap, subst, take, drop, get_or, length, List, inr, rules, arith}
use Rattle.std.proofs.lemmas.List.{take_more, at_drop_more}
use Rattle.stick_model.specs.State.{State}
use Rattle.stick_model.specs.Run.{LastingRun, CanRedoAll, RedoStops, RefusesFirst, events_of, redone, redone_all}
use Rattle.stick_model.specs.Refusals.{IsRefused}
use Rattle.stick_model.specs.declared.replies.Refusal.{Refusal}
use Rattle.stick_model.specs.declared.events.Stored.{Stored}
use Rattle.stick_model.specs.declared.replies.Reply.{Reply}
use Rattle.stick_model.proofs.RunLemmas.{redone_all-more, can_redo-rest, lasting-rest}
use Rattle.stick_table.proofs.redoing.redo_all.Goals as goal

-- one call more of those that were made again
made-more : (old : State) (calls : List Stored) (i : ℕ) (call : Stored) (replies : List Reply) (middle : State) (reply : Reply) (next : State) → i < length calls → call ≡ get_or calls i call
    → redone_all old (take i calls) ≡ (replies, middle) → redone middle call ≡ (reply, next) → redone_all old (take (i + 1) calls) ≡ (replies ++ reply ∷ [], next)
made-more old calls i call replies middle reply next below is so_far one =
    let split : take (i + 1) calls ≡ take i calls ++ call ∷ [] = take_more calls i call below ∙ ap (λ (e : Stored). take i calls ++ e ∷ []) (sym is) in
    subst (λ (cs : List Stored). redone_all old cs ≡ (replies ++ reply ∷ [], next)) (sym split) (redone_all-more old (take i calls) replies middle call reply next so_far one)

left : (calls : List Stored) (i : ℕ) (call : Stored) → i < length calls → call ≡ get_or calls i call → drop i calls ≡ call ∷ drop (i + 1) calls
left calls i call below is = at_drop_more (λ cs. cs) calls i call below ∙ ap (λ (c : Stored). c ∷ drop (i + 1) calls) (sym is)

-- the next call is refused, and the table stays
refused-next : (old : State) (calls : List Stored) (i : ℕ) (call : Stored) (replies : List Reply) (middle next : State) (refusal : Refusal) → i < length calls → call ≡ get_or calls i call
    → redone_all old (take i calls) ≡ (replies, middle) → IsRefused middle call.event refusal → next ≡ middle → RedoStops old calls refusal next
refused-next old calls i call replies middle next refusal below is so_far refused stays =
    subst (λ (s : State). RedoStops old calls refusal s) (sym stays) (record {
      done = i;
      made = ap (λ (o : List Reply × State). o.1) so_far;
      why = inr (subst (λ (cs : List Stored). RefusesFirst middle (events_of cs) refusal) (sym (left calls i call below is)) refused);
    })

pub returns-in_err-reply-clause-err : goal.returns-in_err-reply-clause-err
returns-in_err-reply-clause-err c =
    let stops = refused-next c.args.table.now.now c.args.calls.now c.loop-call.call-index c.call-item.result c.loop-call.replies.items c.loop-call.table.now c.redo.new.self.now c.in_err-reply.field-0.0
    c.loop-call-test.true c.call-item.is c.loop-call.invariant.done c.in_err-reply.ensures.refused c.in_err-reply.ensures.err in
    search rules

pub loop-call-preserved : goal.loop-call-preserved
loop-call-preserved c =
    let old : State = c.args.table.now.now in
    let calls : List Stored = c.args.calls.now in
    let i : ℕ = c.loop-call.call-index in
    let call : Stored = c.call-item.result in
    let middle : State = c.loop-call.table.now in
    let reply : Reply = c.in_ok-reply.reply in
    let next : State = c.redo.new.self.now in
    let one : redone middle call ≡ (reply, next) = c.in_ok-reply.ensures.redone in
    let rest : drop i calls ≡ call ∷ drop (i + 1) calls = left calls i call c.loop-call-test.true c.call-item.is in
    record {
      done = made-more old calls i call c.loop-call.replies.items middle reply next c.loop-call-test.true c.call-item.is c.loop-call.invariant.done one
          ∙ ap (λ (rs : List Reply). let all : List Reply × State = (rs, next) in all) (sym c.push_reserved.ensures.items);
      slots = can_redo-rest middle call (drop (i + 1) calls) reply next (subst (CanRedoAll middle) rest c.loop-call.invariant.slots) one;
      lasts = λ replies end run.
          let lasting = c.loop-call.invariant.lasts replies end run in
          lasting-rest middle call (drop (i + 1) calls) lasting.0 end reply next (subst (λ (cs : List Stored). LastingRun middle cs lasting.0 end) rest lasting.1) one;
      base = c.redo.ensures.base ∙ c.loop-call.invariant.base;
      used = omega (arith, c.push_reserved.ensures.len, c.loop-call.invariant.used);
      room = omega (arith, c.push_reserved.ensures.capacity, c.loop-call.invariant.room);
    }
