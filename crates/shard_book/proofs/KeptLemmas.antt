-- A book beside its record, when it is opened and after a call.
use Rattle.std.proofs.Common.{◌≡◌, ℕ, List, [], ◌∷◌, ◌++◌, refl, sym, ap, ◌∙◌, subst, append_assoc, true, rules, ◌<◌, ◌^◌}
use Rattle.std.proofs.lemmas.List.{map-append}
use Rattle.stick_model.specs.State.{empty_table}
use Rattle.stick_model.specs.Limits.{IsTableSpec, IsTableEvent}
use Rattle.stick_model.specs.Refusals.{has_life}
use Rattle.stick_model.specs.declared.specification.Spec.{Spec}
use Rattle.stick_model.proofs.StepLemmas.{step_spec}
use Rattle.stick_model.specs.declared.events.Event.{Event}
use Rattle.stick_model.specs.declared.rows.Ticket.{Ticket}
use Rattle.stick_model.specs.declared.events.Event.TheVariants.{Release}
use Rattle.stick_model.specs.declared.replies.Reply.{Reply}
use Rattle.shard_record.specs.declared.view.Call.{Call}
use Rattle.shard_record.specs.Calls.{Answers, IsHistoryOf, call}
use Rattle.shard_record.specs.Telling.{HasAnswered}
use Rattle.shard_record.proofs.Records.{history_more}
use Rattle.shard_book.specs.BookState.{BookState, Extends, opened, recorded, stored_of}
use Rattle.shard_book.specs.Kept.{IsKept, IsMadeWith, stored}
use Rattle.shard_book.proofs.BookLemmas.{stored_of-push}

-- the record of an empty table
empty_history : (spec : Spec) → IsTableSpec spec → IsHistoryOf [] (empty_table spec)
empty_history spec limits = record { start = empty_table spec; begins = record { limits = limits; empty = refl }; runs = refl }

pub opened_kept : (spec : Spec) (book : BookState) (log : List Call) → IsTableSpec book.base.spec → book ≡ opened book.base.spec → book.base.spec ≡ spec → log ≡ [] → IsKept spec book log
opened_kept spec book log limits is made none =
    let kept : IsKept spec (opened book.base.spec) [] = record { before = []; since = []; parts = refl; base = empty_history book.base.spec limits; calls = refl; live = empty_history book.base.spec limits; made = made } in
    subst (λ (b : BookState). IsKept spec b log) (sym is) (subst (IsKept spec (opened book.base.spec)) (sym none) kept)

-- its calls are those of a table that was made so
pub made_with : (spec : Spec) (book : BookState) (log : List Call) → IsKept spec book log → IsMadeWith spec log
made_with spec book log kept = record { live = book.live; history = kept.live; made = kept.made }

-- what a book has answered, by its record
pub has_answered : (spec : Spec) (old new : BookState) (log : List Call) (seat : ℕ) (event : Event) (reply : Reply) → IsKept spec old log → IsTableEvent event → has_life old.live event ≡ true → Extends old seat event reply new → HasAnswered log event reply
has_answered spec old new log seat event reply kept takes lives extends = record {
  live = old.live;
  next = new.live;
  history = kept.live;
  answers = record { takes = takes; lives = lives; step = extends.step };
}

-- a call more
pub kept_more : (spec : Spec) (old new : BookState) (log after : List Call) (seat by : ℕ) (event : Event) (reply : Reply) → IsKept spec old log → IsTableEvent event → has_life old.live event ≡ true → Extends old seat event reply new
    → after ≡ log ++ call by event reply ∷ [] → IsKept spec new after
kept_more spec old new log after seat by event reply kept takes lives extends is =
    let one = call by event reply in
    let answers : Answers old.live event reply new.live = record { takes = takes; lives = lives; step = extends.step } in
    subst (IsKept spec new) (sym is) (record {
      before = kept.before;
      since = kept.since ++ one ∷ [];
      parts = ap (λ l. l ++ one ∷ []) kept.parts ∙ append_assoc kept.before kept.since (one ∷ []);
      base = subst (IsHistoryOf kept.before) (sym extends.base) kept.base;
      calls = ap stored_of extends.calls ∙ (stored_of-push old.calls (recorded seat event reply) ∙ (ap (λ l. l ++ stored one ∷ []) kept.calls ∙ sym (map-append stored kept.since (one ∷ []))));
      live = history_more log old.live by event reply new.live kept.live answers;
      made = step_spec old.live event reply new.live extends.step ∙ kept.made;
    })

-- a table takes a release at any moment
pub takes_release : (now : ℕ) (ticket : Ticket) → now < 2 ^ 62 → IsTableEvent (Release now ticket)
takes_release now ticket below = record { moment = below; values = search rules; tag = tt }
