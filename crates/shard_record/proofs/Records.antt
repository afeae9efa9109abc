-- Records as runs of one table.
use Rattle.std.proofs.Common.{◌≡◌, ℕ, ◌≤◌, refl, sym, ap, subst, ◌∙◌, arith, Bool, true, false, cond, ◌&&◌, ◌||◌, List, [], ◌∷◌, ◌++◌, append_assoc, count_by}
use Rattle.std.specs.List.{list_any}
use mathlib.Core.List.{IsPrefix}
use Rattle.std.proofs.lemmas.List.Sums.{sum_by-le-sum_by}
use Rattle.std.proofs.lemmas.Bool.{false≢true}
use Rattle.stick_model.specs.Key.{Key, same_key}
use Rattle.stick_model.specs.State.{State, same_ticket}
use Rattle.stick_model.specs.Legal.{IsLegal}
use Rattle.stick_model.specs.Run.{Run}
use Rattle.stick_model.specs.Laws.{tickets_told}
use Rattle.stick_model.specs.Passed.{has_passed, passing_look, passing_looks}
use Rattle.stick_model.specs.declared.events.Event.{Event}
use Rattle.stick_model.specs.declared.replies.Reply.{Reply}
use Rattle.stick_model.proofs.LegalLemmas.{empty_legal, step_legal}
use Rattle.stick_model.proofs.StepLemmas.{step_tickets}
use Rattle.stick_model.proofs.LimitLemmas.{limit-law}
use Rattle.shard_record.specs.declared.view.Call.{Call}
use Rattle.shard_record.specs.Calls.{Answers, Held, IsHistory, IsHistoryOf, IsRecord, IsStart, call, events_in, out, out_from, passed_in, replies_in}

-- one call more
record_more : (old : State) (log : List Call) (new : State) (seat : ℕ) (event : Event) (reply : Reply) (next : State) → IsRecord old log new → Answers new event reply next → IsRecord old (log ++ call seat event reply ∷ []) next
record_more old [] new seat event reply next is answers = (next, subst (λ (s : State). Answers s event reply next) is answers, refl)
record_more old (first ∷ log) new seat event reply next is answers = (is.0, is.1, record_more is.0 log new seat event reply next is.2 answers)

-- a beginning of a record is one
record_part : (old : State) (log rest : List Call) (new : State) → IsRecord old (log ++ rest) new → (middle : State) × IsRecord old log middle
record_part old [] rest new is = (old, refl)
record_part old (first ∷ log) rest new is = let part = record_part is.0 log rest new is.2 in (part.0, (is.0, is.1, part.1))

run_of : (old : State) (log : List Call) (new : State) → IsRecord old log new → Run old (events_in log) (replies_in log) new
run_of old [] new is = is
run_of old (one ∷ log) new is = (is.0, is.1.step, run_of is.0 log new is.2)

pub start_legal : (start : State) → IsStart start → IsLegal start
start_legal start begins = subst IsLegal (sym begins.empty) (empty_legal start.spec)

record_legal : (old : State) (log : List Call) (new : State) → IsLegal old → IsRecord old log new → IsLegal new
record_legal old [] new legal is = subst IsLegal (sym is) legal
record_legal old (one ∷ log) new legal is = record_legal is.0 log new (step_legal old one.event one.reply is.0 legal is.1.takes is.1.lives is.1.step) is.2

-- what is out is what the replies tell
out_of : (old : State) (log : List Call) (new : State) → IsRecord old log new → new.tickets ≡ out_from old.tickets log
out_of old [] new is = ap (λ (s : State). s.tickets) is
out_of old (one ∷ log) new is = out_of is.0 log new is.2 ∙ ap (λ ts. out_from ts log) (step_tickets old one.event one.reply is.0 is.1.step)

pub out_more : (tickets : List Held) (log : List Call) (one : Call) → out_from tickets (log ++ one ∷ []) ≡ tickets_told one.event one.reply (out_from tickets log)
out_more tickets [] one = refl
out_more tickets (first ∷ log) one = out_more (tickets_told first.event first.reply tickets) log one

-- ---- histories

pub history_more : (log : List Call) (live : State) (seat : ℕ) (event : Event) (reply : Reply) (next : State) → IsHistoryOf log live → Answers live event reply next → IsHistoryOf (log ++ call seat event reply ∷ []) next
history_more log live seat event reply next is answers = record { start = is.start; begins = is.begins; runs = record_more is.start log live seat event reply next is.runs answers }

pub history_part : (log later : List Call) (live : State) → IsPrefix log later → IsHistoryOf later live → IsHistory log
history_part log later live begins is =
    let part = record_part is.start log begins.0 live (subst (λ l. IsRecord is.start l live) (sym begins.1) is.runs) in
    (part.0, record { start = is.start; begins = is.begins; runs = part.1 })

pub history_legal : (log : List Call) (live : State) → IsHistoryOf log live → IsLegal live
history_legal log live is = record_legal is.start log live (start_legal is.start is.begins) is.runs

pub history_out : (log : List Call) (live : State) → IsHistoryOf log live → live.tickets ≡ out log
history_out log live is = out_of is.start log live is.runs ∙ ap (λ (s : State). out_from s.tickets log) is.begins.empty

-- ---- what has passed

pub looks_append : (key : Key) (limit : ℕ) (log rest : List Call)
    → passing_looks key limit (events_in (log ++ rest)) (replies_in (log ++ rest)) ≡ passing_looks key limit (events_in log) (replies_in log) ++ passing_looks key limit (events_in rest) (replies_in rest)
looks_append key limit [] rest = refl
looks_append key limit (one ∷ log) rest =
    ap (λ ts. passing_look key limit one.event one.reply ++ ts) (looks_append key limit log rest)
    ∙ sym (append_assoc (passing_look key limit one.event one.reply) (passing_looks key limit (events_in log) (replies_in log)) (passing_looks key limit (events_in rest) (replies_in rest)))

any_append : {X : Type 0} (p : X → Bool) (xs ys : List X) → list_any p xs ≡ true → list_any p (xs ++ ys) ≡ true
any_append p [] ys is = absurd (false≢true is)
any_append p (x ∷ xs) ys is = elim (p x) as (λ b. (b || list_any p xs) ≡ true → (b || list_any p (xs ++ ys)) ≡ true) [ true ↦ λ _. refl | false ↦ λ rest. any_append p xs ys rest ] is

and-both : (a b c : Bool) → (b ≡ true → c ≡ true) → (a && b) ≡ true → (a && c) ≡ true
and-both true b c more is = more is
and-both false b c more is = absurd (false≢true is)

-- what has passed has passed
pub passed_later : (key : Key) (limit : ℕ) (log later : List Call) (held : Held) → IsPrefix log later → passed_in key limit log held ≡ true → passed_in key limit later held ≡ true
passed_later key limit log later held begins is =
    let looks : passing_looks key limit (events_in later) (replies_in later) ≡ passing_looks key limit (events_in log) (replies_in log) ++ passing_looks key limit (events_in begins.0) (replies_in begins.0) =
    ap (λ l. passing_looks key limit (events_in l) (replies_in l)) (sym begins.1) ∙ looks_append key limit log begins.0 in
    subst (λ ts. has_passed key ts held ≡ true) (sym looks)
    (and-both (same_key key held.1) (list_any (same_ticket held.0) (passing_looks key limit (events_in log) (replies_in log)))
    (list_any (same_ticket held.0) (passing_looks key limit (events_in log) (replies_in log) ++ passing_looks key limit (events_in begins.0) (replies_in begins.0)))
    (any_append (same_ticket held.0) (passing_looks key limit (events_in log) (replies_in log)) (passing_looks key limit (events_in begins.0) (replies_in begins.0))) is)

one_more : (a b : Bool) → (a ≡ true → b ≡ true) → cond a 1 0 ≤ cond b 1 0
one_more true true h = omega arith
one_more true false h = absurd (false≢true (h refl))
one_more false true h = omega arith
one_more false false h = omega arith

pub count_more : {X : Type 0} (p q : X → Bool) (xs : List X) → ((x : X) → p x ≡ true → q x ≡ true) → count_by p xs ≤ count_by q xs
count_more p q xs h = sum_by-le-sum_by (λ x. cond (p x) 1 0) (λ x. cond (q x) 1 0) xs (λ x. one_more (p x) (q x) (h x))

-- the limit law of a record
pub record_limit : (log : List Call) (live : State) (key : Key) (limit : ℕ) → IsHistoryOf log live → count_by (passed_in key limit log) (out log) ≤ limit
record_limit log live key limit is =
    subst (λ ts. count_by (passed_in key limit log) ts ≤ limit) (history_out log live is)
    (limit-law is.start (events_in log) (replies_in log) live key limit (start_legal is.start is.begins) (run_of is.start log live is.runs))
