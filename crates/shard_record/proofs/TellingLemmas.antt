-- What a call notes and tells.
use Rattle.std.proofs.Common.{◌≡◌, ℕ, ◌≤◌, refl, sym, ap, subst, ◌∙◌, arith, Bool, true, false, cond, not, nat_eq, nat_le, ◌&&◌, List, [], ◌∷◌, ◌++◌, Some, length, count_by, sum_by, map}
use Rattle.std.specs.List.{IsDistinct}
use Rattle.std.proofs.lemmas.Bool.Decides.{nat_tests}
use Rattle.std.proofs.lemmas.List.Sums.{sum_by-cons}
use Rattle.std.proofs.lemmas.Map.Keys.{IsDistinct-head, IsDistinct-tail}
use mathlib.Core.List.{IsPrefix}
use Rattle.stick_model.specs.Key.{Key, same_key}
use Rattle.stick_model.specs.State.{key_of, same_ticket}
use Rattle.stick_model.specs.Step.{ticket_of}
use Rattle.stick_model.specs.Legal.{number_in}
use Rattle.stick_model.specs.Laws.{IsAnsweredFrom, tickets_told}
use Rattle.stick_model.specs.declared.rows.Ticket.{Ticket}
use Rattle.stick_model.specs.declared.events.Event.{Event}
use Rattle.stick_model.specs.declared.events.Event.TheVariants.{Get, Track, Look, Count, Release, Put, Clear, ClearWhere, List as ListRows, Expire}
use Rattle.stick_model.specs.declared.replies.Reply.{Reply}
use Rattle.stick_model.specs.declared.replies.Reply.TheVariants.{Released}
use Rattle.stick_model.proofs.KeyLemmas.{same_key-refl}
use Rattle.stick_model.proofs.ReferenceLemmas.{reference-law}
use Rattle.shard_record.specs.declared.view.Call.{Call}
use Rattle.shard_record.specs.declared.view.Caller.{Caller}
use Rattle.shard_record.specs.declared.view.Part.{Part}
use Rattle.shard_record.specs.Calls.{Held, IsHistory, call, calls_by, out}
use Rattle.shard_record.specs.Parts.{AreTheirs, IsCompared, MayAppend, Owns, appended, caller, caller_number, callers_alone, compared, held_alone, holder, joined, keeper, longer, nobody, without_callers, without_held}
use Rattle.shard_record.specs.Views.{AreCompared, View, at, only, paired, put, without_book}
use Rattle.shard_record.specs.Telling.{HasAnswered, IsKeeper, IsNoRelease, IsOut, IsSeer, IsSettled, IsTold, KeeperState, keeping_for, log_of, mine_in, mine_of, number_of, spoken}
use Rattle.shard_record.proofs.Callers.{calls_own}
use Rattle.shard_record.proofs.Records.{history_legal, history_more, history_out}
use Rattle.shard_record.proofs.Tickets.{is_it, it_is, must, none_it, same_exact, same_self}
use Rattle.shard_record.proofs.Views.{at_put, join_back, join_only, map_only, paired_only, put_put, settled_put}

-- ---- a keeper is joined by another token

-- of one book alone: what the two come to, and what comparing them told
pub record HasJoined (book : ℕ) (one other : Part) (new : View) : Type 0 where
  pub view : new ≡ only book (compared (joined one other))
  pub told : IsCompared (joined one other) (compared (joined one other))

pub joins_only : (book : ℕ) (view others new : View) (one other : Part) → view ≡ only book one → others ≡ only book other → new ≡ map compared (paired joined view others) → AreCompared (paired joined view others) new → HasJoined book one other new
joins_only book view others new one other is is_other both told =
    let same : paired joined view others ≡ paired joined (only book one) (only book other) = λ i. paired joined (is i) (is_other i) in
    let all : new ≡ only book (compared (joined one other)) = both ∙ (ap (map compared) same ∙ join_only book one other) in
    let here : at book (paired joined view others) ≡ joined one other = ap (at book) (same ∙ pair_only book one other) ∙ at_put book (joined one other) [] in
    let after : at book new ≡ compared (joined one other) = ap (at book) all ∙ at_put book (compared (joined one other)) [] in
    record { view = all; told = subst (λ (y : Part × Part). IsCompared y.0 y.1) (λ i. (here i, after i)) (told book) }
  where
    pair_only : (book : ℕ) (one other : Part) → paired joined (only book one) (only book other) ≡ only book (joined one other)
    pair_only = paired_only joined refl

keeps_log : (log : List Call) (held : List Held) (callers : List Caller) (other : Part) → IsCompared (joined (keeping_for log held callers) other) (compared (joined (keeping_for log held callers) other))
    → compared (joined (keeping_for log held callers) other) ≡ keeping_for log (held ++ other.held) (callers ++ other.callers)
keeps_log log held callers other is = λ i. record { keeps = true; log = is.whole refl i; told = []; held = held ++ other.held; callers = callers ++ other.callers }

pub record HasTaken (book : ℕ) (log : List Call) (held : List Held) (callers : List Caller) (other : Part) (new : View) : Type 0 where
  pub view : new ≡ only book (keeping_for log (held ++ other.held) (callers ++ other.callers))
  pub seen : IsPrefix other.log log
  pub out : (h : Held → ℕ) → sum_by h (held ++ other.held) ≤ sum_by h (out log)
  pub mine : AreTheirs log (callers ++ other.callers)

pub takes : (book : ℕ) (log : List Call) (held : List Held) (callers : List Caller) (other : Part) (view others new : View) → view ≡ only book (keeping_for log held callers) → others ≡ only book other
    → new ≡ map compared (paired joined view others) → AreCompared (paired joined view others) new → HasTaken book log held callers other new
takes book log held callers other view others new is is_other both told =
    let has = joins_only book view others new (keeping_for log held callers) other is is_other both told in
    record {
      view = has.view ∙ ap (only book) (keeps_log log held callers other has.told);
      seen = subst (IsPrefix other.log) (has.told.whole refl) has.told.told;
      out = has.told.out refl;
      mine = has.told.mine refl;
    }

-- ---- a reference that is held is out

key_of_it : (ticket : Ticket) (key : Key) (tickets : List Held) → IsDistinct nat_eq (map number_in tickets) → 1 ≤ count_by (is_it ticket key) tickets → key_of ticket tickets ≡ Some key
key_of_it ticket key [] distinct there = absurd (omega (arith, there))
key_of_it ticket key (held ∷ tickets) distinct there =
    elim (same_ticket ticket held.0) as (λ b. same_ticket ticket held.0 ≡ b → cond b (Some held.1) (key_of ticket tickets) ≡ Some key) [
      | true ↦ λ is.
          let number : ticket.number ≡ held.0.number = ap (λ (t : Ticket). t.number) (same_exact ticket held.0 is) in
          let none : count_by (is_it ticket key) tickets ≡ 0 = none_it ticket key tickets held.0.number number (IsDistinct-head nat_eq held.0.number (map number_in tickets) distinct) in
          let one : 1 ≤ cond (is_it ticket key held) 1 0 = omega (arith, there, none, sum_by-cons (λ (x : Held). cond (is_it ticket key x) 1 0) held tickets) in
          ap (λ (x : Held). Some x.1) (it_is ticket key held (must (is_it ticket key held) one))
      | false ↦ λ differ.
          let zero : ◌≡◌ {A = ℕ} (cond (is_it ticket key held) 1 0) 0 = ap (λ (b : Bool). cond {A = ℕ} (b && same_key key held.1) 1 0) differ in
          key_of_it ticket key tickets (IsDistinct-tail nat_eq held.0.number (map number_in tickets) distinct) (omega (arith, there, zero, sum_by-cons (λ (x : Held). cond (is_it ticket key x) 1 0) held tickets))
    ] refl

pub held_out : (log : List Call) (ticket : Ticket) (key : Key) → ((h : Held → ℕ) → sum_by h ((ticket, key) ∷ []) ≤ sum_by h (out log)) → IsOut log ticket key
held_out log ticket key some live is =
    let it : Held → ℕ = λ x. cond (is_it ticket key x) 1 0 in
    let yes : is_it ticket key (ticket, key) ≡ true = ap (λ b. b && same_key key key) (same_self ticket) ∙ same_key-refl key in
    let here : ◌≡◌ {A = ℕ} (cond (is_it ticket key (ticket, key)) 1 0) 1 = ap (λ (b : Bool). cond {A = ℕ} b 1 0) yes in
    let tickets : live.tickets ≡ out log = history_out log live is in
    let there : 1 ≤ count_by (is_it ticket key) (out log) = omega (arith, here, some it) in
    key_of_it ticket key live.tickets (history_legal log live is).numbers_differ (subst (λ ts. 1 ≤ count_by (is_it ticket key) ts) (sym tickets) there)

-- ---- a call is noted

-- what the seat's token is while the keeper has the seat
pub lent : (book : ℕ) (old new : View) → IsSettled old → new ≡ without_book book old → (at book new ≡ nobody) × IsSettled new
lent book old new settled given = subst (λ v. (at book v ≡ nobody) × IsSettled v) (sym given) (at_put book nobody old, settled_put book nobody old refl settled)

longer_told : (log : List Call) → longer [] log ≡ log
longer_told [] = refl
longer_told (one ∷ log) = let is : nat_le (length (one ∷ log)) (length {A = Call} []) ≡ false = grind (arith, nat_tests) in ap (λ b. cond b [] (one ∷ log)) is

pub told_back : (number : ℕ) (log mine : List Call) → compared (joined nobody (spoken number log mine)) ≡ spoken number log mine
told_back number log mine = λ i. record { keeps = false; log = longer_told log i; told = []; held = []; callers = caller number mine ∷ [] }

pub record HasCalled (book number : ℕ) (event : Event) (reply : Reply) (log mine : List Call) (held : List Held) (after old new : View) : Type 0 where
  pub keeper : after ≡ only book (keeping_for (log ++ call number event reply ∷ []) (tickets_told event reply held) [])
  pub seat : new ≡ put book (spoken number (log ++ call number event reply ∷ []) (mine ++ call number event reply ∷ [])) old

pub calls : (book number : ℕ) (event : Event) (reply : Reply) (log mine : List Call) (held : List Held) (before noted after part old new : View) → before ≡ only book (keeping_for log held (caller number mine ∷ []))
    → noted ≡ put book (appended event reply (at book before)) before → after ≡ map without_callers noted → part ≡ map callers_alone noted → (at book old ≡ nobody) × IsSettled old → new ≡ map compared (paired joined old part)
    → HasCalled book number event reply log mine held after old new
calls book number event reply log mine held before noted after part old new is appends left given seat back =
    let c = call number event reply in
    let Q : Part = keeping_for log held (caller number mine ∷ []) in
    let R : Part = keeping_for (log ++ c ∷ []) (tickets_told event reply held) (caller number (mine ++ c ∷ []) ∷ []) in
    let here : at book before ≡ Q = ap (at book) is ∙ at_put book Q [] in
    let all : noted ≡ only book R = appends ∙ ((λ i. put book (appended event reply (here i)) (is i)) ∙ put_put book R Q []) in
    record {
      keeper = left ∙ (ap (map without_callers) all ∙ map_only without_callers refl book R);
      seat =
          let alone : part ≡ only book (spoken number (log ++ c ∷ []) (mine ++ c ∷ [])) = given ∙ (ap (map callers_alone) all ∙ map_only callers_alone refl book R) in
          back ∙ (ap (λ p. map compared (paired joined old p)) alone ∙ (join_back book old (spoken number (log ++ c ∷ []) (mine ++ c ∷ [])) seat.0 seat.1 ∙ ap (λ p. put book p old) (told_back number (log ++ c ∷ []) (mine ++ c ∷ []))));
    }

-- the keeper's token with a seat, as its own view says it
pub keeps_seat : (book number : ℕ) (log mine : List Call) (held : List Held) (view : View) → view ≡ only book (keeping_for log held (caller number mine ∷ []))
    → view ≡ only book (keeping_for (log_of book view) (at book view).held (caller (number_of book view) (mine_of book view) ∷ []))
keeps_seat book number log mine held view is =
    let here : at book view ≡ keeping_for log held (caller number mine ∷ []) = ap (at book) is ∙ at_put book (keeping_for log held (caller number mine ∷ [])) [] in
    is ∙ ap (λ (p : Part). only book (keeping_for p.log p.held (caller (caller_number p.callers) (mine_in p.callers) ∷ []))) (sym here)

-- what the call is noted to, and told, by what the keeper had
pub has_called_as : (book number : ℕ) (event : Event) (reply : Reply) (log mine : List Call) (held : List Held) (before after old new : View) → before ≡ only book (keeping_for log held (caller number mine ∷ []))
    → after ≡ only book (keeping_for (log_of book before ++ call (number_of book before) event reply ∷ []) (tickets_told event reply (at book before).held) [])
    → new ≡ put book (spoken (number_of book before) (log_of book before ++ call (number_of book before) event reply ∷ []) (mine_of book before ++ call (number_of book before) event reply ∷ [])) old
    → HasCalled book number event reply log mine held after old new
has_called_as book number event reply log mine held before after old new is keeper seat =
    let here : at book before ≡ keeping_for log held (caller number mine ∷ []) = ap (at book) is ∙ at_put book (keeping_for log held (caller number mine ∷ [])) [] in
    record {
      keeper = keeper ∙ ap (λ (p : Part). only book (keeping_for (p.log ++ call (caller_number p.callers) event reply ∷ []) (tickets_told event reply p.held) [])) here;
      seat = seat ∙ ap (λ (p : Part). put book (spoken (caller_number p.callers) (p.log ++ call (caller_number p.callers) event reply ∷ []) (mine_in p.callers ++ call (caller_number p.callers) event reply ∷ [])) old) here;
    }

-- ---- what is told of it

module _ (book : ℕ) (event : Event) (reply : Reply) (log : List Call) (old lent_by new : View) where
  abbrev number : ℕ
  number = number_of book old

  abbrev one : Call
  one = call number event reply

  abbrev mine : List Call
  mine = mine_of book old

  module _ (given : lent_by ≡ without_book book old) (called : new ≡ put book (spoken number (log ++ one ∷ []) (mine ++ one ∷ [])) lent_by) where
    pub seat_now : new ≡ put book (spoken number (log ++ one ∷ []) (mine ++ one ∷ [])) old
    seat_now = called ∙ (ap (put book (spoken number (log ++ one ∷ []) (mine ++ one ∷ []))) given ∙ put_put book (spoken number (log ++ one ∷ []) (mine ++ one ∷ [])) nobody old)

    part_now : at book new ≡ spoken number (log ++ one ∷ []) (mine ++ one ∷ [])
    part_now = ap (at book) seat_now ∙ at_put book (spoken number (log ++ one ∷ []) (mine ++ one ∷ [])) old

    pub log_now : log_of book new ≡ log ++ one ∷ []
    log_now = ap (λ (p : Part). p.log) part_now

    mine_now : mine_of book new ≡ mine ++ one ∷ []
    mine_now = ap (λ (p : Part). mine_in p.callers) part_now

    pub told_of : IsPrefix (log_of book old) log → AreTheirs log (caller number mine ∷ []) → HasAnswered log event reply → IsTold book event reply old new
    told_of seen theirs answered = record {
      between = seen.0;
      log = log_now ∙ ap (λ l. l ++ one ∷ []) (sym seen.1);
      mine = mine_now;
      theirs = ap (calls_by number) log_now ∙ (calls_own number event reply log ∙ (ap (λ l. l ++ one ∷ []) (sym theirs.0) ∙ sym mine_now));
      history = subst IsHistory (sym log_now) (answered.next, history_more log answered.live number event reply answered.next answered.history answered.answers);
      others = seat_now ∙ (λ i. put book (spoken number (sym log_now i) (sym mine_now i)) old);
    }

    pub seat_stays : IsSettled old → IsSeer book new × IsSettled new
    seat_stays settled = (
      part_now ∙ ap (λ (p : Part). spoken (caller_number p.callers) p.log (mine_in p.callers)) (sym part_now),
      subst IsSettled (sym seat_now) (settled_put book (spoken number (log ++ one ∷ []) (mine ++ one ∷ [])) old refl settled),
    )

-- ---- who may note a call

pub may_append : (part : Part) (by : ℕ) (event : Event) (reply : Reply) (log mine : List Call) (held : List Held) → part ≡ keeping_for log held (caller by mine ∷ []) → HasAnswered log event reply → Owns held event reply → MayAppend part event reply
may_append part by event reply log mine held is answered owns =
    subst (λ p. MayAppend p event reply) (sym is) (record {
      keeps = refl;
      live = answered.live;
      next = answered.next;
      history = answered.history;
      answers = answered.answers;
      owns = owns;
      mine = mine;
      caller = refl;
    })

pub owns_none : (event : Event) (reply : Reply) (held : List Held) → IsNoRelease event → Owns held event reply
owns_none (Release now ticket) reply held other = absurd other
owns_none (Look now ticket) reply held other = tt
owns_none (Count now ticket act) reply held other = tt
owns_none (Get now key) reply held other = tt
owns_none (Track now key) reply held other = tt
owns_none (Put now key pairs) reply held other = tt
owns_none (Clear now key) reply held other = tt
owns_none (ClearWhere now choice) reply held other = tt
owns_none (ListRows now choice) reply held other = tt
owns_none (Expire now) reply held other = tt

pub owns_it : (event : Event) (reply : Reply) (now : ℕ) (ticket : Ticket) (key : Key) → event ≡ Release now ticket → reply ≡ Released → Owns ((ticket, key) ∷ []) event reply
owns_it event reply now ticket key is released = subst (λ e. Owns ((ticket, key) ∷ []) e reply) (sym is) (subst (Owns ((ticket, key) ∷ []) (Release now ticket)) (sym released) (key, refl))

-- a release of what is out is answered that it is released
pub released_reply : (log : List Call) (event : Event) (reply : Reply) (now : ℕ) (ticket : Ticket) (key : Key) → event ≡ Release now ticket → HasAnswered log event reply → IsOut log ticket key → reply ≡ Released
released_reply log event reply now ticket key is answered there =
    answer_of now (subst (λ e. IsAnsweredFrom answered.live key e reply) is
    (reference-law answered.live event reply answered.next ticket key (history_legal log answered.live answered.history) answered.answers.step (ap ticket_of is) (there answered.live answered.history)))
  where
    answer_of : (now : ℕ) → IsAnsweredFrom answered.live key (Release now ticket) reply → reply ≡ Released
    answer_of now from = from.answered

-- the reference is gone then
pub given_back : (event : Event) (reply : Reply) (now : ℕ) (ticket : Ticket) (key : Key) → event ≡ Release now ticket → reply ≡ Released → tickets_told event reply ((ticket, key) ∷ []) ≡ []
given_back event reply now ticket key is released =
    (λ i. tickets_told (is i) (released i) ((ticket, key) ∷ [])) ∙ ap (λ b. cond (not b) ((ticket, key) ∷ []) []) (same_self ticket)

-- ---- what a keeper has of others

-- a keeper that has nothing of others
pub none_held : (book : ℕ) (view : View) → view ≡ only book (keeper (log_of book view)) → (at book view).held ≡ []
none_held book view is = ap (λ (v : View). (at book v).held) is ∙ ap (λ (p : Part). p.held) (at_put book (keeper (log_of book view)) [])

pub log_of_only : (book : ℕ) (view : View) (part : Part) → view ≡ only book part → log_of book view ≡ part.log
log_of_only book view part is = ap (log_of book) is ∙ ap (λ (p : Part). p.log) (at_put book part [])

pub parts_held : (book : ℕ) (log : List Call) (held : List Held) (view left given : View) → view ≡ only book (keeping_for log held []) → left ≡ map without_held view → given ≡ map held_alone view
    → (left ≡ only book (keeper log)) × (given ≡ only book (holder log held))
parts_held book log held view left given is left_is given_is = (
  left_is ∙ (ap (map without_held) is ∙ map_only without_held refl book (keeping_for log held [])),
  given_is ∙ (ap (map held_alone) is ∙ map_only held_alone refl book (keeping_for log held [])),
)

-- a keeper that has a reference, as its own view says it
pub keeps_held : (book : ℕ) (log : List Call) (held : List Held) (view : View) → view ≡ only book (keeping_for log held []) → view ≡ only book (keeping_for (log_of book view) (at book view).held [])
keeps_held book log held view is =
    is ∙ ap (λ (p : Part). only book (keeping_for p.log p.held [])) (sym (ap (at book) is ∙ at_put book (keeping_for log held []) []))

-- and then a seat
pub takes_seat : (book number : ℕ) (log mine : List Call) (held : List Held) (before after : View) → before ≡ only book (keeping_for log held [])
    → after ≡ only book (keeping_for (log_of book before) (at book before).held (caller number mine ∷ [])) → after ≡ only book (keeping_for log held (caller number mine ∷ []))
takes_seat book number log mine held before after is taken =
    taken ∙ ap (λ (p : Part). only book (keeping_for p.log p.held (caller number mine ∷ []))) (ap (at book) is ∙ at_put book (keeping_for log held []) [])

-- who keeps a record, and which it is
pub keeper_is : (book : ℕ) (view : View) (log : List Call) → view ≡ only book (keeper log) → IsKeeper book view × (log_of book view ≡ log)
keeper_is book view log is =
    let known : log_of book view ≡ log = log_of_only book view (keeper log) is in
    (is ∙ ap (λ l. only book (keeper l)) (sym known), known)

-- the keeper has one call more
pub keeper_more : (book : ℕ) (view : View) (was : KeeperState) (one : ℕ → Call) → record { book = book; log = log_of book view } ≡ was → (after : View) → after ≡ only book (keeper (log_of book view ++ one book ∷ []))
    → ◌≡◌ {A = KeeperState} (record { book = book; log = log_of book after }) (record { book = was.book; log = was.log ++ one was.book ∷ [] })
keeper_more book view was one is after noted =
    (λ i. record { book = book; log = (keeper_is book after (log_of book view ++ one book ∷ []) noted).1 i }) ∙ ap (λ (k : KeeperState). record { book = k.book; log = k.log ++ one k.book ∷ [] }) is
