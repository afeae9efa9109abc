-- By a clock that stands, all that a connection has its seats call for is of one moment.
use Rattle.std.proofs.Common.{◌≡◌, ℕ, zero, suc, refl, sym, ap, subst, ◌∙◌, Bool, true, false, nat_eq, List, [], ◌∷◌, ◌++◌, append_assoc, slice_get, Option, Some, None}
use Rattle.std.specs.List.{AllByRecursion}
use Rattle.std.proofs.lemmas.List.{append-nil}
use Rattle.stick_model.specs.Limits.{moment_of}
use Rattle.stick_model.specs.declared.events.Event.{Event}
use Rattle.stick_model.specs.declared.events.Event.TheVariants as events
use Rattle.stick_model.specs.declared.replies.Reply.{Reply}
use Rattle.stick_model.specs.declared.rows.Ticket.{Ticket}
use Rattle.stick_model.proofs.TestLemmas.{eq-from}
use Rattle.shard_record.specs.declared.view.Call.{Call as Noted}
use Rattle.shard_record.specs.Calls.{call}
use Rattle.shard_record.specs.Telling.{IsTold, mine_of, number_of}
use Rattle.shard_book.specs.SeatState.{RefState}
use Rattle.shard_locks.specs.Ported.{seated_meaning}
use Rattle.shard_locks.specs.ShardsState.{SeatedState, ShardsState, book_of}
use Rattle.admit_core.specs.Conn.{Stands}
use Rattle.admit_core.specs.Connection.{Connection, need}
use Rattle.admit_core.specs.Held.{held_at}
use Rattle.admit_core.specs.declared.conn.Conn.{Conn}
use Rattle.admit_core.specs.declared.held.Held.{Held}
use Rattle.admit_core.specs.declared.need.Need.{Need}
use Rattle.admit_core.specs.declared.need.Need.TheVariants as needs
use Rattle.admit_port.specs.Calls.{AnswersAt, Call, IsAskedBy, IsAskedFor}
use Rattle.admit_port.specs.Moves.{Moves}
use Rattle.admit_port.specs.Visit.{Goes, GoesJudged, HasGoneJudged, HasRested, MovesOnce, Rests, Visit}
use Rattle.admit_port.specs.declared.moved.Moved.{Moved}
use Rattle.admit_port.specs.declared.moved.Moved.TheVariants.{Answered, Turned, Refused, Kept}
use Rattle.admit_port.specs.declared.moved.Rested.{Rested}
use Rattle.admit_port.specs.declared.moved.Rested.TheVariants.{Still, Kept as RestsKept}
use Rattle.tcp_relay.specs.Moments.{HasCalledAt, HaveCalledAt, mine_at}
use Rattle.tcp_relay.proofs.PassedSeats.{after_at, same_seat}
use Rattle.tcp_relay.proofs.PassedTold.{get_set_other, mine_other}

-- ---- what is asked is of the moment

asked_by : (now : ℕ) (event : Ticket → Event) → ((ticket : Ticket) → moment_of (event ticket) ≡ now) → (held : Option (ℕ × RefState)) (asked : Call) → IsAskedBy seated_meaning event held asked → moment_of asked.event ≡ now
asked_by now event of None asked is = absurd is
asked_by now event of (Some entry) asked is = ap (λ (c : Call). moment_of c.event) is ∙ of (seated_meaning.ticket_of entry.1)

asked_at : (shards now : ℕ) (held : Held RefState) (wanted : Need) (asked : Call) → IsAskedFor seated_meaning shards now held wanted asked → moment_of asked.event ≡ now
asked_at shards now held (needs.Get table key) asked is = ap (λ (c : Call). moment_of c.event) is
asked_at shards now held (needs.Track slot table key) asked is = ap (λ (c : Call). moment_of c.event) is
asked_at shards now held (needs.Look slot) asked is = asked_by now (λ ticket. events.Look now ticket) (λ ticket. refl) (held_at held slot) asked is
asked_at shards now held (needs.Count slot act) asked is = asked_by now (λ ticket. events.Count now ticket act) (λ ticket. refl) (held_at held slot) asked is
asked_at shards now held (needs.Release slot) asked is = asked_by now (λ ticket. events.Release now ticket) (λ ticket. refl) (held_at held slot) asked is
asked_at shards now held needs.Turn asked is = absurd is
asked_at shards now held needs.Rest asked is = absurd is
asked_at shards now held needs.Finished asked is = absurd is

-- ---- as a seat calls

all_more : {X : Type 0} (P : X → Type 0) (xs : List X) (x : X) → AllByRecursion P xs → P x → AllByRecursion P (xs ++ x ∷ [])
all_more P [] x all is = (is, tt)
all_more P (y ∷ xs) x all is = (all.0, all_more P xs x all.1 is)

-- a clock that stands
abbrev pub stands_still : ℕ → ℕ → ℕ → Type 0
stands_still old now new = (now ≡ old) × (new ≡ old)

module _ (start : List SeatedState) (moment : ℕ) where
  -- a seat of a table was one at the start, and has called at the moment since
  abbrev HasBeen : ℕ → ℕ → SeatedState → Type 0
  HasBeen table part one = (was : SeatedState) × (slice_get start table ≡ Some was) × HasCalledAt moment was one part

  module _ (old new : List SeatedState) (asked : Call) (reply : Reply) (by : AnswersAt seated_meaning old asked reply new) (is : moment_of asked.event ≡ moment) where
    abbrev of : ℕ
    of = book_of by.before.table asked.shard

    told : IsTold of asked.event reply by.before.known by.after.known
    told = by.answers.recorded

    mine_is : (part : ℕ) → mine_at by.after part ≡ mine_of (book_of by.before.table part) by.after.known
    mine_is part = ap (λ (t : ShardsState). mine_of (book_of t part) by.after.known) by.answers.table

    later : (was : SeatedState) (part : ℕ) → HasCalledAt moment was by.before part → HasCalledAt moment was by.after part
    later was part had = cases (nat_eq (book_of by.before.table part) of) refl
      where
        one : Noted
        one = call (number_of of by.before.known) asked.event reply

        own : book_of by.before.table part ≡ of → HasCalledAt moment was by.after part
        own same = record {
          calls = had.calls ++ one ∷ [];
          mine =
              mine_is part ∙ ap (λ b. mine_of b by.after.known) same ∙ told.mine ∙ ap (λ b. mine_of b by.before.known ++ one ∷ []) (sym same)
              ∙ ap (λ l. l ++ one ∷ []) had.mine ∙ append_assoc (mine_at was part) had.calls (one ∷ []);
          now_all = all_more (λ (c : Noted). moment_of c.event ≡ moment) had.calls one had.now_all is;
        }

        cases : (b : Bool) → nat_eq (book_of by.before.table part) of ≡ b → HasCalledAt moment was by.after part
        cases true same = own (eq-from (book_of by.before.table part) of same)
        cases false apart = record {
          calls = had.calls;
          mine = mine_is part ∙ mine_other of asked.event reply by.before.known by.after.known told (book_of by.before.table part) apart ∙ had.mine;
          now_all = had.now_all;
        }

    called_told : HaveCalledAt moment start old → HaveCalledAt moment start new
    called_told had table seat at part = cases (nat_eq table asked.table) refl
      where
        own : table ≡ asked.table → HasBeen table part seat
        own same =
            let it : seat ≡ by.after = same_seat seat by.after (sym at ∙ ap (slice_get new) same ∙ after_at old new asked reply by) in
            let had_it = had table by.before (ap (slice_get old) same ∙ by.at) part in
            subst (HasBeen table part) (sym it) (had_it.0, had_it.1, later had_it.0 part had_it.2)

        cases : (b : Bool) → nat_eq table asked.table ≡ b → HasBeen table part seat
        cases true same = own (eq-from table asked.table same)
        cases false apart = had table seat (sym (ap (λ seats. slice_get seats table) by.others ∙ get_set_other old asked.table table by.after apart) ∙ at) part

  pub moves_at : (now : ℕ) (old new : List SeatedState) (connection after : Connection RefState) (moved : Moved) → now ≡ moment → Moves seated_meaning now old connection new after moved → HaveCalledAt moment start old → HaveCalledAt moment start new
  moves_at now old new connection after Answered is moves had =
      called_told old new moves.0 moves.1 moves.3 (asked_at connection.setup.shards now connection.progress.held (need connection) moves.0 moves.2 ∙ is) had
  moves_at now old new connection after Turned is moves had = subst (HaveCalledAt moment start) (sym moves.1) had
  moves_at now old new connection after Refused is moves had = subst (HaveCalledAt moment start) (sym moves.2) had
  moves_at now old new connection after Kept is moves had = subst (HaveCalledAt moment start) (sym moves.3) had

  -- how far a visit is: its seats have called at the moment, which its clock shows
  abbrev IsAt : Visit SeatedState RefState ℕ → Type 0
  IsAt visit = HaveCalledAt moment start visit.ports × (visit.clock ≡ moment)

  moved_at : (old new : Visit SeatedState RefState ℕ) (moved : Moved) → MovesOnce seated_meaning stands_still old new moved → IsAt old → IsAt new
  moved_at old new moved once had = (moves_at once.0 old.ports new.ports old.connection new.connection moved (once.1.0 ∙ had.1) once.3 had.0, once.1.1 ∙ had.1)

  judged_at : (count : ℕ) (old new : Visit SeatedState RefState ℕ) → GoesJudged seated_meaning stands_still count old new → IsAt old → IsAt new
  judged_at zero old new goes had = subst IsAt (sym goes) had
  judged_at (suc count) old new goes had = judged_at count goes.1 new goes.5 (moved_at old goes.1 goes.2 goes.4 had)

  goes_at : (count : ℕ) (old new : Visit SeatedState RefState ℕ) → Goes seated_meaning stands_still count old new → IsAt old → IsAt new
  goes_at zero old new goes had = subst IsAt (sym goes) had
  goes_at (suc count) old new goes had = goes_at count goes.0 new goes.3 (moved_at old goes.0 goes.1 goes.2 had)

  rests_at : (old new : Visit SeatedState RefState ℕ) (rested : Rested) → Rests seated_meaning stands_still old new rested → IsAt old → IsAt new
  rests_at old new Still rests had = subst IsAt (sym rests.still.0) (goes_at rests.count old rests.last rests.goes had)
  rests_at old new RestsKept rests had = moved_at rests.last new Kept rests.still (goes_at rests.count old rests.last rests.goes had)

-- nobody has called yet
pub none_called : (moment : ℕ) (seats : List SeatedState) → HaveCalledAt moment seats seats
none_called moment seats table seat at part = (seat, at, record { calls = []; mine = sym (append-nil (mine_at seat part)); now_all = tt })

-- whatever connection it was, as it was judged, and as it came to rest
pub judged_called : (old new : List SeatedState) (conn after : Conn RefState) (moment shown : ℕ) (connection : Connection RefState) → Stands conn connection → HasGoneJudged seated_meaning stands_still old conn moment new after shown → HaveCalledAt moment old new
judged_called old new conn after moment shown connection stands gone =
    let visit = gone connection stands in
    (judged_at old moment visit.2.0 (record { ports = old; connection = connection; clock = moment }) (record { ports = new; connection = visit.0; clock = shown }) visit.2.1 (none_called moment old, refl)).0

pub rested_called : (old new : List SeatedState) (conn after : Conn RefState) (moment shown : ℕ) (rested : Rested) (connection : Connection RefState) → Stands conn connection → HasRested seated_meaning stands_still old conn moment new after shown rested → HaveCalledAt moment old new
rested_called old new conn after moment shown rested connection stands gone =
    let visit = gone connection stands in
    (rests_at old moment (record { ports = old; connection = connection; clock = moment }) (record { ports = new; connection = visit.0; clock = shown }) rested visit.2 (none_called moment old, refl)).0
