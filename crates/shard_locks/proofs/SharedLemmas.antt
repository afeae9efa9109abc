-- What a seat knows of the record, and what comes of a call for it.
use Rattle.std.proofs.Common.{◌≡◌, ℕ, ◌+◌, ◌<◌, Bool, Result, Ok, Err, IfOk, OnOk, OnErr, List, [], ◌∷◌, ◌++◌, sym, ap, ◌∙◌, subst, arith}
use Rattle.std.proofs.lemmas.List.{map-append}
use Rattle.stick_model.specs.declared.specification.Spec.{Spec}
use Rattle.stick_model.specs.Key.{Key}
use Rattle.stick_model.specs.Laws.{tickets_told}
use Rattle.stick_model.specs.declared.rows.Ticket.{Ticket}
use Rattle.stick_model.specs.declared.events.Event.{Event}
use Rattle.stick_model.specs.declared.events.Event.TheVariants.{Get, Track, Look, Count, Release, Put, Clear, ClearWhere, List as ListRows, Expire}
use Rattle.stick_model.specs.declared.replies.Refusal.{Refusal}
use Rattle.stick_model.specs.declared.replies.Reply.{Reply}
use Rattle.stick_model.specs.declared.replies.Reply.TheVariants as replies
use Rattle.shard_record.specs.declared.view.Call.{Call}
use Rattle.shard_record.specs.declared.view.Part.{Part}
use Rattle.shard_record.specs.Calls.{IsHistory, call}
use Rattle.shard_record.specs.Dealing.{DealerState, SeesAll}
use Rattle.shard_record.specs.Parts.{holder}
use Rattle.shard_record.specs.Views.{View, at, only}
use Rattle.shard_record.specs.Telling.{IsNoRelease, IsReference, IsTold, KeeperState, key_in, ticket_at, ticket_in}
use Rattle.shard_record.proofs.DealingLemmas.{sees_more}
use Rattle.shard_record.proofs.Views.{at_put}
use Rattle.shard_book.specs.BookState.{BookState, opened}
use Rattle.shard_book.specs.Keeping.{MayAsk, part_of}
use Rattle.shard_book.specs.Kept.{IsMadeWith}
use Rattle.shard_book.specs.SeatState.{SeatState, fresh}
use Rattle.shard_locks.specs.Shared.{AreParts, HasMade, IsGiven, SharedSeatState, seats_of}
use Rattle.shard_locks.specs.ShardsState.{fresh_seats}
use Rattle.shard_locks.proofs.KeyLemmas.{knows_is, track_out}
use Rattle.shard_locks.proofs.ShardsLemmas.{fresh_seats_more}

-- who may be asked without a ticket is asked no release
pub no_release : (shards shard : ℕ) (event : Event) → MayAsk shards shard event → IsNoRelease event
no_release shards shard (Get now key) may = tt
no_release shards shard (Put now key pairs) may = tt
no_release shards shard (Clear now key) may = tt
no_release shards shard (ClearWhere now choice) may = tt
no_release shards shard (ListRows now choice) may = tt
no_release shards shard (Expire now) may = tt
no_release shards shard (Track now key) may = absurd may
no_release shards shard (Look now ticket) may = absurd may
no_release shards shard (Count now ticket act) may = absurd may
no_release shards shard (Release now ticket) may = absurd may

pub has_made : (book : ℕ) (event : Event) (reply : Reply) (old new : View) → IsTold book event reply old new → HasMade book event reply old new
has_made book event reply old new told = told.theirs ∙ told.mine

-- ---- references

-- a token that has one ticket of a book is that of a reference
pub reference_is : (book : ℕ) (log : List Call) (ticket : Ticket) (key : Key) (token : View) → token ≡ only book (holder log ((ticket, key) ∷ [])) → IsReference book token × (ticket ≡ ticket_at book token)
reference_is book log ticket key token is =
    let part : Part = holder log ((ticket, key) ∷ []) in
    let there : at book token ≡ part = ap (at book) is ∙ at_put book part [] in
    (is ∙ ap (λ (p : Part). only book (holder p.log ((ticket_in p.held, key_in p.held) ∷ []))) (sym there), ap (λ (p : Part). ticket_in p.held) (sym there))

-- what comes with the reply to a track
pub track_given : (book : ℕ) (log : List Call) (seat now : ℕ) (key : Key) (reply : Reply) (token : View) → IsHistory (log ++ call seat (Track now key) reply ∷ [])
    → token ≡ only book (holder (log ++ call seat (Track now key) reply ∷ []) (tickets_told (Track now key) reply [])) → IsGiven book reply token
track_given book log seat now key (replies.Tracked ticket row) token history is =
    let whole : List Call = log ++ call seat (Track now key) (replies.Tracked ticket row) ∷ [] in
    let reference = reference_is book whole ticket row.key token is in
    (reference.0, reference.1, knows_is book whole ticket row.key token is (track_out log seat now key ticket row history))
track_given book log seat now key replies.Absent token history is = tt
track_given book log seat now key (replies.Row row) token history is = tt
track_given book log seat now key replies.Full token history is = tt
track_given book log seat now key replies.NoRefs token history is = tt
track_given book log seat now key (replies.Value value) token history is = tt
track_given book log seat now key replies.Released token history is = tt
track_given book log seat now key _ token history is = tt

-- ---- what a table begins with

-- one seat more
pub seats_more : (n : ℕ) (keeps : Bool) (old new : List SharedSeatState) (seat : SeatState) (known : View) (shared : SharedSeatState) → seats_of old ≡ fresh_seats n keeps → seat ≡ fresh n keeps → shared ≡ record { seat = seat; known = known } → new ≡ old ++ shared ∷ []
    → seats_of new ≡ fresh_seats (n + 1) keeps
seats_more n keeps old new seat known shared were fresh_is is more =
    ap seats_of more ∙ (map-append (λ (s : SharedSeatState). s.seat) old (shared ∷ []) ∙ ((λ i. were i ++ (ap (λ (s : SharedSeatState). s.seat) is ∙ fresh_is) i ∷ []) ∙ sym (fresh_seats_more n keeps)))

-- the book of an empty table is that of one with its own specification
pub opened_is : (book : BookState) (spec : Spec) → book ≡ opened spec → book ≡ opened book.base.spec
opened_is book spec is = is ∙ ap (λ (b : BookState). opened b.base.spec) (sym is)

-- what a book was made with is what the record says of it
pub made_at : (specs : ℕ → Spec) (spec : Spec) (shards n : ℕ) (dealer now : DealerState) (part : Spec) (book : BookState) (keeper : KeeperState) → AreParts specs dealer.kept spec shards → n < shards → now ≡ record dealer { kept = dealer.kept + n }
    → part ≡ part_of spec shards n → book ≡ opened part → keeper ≡ record { book = now.kept; log = [] } → book.base.spec ≡ specs keeper.book
made_at specs spec shards n dealer now part book keeper are below dealt is opens keeps =
    ap (λ (b : BookState). b.base.spec) opens ∙ (is ∙ (sym (are.each n below) ∙ ap specs (sym (ap (λ (k : KeeperState). k.book) keeps ∙ ap (λ (d : DealerState). d.kept) dealt))))

-- as a seat knows its calls, they are of a table that was made so
pub made_seen : {X E : Type 0} (spec : Spec) (result : Result X E) (known log : List Call) → OnOk result (IsMadeWith spec log) → OnOk result (known ≡ log) → OnOk result (IsMadeWith spec known)
made_seen spec (Ok x) known log made seen = subst (IsMadeWith spec) (sym seen) made
made_seen spec (Err e) known log made seen = tt

-- ---- a seat that asked may call any book still

pub sees_asked : (books of : ℕ) (event : Event) (result : Result (Reply × View) Refusal) (old new : View) → SeesAll books old → IfOk result (λ told. IsTold of event told.0 old new) → OnErr result (new ≡ old) → SeesAll books new
sees_asked books of event (Ok told) old new sees is err = sees_more books of event told.0 old new sees is
sees_asked books of event (Err refusal) old new sees is err = subst (SeesAll books) (sym err) sees

pub sees_given : {E : Type 0} (books of : ℕ) (event : Event) (reply : Reply) (result : Result (Unit {0}) E) (old new : View) → SeesAll books old → OnOk result (IsTold of event reply old new) → OnErr result (new ≡ old) → SeesAll books new
sees_given books of event reply (Ok done) old new sees is err = sees_more books of event reply old new sees is
sees_given books of event reply (Err refused) old new sees is err = subst (SeesAll books) (sym err) sees

-- ---- what a table takes of a record

-- one seat more is dealt
pub seated_more : (dealer now later : DealerState) (n : ℕ) → now ≡ record dealer { seated = dealer.seated + n } → later ≡ record now { seated = now.seated + 1 } → later ≡ record dealer { seated = dealer.seated + (n + 1) }
seated_more dealer now later n is next =
    let sum : dealer.seated + n + 1 ≡ dealer.seated + (n + 1) = omega arith in
    next ∙ (ap (λ (d : DealerState). record d { seated = d.seated + 1 }) is ∙ ap (λ m. record dealer { seated = m }) sum)

-- a token that has one ticket of the book that lies under the lock
pub reference_at : (of book : ℕ) (log : List Call) (ticket : Ticket) (key : Key) (token : View) → of ≡ book → token ≡ only of (holder log ((ticket, key) ∷ [])) → IsReference book token × (ticket ≡ ticket_at book token)
reference_at of book log ticket key token same is = subst (λ n. IsReference n token × (ticket ≡ ticket_at n token)) same (reference_is of log ticket key token is)
