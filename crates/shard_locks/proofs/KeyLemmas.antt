-- What a reference's token knows of its key.
use Rattle.std.proofs.Common.{◌≡◌, ℕ, ◌≤◌, sym, ap, subst, ◌∙◌, arith, List, [], ◌∷◌, ◌++◌, map, sum_by}
use Rattle.std.proofs.lemmas.List.Sums.{sum_by-append}
use mathlib.Core.List.{IsPrefix}
use Rattle.stick_model.specs.Key.{Key}
use Rattle.stick_model.specs.State.{key_of}
use Rattle.stick_model.specs.declared.rows.Row.{Row}
use Rattle.stick_model.specs.declared.rows.Ticket.{Ticket}
use Rattle.stick_model.specs.declared.events.Event.TheVariants.{Track}
use Rattle.stick_model.specs.declared.replies.Reply.TheVariants.{Tracked}
use Rattle.shard_record.specs.declared.view.Call.{Call}
use Rattle.shard_record.specs.declared.view.Part.{Part}
use Rattle.shard_record.specs.Calls.{Held, IsHistory, call, out}
use Rattle.shard_record.specs.Parts.{compared, holder, joined, longer}
use Rattle.shard_record.specs.Views.{AreCompared, View, at, keeper_alone, keeping, not_keeping, only, paired, put, without_keeper}
use Rattle.shard_record.specs.Telling.{IsOut, IsReference, key_at, key_in, log_of, ticket_at, ticket_in}
use Rattle.shard_record.proofs.Beginnings.{begins_itself, begins_further}
use Rattle.shard_record.proofs.Records.{history_out, out_more}
use Rattle.shard_record.proofs.TellingLemmas.{held_out, joins_only}
use Rattle.shard_record.proofs.Views.{at_put, put_put}
use Rattle.shard_locks.specs.Shared.{KnowsKey, WasOut}

pub was_later : (log later : List Call) (ticket : Ticket) (key : Key) → IsPrefix log later → WasOut log ticket key → WasOut later ticket key
was_later log later ticket key begins was = (was.0, begins_further was.0 log later was.1 begins, was.2)

-- the ticket that a track is told is out behind it, by the key of its row
pub track_out : (log : List Call) (seat now : ℕ) (key : Key) (ticket : Ticket) (row : Row) → IsHistory (log ++ call seat (Track now key) (Tracked ticket row) ∷ []) → WasOut (log ++ call seat (Track now key) (Tracked ticket row) ∷ []) ticket row.key
track_out log seat now key ticket row is =
    let whole : List Call = log ++ call seat (Track now key) (Tracked ticket row) ∷ [] in
    let all : out whole ≡ out log ++ (ticket, row.key) ∷ [] = out_more [] log (call seat (Track now key) (Tracked ticket row)) in
    let here : IsOut whole ticket row.key = held_out whole ticket row.key (λ h. subst (λ hs. sum_by h ((ticket, row.key) ∷ []) ≤ sum_by h hs) (sym all) (last h (out log) (ticket, row.key))) in
    (whole, begins_itself whole, ap (key_of ticket) (sym (history_out whole is.0 is.1)) ∙ here is.0 is.1)
  where
    last : (h : Held → ℕ) (hs : List Held) (one : Held) → sum_by h (one ∷ []) ≤ sum_by h (hs ++ one ∷ [])
    last h hs one = omega (arith, sum_by-append h hs (one ∷ []))

-- a token that has one ticket of a book is that of a reference, which knows its key where the calls tell it
pub knows_is : (book : ℕ) (log : List Call) (ticket : Ticket) (key : Key) (token : View) → token ≡ only book (holder log ((ticket, key) ∷ [])) → WasOut log ticket key → KnowsKey book token
knows_is book log ticket key token is was =
    let part : Part = holder log ((ticket, key) ∷ []) in
    let there : at book token ≡ part = ap (at book) is ∙ at_put book part [] in
    subst (λ (p : Part). WasOut p.log (ticket_in p.held) (key_in p.held)) (sym there) was

-- ---- a reference stays while what it knows goes to another token

pub still_reference : (book : ℕ) (token new : View) → IsReference book token → new ≡ without_keeper book token → new ≡ token
still_reference book token new is split =
    let part : Part = holder (log_of book token) ((ticket_at book token, key_at book token) ∷ []) in
    let there : at book token ≡ part = ap (at book) is ∙ at_put book part [] in
    split ∙ (ap (λ (p : Part). put book (not_keeping p) token) there ∙ (ap (put book part) is ∙ (put_put book part part [] ∙ sym is)))

pub known_alone : (book : ℕ) (token known : View) → IsReference book token → known ≡ keeper_alone book token → known ≡ only book (holder (log_of book token) [])
known_alone book token known is split =
    let part : Part = holder (log_of book token) ((ticket_at book token, key_at book token) ∷ []) in
    let there : at book token ≡ part = ap (at book) is ∙ at_put book part [] in
    split ∙ ap (λ (p : Part). only book (keeping p)) there

-- what comes back where a release is refused, and is joined by what the reference knew
pub record HasComeBack (book : ℕ) (ticket : Ticket) (token : View) : Type 0 where
  pub reference : IsReference book token
  pub ticket_is : ticket ≡ ticket_at book token
  pub known : KnowsKey book token

pub comes_back : (book : ℕ) (log : List Call) (ticket : Ticket) (reference back known new : View) → IsReference book reference → ticket ≡ ticket_at book reference → KnowsKey book reference
    → back ≡ only book (holder log ((ticket, key_at book reference) ∷ [])) → known ≡ only book (holder (log_of book reference) [])
    → new ≡ map compared (paired joined back known) → AreCompared (paired joined back known) new → HasComeBack book ticket new
comes_back book log ticket reference back known new is same knows came alone both told =
    let old : List Call = log_of book reference in
    let key : Key = key_at book reference in
    let has = joins_only book back known new (holder log ((ticket, key) ∷ [])) (holder old []) came alone both told in
    let part : Part = holder (longer log old) ((ticket, key) ∷ []) in
    let there : at book new ≡ part = ap (at book) has.view ∙ at_put book part [] in
    let was : WasOut old ticket key = subst (λ t. WasOut old t key) (sym same) knows in
    record {
      reference = has.view ∙ ap (λ (p : Part). only book (holder p.log ((ticket_in p.held, key_in p.held) ∷ []))) (sym there);
      ticket_is = ap (λ (p : Part). ticket_in p.held) (sym there);
      known = knows_is book (longer log old) ticket key new has.view (was_later old (longer log old) ticket key has.told.told was);
    }
