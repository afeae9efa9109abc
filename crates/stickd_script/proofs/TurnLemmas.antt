-- What the shards of a table reply to a command, and what is shown of it, where none refuses: one thing, whatever slots their references have.
use Rattle.std.proofs.Common.{◌≡◌, ℕ, zero, suc, refl, sym, ap, ◌∙◌, true, List, [], ◌∷◌, map, slice_get, None}
use Rattle.std.specs.Prelude.{option_map, slice_set}
use Rattle.std.proofs.lemmas.Option.{slice_get-map}
use Rattle.stick_model.specs.State.{State}
use Rattle.stick_model.specs.declared.events.Event.{Event}
use Rattle.stick_model.specs.declared.replies.Reply.{Reply}
use Rattle.stick_model.specs.declared.replies.Reply.TheVariants.{Rows}
use Rattle.shard_book.specs.BookState.{BookState}
use Rattle.shard_book.specs.BooksState.{BooksState, ExtendsAt}
use Rattle.table_cli.specs.Shards.{AsksInTurn}
use Rattle.shard_book.specs.Total.{IsShown}
use Rattle.admit_drive.proofs.SumLemmas.{some_same}
use Rattle.admit_drive.proofs.PlainLemmas.{plain}
use Rattle.stickd_script.specs.Script.{answering, refusing}
use Rattle.stickd_script.proofs.ApartLemmas.{Strict}
use Rattle.stickd_script.proofs.OrderLemmas.{one_order}
use Rattle.stickd_script.proofs.PlainCommandLemmas.{IsSame, command_once, is_commanded}

pub map_set : {X Y : Type 0} (f : X → Y) (xs : List X) (i : ℕ) (x : X) → map f (slice_set xs i x) ≡ slice_set (map f xs) i (f x)
map_set f [] i x = refl
map_set f (y ∷ ys) zero x = refl
map_set f (y ∷ ys) (suc i) x = ap (λ rest. f y ∷ rest) (map_set f ys i x)

-- the shards without slots
abbrev pub plain_book : BookState → State
plain_book book = plain book.live

abbrev pub plains : BooksState → List State
plains table = map plain_book table.books

pub record HaveReplied (one other : List Reply) (new later : BooksState) : Type 0 where
  pub replies : one ≡ other
  pub shards : plains new ≡ plains later

record HasReplied (one other : Reply) (new later : BooksState) : Type 0 where
  pub reply : one ≡ other
  pub shards : plains new ≡ plains later

extended_once : (event : Event) (i : ℕ) (old again : BooksState) (one other : Reply) (new later : BooksState) → is_commanded event ≡ true → plains old ≡ plains again → ExtendsAt old i 0 event one new → ExtendsAt again i 0 event other later
    → HasReplied one other new later
extended_once event i old again one other new later commanded same a b =
    let live : plain_book a.before ≡ plain_book b.before =
    some_same (plain_book a.before) (plain_book b.before)
    (ap (option_map plain_book) (sym a.at) ∙ sym (slice_get-map plain_book old.books i) ∙ ap (λ states. slice_get states i) same ∙ slice_get-map plain_book again.books i ∙ ap (option_map plain_book) b.at) in
    let made : IsSame one other a.after.live b.after.live = command_once a.before.live b.before.live event one other a.after.live b.after.live commanded live a.extends.step b.extends.step in
    record {
      reply = made.reply;
      shards = ap plains a.others ∙ map_set plain_book old.books i a.after ∙ (λ k. slice_set (same k) i (made.state k)) ∙ sym (map_set plain_book again.books i b.after) ∙ sym (ap plains b.others);
    }

pub turn_once : (event : Event) (shards : List ℕ) (old again : BooksState) (one other : List Reply) (new later : BooksState) → is_commanded event ≡ true → plains old ≡ plains again
    → AsksInTurn answering refusing event shards old one None new → AsksInTurn answering refusing event shards again other None later → HaveReplied one other new later
turn_once event [] old again [] [] new later commanded same a b = record { replies = refl; shards = ap plains a ∙ same ∙ sym (ap plains b) }
turn_once event [] old again (reply ∷ replies) other new later commanded same a b = absurd a
turn_once event [] old again [] (reply ∷ replies) new later commanded same a b = absurd b
turn_once event (i ∷ shards) old again [] other new later commanded same a b = absurd a
turn_once event (i ∷ shards) old again (reply ∷ replies) [] new later commanded same a b = absurd b
turn_once event (i ∷ shards) old again (reply ∷ replies) (answer ∷ answers) new later commanded same a b =
    let first = extended_once event i old again reply answer a.0 b.0 commanded same a.1.0 b.1.0 in
    let rest = turn_once event shards a.0 b.0 replies answers new later commanded first.shards a.2 b.2 in
    record { replies = (λ k. first.reply k ∷ rest.replies k); shards = rest.shards }

pub shown_once : (reply one other : Reply) → IsShown reply one → IsShown reply other → Strict one → Strict other → one ≡ other
shown_once (Rows used rows) (Rows count ordered) (Rows number others) a b apart too =
    let order : ordered ≡ others = one_order rows ordered others a.1.same b.1.same apart too in
    (λ k. Rows ((a.0 ∙ sym b.0) k) (order k))
shown_once (Rows used rows) (Rows count ordered) other a b apart too = cc
shown_once (Rows used rows) one other a b apart too = cc
shown_once reply one other a b apart too = a ∙ sym b
