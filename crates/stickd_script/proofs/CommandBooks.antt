-- Commands leave each shard its book.
use Rattle.std.proofs.Common.{◌≡◌, ℕ, zero, suc, sym, subst, Option, Some, None, Result, Ok, Err, List, [], ◌∷◌, length, inl, inr}
use Rattle.std.specs.Prelude.{slice_index_or, slice_set}
use Rattle.std.specs.List.{AllByRecursion, range_with_len}
use Rattle.base_lines.specs.Chain.{Chain}
use Rattle.stick_model.specs.declared.events.Event.{Event}
use Rattle.stick_model.specs.declared.events.Event.TheVariants.{List as ListRows}
use Rattle.stick_model.specs.declared.filters.Filter.TheVariants as filters
use Rattle.stick_model.specs.declared.replies.Reply.{Reply}
use Rattle.shard_book.specs.BooksState.{AreBooks, BooksState}
use Rattle.table_texts.specs.Form.{Form, Request, Nothing, Unknown, Tables, Of, form_of}
use Rattle.table_texts.specs.Seen.{words_of}
use Rattle.table_texts.specs.declared.message.Message.{Message}
use Rattle.table_cli.specs.Answers.{Answers, AsksOf, Does, HeadAt, AnswersForm as SaysForm, ShowsTables, place_of}
use Rattle.table_cli.specs.Shards.{AsksInTurn, shards_of}
use Rattle.table_cli.specs.States.{CommandState}
use Rattle.admit_drive.specs.Tables.{TableState}
use Rattle.stickd_script.specs.Script.{answering, refusing, standing}

abbrev pub HasBooks : TableState → Type 0
HasBooks table = AreBooks table.state

-- one table goes on
pub set_books : (old : List TableState) (place : ℕ) (table : TableState) (state : BooksState) → table ≡ slice_index_or old place table → (AreBooks table.state → AreBooks state) → AllByRecursion HasBooks old
    → AllByRecursion HasBooks (slice_set old place (record table { state = state }))
set_books [] place table state at goes all = tt
set_books (first ∷ rest) zero table state at goes all = (goes (subst HasBooks (sym at) all.0), all.1)
set_books (first ∷ rest) (suc place) table state at goes all = (all.0, set_books rest place table state at goes all.1)

pub turn_books : (event : Event) (shards : List ℕ) (old : BooksState) (replies : List Reply) (end : Option Message) (new : BooksState) → AsksInTurn answering refusing event shards old replies end new → AreBooks old → AreBooks new
turn_books event [] old [] None new asks are = subst AreBooks (sym asks) are
turn_books event [] old [] (Some message) new asks are = subst AreBooks (sym asks.2) are
turn_books event [] old (reply ∷ replies) end new asks are = absurd asks
turn_books event (i ∷ shards) old [] None new asks are = absurd asks
turn_books event (i ∷ shards) old [] (Some message) new asks are = subst AreBooks (sym asks.1) are
turn_books event (i ∷ shards) old (reply ∷ replies) end new asks are = turn_books event shards asks.0 replies end new asks.2 asks.1.1

does_books : (table : TableState) (asked : Result Event Message) (text : List ℕ) (state : BooksState) → Does answering refusing table asked text state → AreBooks table.state → AreBooks state
does_books table (Ok event) text state does are = turn_books event (shards_of table.shards event) table.state does.0 does.1 state does.2 are
does_books table (Err message) text state does are = subst AreBooks (sym does.1) are

asks_of_books : (moment : ℕ) (request : Request) (place : Option ℕ) (old : List TableState) (text : List ℕ) (new : List TableState) → AsksOf answering refusing moment request place old text new → AllByRecursion HasBooks old
    → AllByRecursion HasBooks new
asks_of_books moment request None old text new asks all = subst (AllByRecursion HasBooks) (sym asks.1) all
asks_of_books moment request (Some place) old text new asks all =
    subst (AllByRecursion HasBooks) (sym asks.6) (set_books old place asks.0 asks.1 asks.3 (does_books asks.0 asks.2 text asks.1 asks.5) all)

head_books : (moment : ℕ) (old : List TableState) (place : ℕ) (head : Result (List ℕ) Message) (new : List TableState) → HeadAt answering refusing moment old place head new → AllByRecursion HasBooks old → AllByRecursion HasBooks new
head_books moment old place head new at all =
    subst (AllByRecursion HasBooks) (sym at.7)
    (set_books old place at.0 at.1 at.4 (turn_books (ListRows moment filters.Nothing) (range_with_len 0 at.0.shards) at.0.state at.2 at.3 at.1 at.5) all)

heads_books : (moment : ℕ) (places : List ℕ) (old : List TableState) (text : List ℕ) (new : List TableState) → Chain (λ state place text next. HeadAt answering refusing moment state place (Ok text) next) old places text new
    → AllByRecursion HasBooks old → AllByRecursion HasBooks new
heads_books moment [] old text new chain all = subst (AllByRecursion HasBooks) (sym chain.1) all
heads_books moment (place ∷ places) old text new chain all = heads_books moment places chain.1 chain.2 new chain.4 (head_books moment old place (Ok chain.0) chain.1 chain.3 all)

shows_books : (moment : ℕ) (old : List TableState) (text : List ℕ) (new : List TableState) → ShowsTables answering refusing moment old text new → AllByRecursion HasBooks old → AllByRecursion HasBooks new
shows_books moment old text new shows all = elim shows [
  | inl heads ↦ heads_books moment (range_with_len 0 (length old)) old heads.0 new heads.1 all
  | inr ended ↦ head_books moment ended.2 ended.0 (Err ended.3) new ended.6 (heads_books moment (range_with_len 0 ended.0) old ended.1 ended.2 ended.5 all)
]

form_books : (moment : ℕ) (form : Form) (old : List TableState) (text : List ℕ) (new : List TableState) → SaysForm answering refusing moment form old text new → AllByRecursion HasBooks old → AllByRecursion HasBooks new
form_books moment Nothing old text new says all = subst (AllByRecursion HasBooks) (sym says.1) all
form_books moment Unknown old text new says all = subst (AllByRecursion HasBooks) (sym says.1) all
form_books moment Tables old text new says all = shows_books moment old text new says all
form_books moment (Of name request) old text new says all = asks_of_books moment request (place_of name old) old text new says all

-- several commands, at whatever moments
pub commands_leave_books : (commands : List (List ℕ)) (old : CommandState BooksState ℕ) (text : List ℕ) (new : CommandState BooksState ℕ) → AllByRecursion HasBooks old.tables
    → Chain (Answers answering refusing standing) old commands text new → AllByRecursion HasBooks new.tables
commands_leave_books [] old text new all chain = subst (λ (s : CommandState BooksState ℕ). AllByRecursion HasBooks s.tables) (sym chain.1) all
commands_leave_books (command ∷ commands) old text new all chain =
    commands_leave_books commands chain.1 chain.2 new (form_books chain.3.0 (form_of (words_of command)) old.tables chain.0 chain.1.tables chain.3.2 all) chain.4
