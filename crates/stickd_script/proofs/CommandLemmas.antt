-- Commands leave each table what it was made with, its shards, and the references that they have out.
use Rattle.std.proofs.Common.{◌≡◌, ℕ, zero, suc, refl, sym, ap, ◌∙◌, Option, Some, None, option_map, Result, Ok, Err, List, [], ◌∷◌, map, length, slice_get, inl, inr}
use Rattle.std.specs.List.{range_with_len}
use Rattle.std.specs.Option.{option_and_then, option_map_or}
use Rattle.std.proofs.Math.Seq.{map-set_same}
use Rattle.std.proofs.lemmas.Option.{slice_get-map}
use Rattle.base_lines.specs.Chain.{Chain}
use Rattle.stick_model.specs.Key.{Key}
use Rattle.stick_model.specs.declared.specification.Spec.{Spec}
use Rattle.stick_model.specs.declared.events.Event.{Event}
use Rattle.stick_model.specs.declared.events.Event.TheVariants.{List as ListRows}
use Rattle.stick_model.specs.declared.filters.Filter.TheVariants as filters
use Rattle.stick_model.specs.declared.replies.Reply.{Reply}
use Rattle.stick_model.specs.declared.rows.Ticket.{Ticket}
use Rattle.shard_book.specs.BookState.{BookState}
use Rattle.shard_book.specs.BooksState.{BooksState, ExtendsAt}
use Rattle.table_texts.specs.Form.{Form, Request, Nothing, Unknown, Tables, Of, form_of}
use Rattle.table_texts.specs.Seen.{words_of}
use Rattle.table_texts.specs.declared.message.Message.{Message}
use Rattle.table_cli.specs.Answers.{Answers, AsksOf, Does, HeadAt, AnswersForm as SaysForm, ShowsTables, place_of}
use Rattle.table_cli.specs.Shards.{AsksInTurn, shards_of}
use Rattle.table_cli.specs.States.{CommandState}
use Rattle.admit_drive.specs.Balance.{times_of, times_out}
use Rattle.admit_drive.specs.Tables.{TableState, shard_of}
use Rattle.shard_port.specs.declared.reference.Reference.{Reference}
use Rattle.admit_drive.proofs.TicketLemmas.{times}
use Rattle.stickd_script.specs.Script.{answering, refusing, standing}
use Rattle.stickd_script.proofs.RollLemmas.{map_rolled, part_rolled}
use Rattle.stickd_script.proofs.EventLemmas.{LeavesReferences, asks_leaves, step_keeps}

-- ---- what stays

abbrev pub tickets_in : BookState → List (Ticket × Key)
tickets_in book = book.live.tickets

-- what a table in shards was made with, and what each shard has out
abbrev pub kept_of : BooksState → Spec × List (List (Ticket × Key))
kept_of state = (state.spec, map tickets_in state.books)

abbrev pub kept_in : TableState → Spec × List (List (Ticket × Key))
kept_in table = kept_of table.state

pub roll_keeps : (count : ℕ) (table : TableState) → kept_in (part_rolled count table) ≡ kept_in table
roll_keeps count table = ap (λ tickets. (table.state.spec, tickets)) (map_rolled tickets_in (λ book. refl) count table.state.books)

-- ---- one event of one shard, and of several in turn

extends_keeps : (old : BooksState) (i : ℕ) (event : Event) (reply : Reply) (new : BooksState) → LeavesReferences event → ExtendsAt old i 0 event reply new → kept_of new ≡ kept_of old
extends_keeps old i event reply new leaves extends =
    let before : BookState = extends.before in
    let after : BookState = extends.after in
    let same : after.live.tickets ≡ before.live.tickets = step_keeps before.live event reply after.live leaves extends.extends.step in
    ap kept_of extends.others ∙ ap (λ ts. (old.spec, ts)) (set_keeps old.books i before after extends.at same)
  where
    set_keeps : (books : List BookState) (i : ℕ) (before after : BookState) → slice_get books i ≡ Some before → after.live.tickets ≡ before.live.tickets → map tickets_in (Rattle.std.specs.Prelude.slice_set books i after) ≡ map tickets_in books
    set_keeps [] i before after at same = refl
    set_keeps (book ∷ books) zero before after at same =
        let here : book ≡ before = cc in
        ap (λ t. t ∷ map tickets_in books) (same ∙ sym (ap tickets_in here))
    set_keeps (book ∷ books) (suc i) before after at same = ap (λ ts. tickets_in book ∷ ts) (set_keeps books i before after at same)

pub turn_keeps : (event : Event) (shards : List ℕ) (old : BooksState) (replies : List Reply) (end : Option Message) (new : BooksState) → LeavesReferences event
    → AsksInTurn answering refusing event shards old replies end new → kept_of new ≡ kept_of old
turn_keeps event [] old [] None new leaves asks = ap kept_of asks
turn_keeps event [] old [] (Some message) new leaves asks = ap kept_of asks.2
turn_keeps event [] old (reply ∷ replies) end new leaves asks = absurd asks
turn_keeps event (i ∷ shards) old [] None new leaves asks = absurd asks
turn_keeps event (i ∷ shards) old [] (Some message) new leaves asks = ap kept_of asks.1
turn_keeps event (i ∷ shards) old (reply ∷ replies) end new leaves asks =
    turn_keeps event shards asks.0 replies end new leaves asks.2 ∙ extends_keeps old i event reply asks.0 leaves asks.1.0

-- ---- a command

does_keep : (moment : ℕ) (request : Request) (table : TableState) (asked : Result Event Message) (text : List ℕ) (state : BooksState)
    → Rattle.table_texts.specs.Request.Asks table.spec.kind moment request asked → Does answering refusing table asked text state → kept_of state ≡ kept_in table
does_keep moment request table (Ok event) text state asks does =
    turn_keeps event (shards_of table.shards event) table.state does.0 does.1 state (asks_leaves table.spec.kind moment request event asks) does.2
does_keep moment request table (Err message) text state asks does = ap kept_of does.1

asks_of_keeps : (moment : ℕ) (request : Request) (place : Option ℕ) (old : List TableState) (text : List ℕ) (new : List TableState) → AsksOf answering refusing moment request place old text new → map kept_in new ≡ map kept_in old
asks_of_keeps moment request None old text new asks = ap (λ ts. map kept_in ts) asks.1
asks_of_keeps moment request (Some place) old text new asks =
    let table : TableState = asks.0 in
    let state : BooksState = asks.1 in
    let kept : kept_of state ≡ kept_in table = does_keep moment request table asks.2 text state asks.4 asks.5 in
    ap (λ ts. map kept_in ts) asks.6 ∙ map-set_same kept_in old place (record table { state = state }) table (kept ∙ ap kept_in asks.3)

head_keeps : (moment : ℕ) (old : List TableState) (place : ℕ) (head : Result (List ℕ) Message) (new : List TableState) → HeadAt answering refusing moment old place head new → map kept_in new ≡ map kept_in old
head_keeps moment old place head new at =
    let table : TableState = at.0 in
    let state : BooksState = at.1 in
    let kept : kept_of state ≡ kept_in table = turn_keeps (ListRows moment filters.Nothing) (range_with_len 0 table.shards) table.state at.2 at.3 state tt at.5 in
    ap (λ ts. map kept_in ts) at.7 ∙ map-set_same kept_in old place (record table { state = state }) table (kept ∙ ap kept_in at.4)

heads_keep : (moment : ℕ) (places : List ℕ) (old : List TableState) (text : List ℕ) (new : List TableState)
    → Chain (λ state place text next. HeadAt answering refusing moment state place (Ok text) next) old places text new → map kept_in new ≡ map kept_in old
heads_keep moment [] old text new chain = ap (λ ts. map kept_in ts) chain.1
heads_keep moment (place ∷ places) old text new chain = heads_keep moment places chain.1 chain.2 new chain.4 ∙ head_keeps moment old place (Ok chain.0) chain.1 chain.3

shows_keep : (moment : ℕ) (old : List TableState) (text : List ℕ) (new : List TableState) → ShowsTables answering refusing moment old text new → map kept_in new ≡ map kept_in old
shows_keep moment old text new shows = elim shows [
  | inl all ↦ heads_keep moment (range_with_len 0 (length old)) old all.0 new all.1
  | inr ended ↦ head_keeps moment ended.2 ended.0 (Err ended.3) new ended.6 ∙ heads_keep moment (range_with_len 0 ended.0) old ended.1 ended.2 ended.5
]

form_keeps : (moment : ℕ) (form : Form) (old : List TableState) (text : List ℕ) (new : List TableState) → SaysForm answering refusing moment form old text new → map kept_in new ≡ map kept_in old
form_keeps moment Nothing old text new says = ap (λ ts. map kept_in ts) says.1
form_keeps moment Unknown old text new says = ap (λ ts. map kept_in ts) says.1
form_keeps moment Tables old text new says = shows_keep moment old text new says
form_keeps moment (Of name request) old text new says = asks_of_keeps moment request (place_of name old) old text new says

-- several commands, at whatever moments
pub commands_keep : (commands : List (List ℕ)) (old : CommandState BooksState ℕ) (text : List ℕ) (new : CommandState BooksState ℕ)
    → Chain (Answers answering refusing standing) old commands text new → map kept_in new.tables ≡ map kept_in old.tables
commands_keep [] old text new chain = ap (λ (s : CommandState BooksState ℕ). map kept_in s.tables) chain.1
commands_keep (command ∷ commands) old text new chain =
    commands_keep commands chain.1 chain.2 new chain.4 ∙ form_keeps chain.3.0 (form_of (words_of command)) old.tables chain.0 chain.1.tables chain.3.2

-- ---- what follows for the tables

-- how often a reference is out is known by what stays
abbrev out_in : ℕ × Reference → List (Spec × List (List (Ticket × Key))) → ℕ
out_in reference kept = option_map_or (times reference.1.ticket) (option_and_then (λ (k : Spec × List (List (Ticket × Key))). slice_get k.1 reference.1.shard) (slice_get kept reference.0)) 0

out_of_kept : (reference : ℕ × Reference) (tables : List TableState) → times_out reference tables ≡ out_in reference (map kept_in tables)
out_of_kept reference tables =
    by_table (slice_get tables reference.0) ∙ ap (λ o. option_map_or (times reference.1.ticket) (option_and_then (λ (k : Spec × List (List (Ticket × Key))). slice_get k.1 reference.1.shard) o) 0) (sym (slice_get-map kept_in tables reference.0))
  where
    by_shard : (o : Option BookState) → option_map_or (times_of reference.1.ticket) (option_map (λ (book : BookState). book.live) o) 0 ≡ option_map_or (times reference.1.ticket) (option_map tickets_in o) 0
    by_shard None = refl
    by_shard (Some book) = refl

    by_table : (o : Option TableState) → option_map_or (times_of reference.1.ticket) (option_and_then (λ (found : TableState). shard_of found.state.books reference.1.shard) o) 0
        ≡ option_map_or (times reference.1.ticket) (option_and_then (λ (k : Spec × List (List (Ticket × Key))). slice_get k.1 reference.1.shard) (option_map kept_in o)) 0
    by_table None = refl
    by_table (Some found) =
        by_shard (slice_get found.state.books reference.1.shard)
        ∙ ap (λ o. option_map_or (times reference.1.ticket) o 0) (sym (slice_get-map tickets_in found.state.books reference.1.shard))

pub out_kept : (reference : ℕ × Reference) (old new : List TableState) → map kept_in new ≡ map kept_in old → times_out reference new ≡ times_out reference old
out_kept reference old new same = out_of_kept reference new ∙ ap (out_in reference) same ∙ sym (out_of_kept reference old)
