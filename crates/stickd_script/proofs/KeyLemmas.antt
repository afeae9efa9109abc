-- Wherever a script leads, a shard keeps records of keys alone that lie on it.
use Rattle.std.proofs.Common.{◌≡◌, ◌⊎◌, inl, inr, ℕ, zero, suc, refl, sym, ap, subst, ◌∙◌, Bool, true, false, List, [], ◌∷◌, map, slice_get, Option, Some, None, Result, Ok, Err, is_some, length}
use Rattle.std.specs.Prelude.{IfSome, option_map, slice_index_or, slice_set}
use Rattle.std.specs.List.{AllByRecursion, range_with_len}
use Rattle.std.specs.Cmp.Lexicographic.{nat_list_cmp_total}
use Rattle.std.proofs.lemmas.Bool.{false≢true}
use Rattle.std.proofs.lemmas.Map.Entries.{All-lookup}
use Rattle.base_lines.specs.Chain.{Chain}
use Rattle.stick_key.specs.Shard.{shard}
use Rattle.stick_model.specs.Key.{Key, key_cmp}
use Rattle.stick_model.specs.Legal.{IsLegal}
use Rattle.stick_model.specs.Limits.{moment_of}
use Rattle.stick_model.specs.State.{State, key_of, record_at, same_ticket, stays}
use Rattle.stick_model.specs.Step.{Step, begun, subject_of}
use Rattle.stick_model.specs.declared.events.Event.{Event}
use Rattle.stick_model.specs.declared.events.Event.TheVariants as events
use Rattle.stick_model.specs.declared.replies.Reply.{Reply}
use Rattle.stick_model.specs.declared.rows.Record.{Record}
use Rattle.stick_model.specs.declared.rows.Ticket.{Ticket}
use Rattle.stick_model.proofs.EntryLemmas.{lookup-filter-cases}
use Rattle.stick_model.proofs.FateLemmas.{Fate, gone as lost, made as changed, same as unchanged, step_fate}
use Rattle.stick_model.proofs.LegalLemmas.{IsOrderly, orderly-from_legal}
use Rattle.shard_book.specs.BookState.{BookState, opened, rolled}
use Rattle.shard_book.specs.BooksState.{AreBooks, BooksState, ExtendsAt}
use Rattle.table_cli.specs.Shards.{AsksInTurn, shards_of}
use Rattle.table_texts.specs.declared.message.Message.{Message}
use Rattle.admit_drive.proofs.TablesLemmas.{get_after_set}
use Rattle.rule_model.specs.declared.sections.Setup.{Setup}
use Rattle.admit_core.specs.Connection.{Connection, arrived, closed, need}
use Rattle.admit_core.specs.declared.need.Need.{Need}
use Rattle.admit_core.specs.declared.need.Need.TheVariants as needs
use Rattle.stick_model.specs.declared.filters.Filter.TheVariants as filters
use Rattle.table_texts.specs.Form.{Form, Request, Nothing, Unknown, Tables, Of, form_of}
use Rattle.table_texts.specs.Request.{Asks}
use Rattle.table_texts.specs.Seen.{words_of}
use Rattle.table_cli.specs.Answers.{Answers, AnswersForm, AsksOf, Does, HeadAt, commands_of, place_of}
use Rattle.table_cli.specs.States.{CommandState}
use Rattle.admit_drive.specs.Calls.{call_of, heard}
use Rattle.stick_model.specs.declared.replies.Reply.TheVariants as replies
use Rattle.admit_drive.specs.Moves.{Goes as ConnectionGoes, Makes, Moves, MovesBy}
use Rattle.admit_drive.specs.Tables.{AreTablesOf, TableState, empty_table_of, shard_at}
use Rattle.admit_core.specs.declared.conn.Conn.{Conn}
use Rattle.admit_port.specs.Calls.{Call}
use Rattle.shard_port.specs.declared.reference.Reference.{Reference}
use Rattle.admit_drive.proofs.SumLemmas.{some_same}
use Rattle.admit_drive.proofs.TablesLemmas.{move_tables}
use Rattle.admit_drive.proofs.HomeLemmas.{asks_home}
use Rattle.admit_drive.proofs.PlainConnectionLemmas.{call_asked}
use Rattle.admit_drive.proofs.PlainLemmas.{is_asked}
use Rattle.base_lines.specs.Line.{held}
use Rattle.base_lines.specs.Parts.{is_line_end, parts}
use Rattle.base_lines.specs.Service.{Serves as ServesLine}
use Rattle.rule_addresses.specs.Addresses.{address_of}
use Rattle.rule_addresses.specs.declared.address.Address.{Address}
use Rattle.stick_model.specs.declared.specification.Spec.{Spec}
use Rattle.rule_model.specs.declared.sections.NamedSpec.{NamedSpec}
use Rattle.shard_book.specs.Keeping.{part_of}
use Rattle.stickd_script.specs.Guests.{IsServed, ScriptState, guest_of}
use Rattle.stickd_script.specs.Laws.{KeysLaw}
use Rattle.stickd_script.specs.Start.{start}
use Rattle.stickd_script.proofs.ServedLemmas.{says_served, start_served}
use Rattle.stickd_script.proofs.RollLemmas.{all_kept, part_rolled}
use Rattle.stickd_script.specs.Rolling.{RecordsRoll}
use Rattle.shard_book.proofs.RollLemmas.{Was, rolled_first-at}
use Rattle.stickd_script.proofs.AskLemmas.{asks_commanded}
use Rattle.stickd_script.proofs.PlainCommandLemmas.{is_commanded}
use Rattle.stickd_script.specs.Script.{Bad, Close, ClosesAt, Commands, Empty, Line, LineSays, Open, OpensAt, OpensFrom, Says, answering, at_moment, line_of, refusing, samples_of, standing}

-- every key that has a record lies on the shard
abbrev pub Lies : ℕ → ℕ → State → Type 0
Lies shards part state = (key : Key) (found : Record) → record_at key state.records ≡ Some found → shard key shards ≡ part

some_found : (o : Option Record) → is_some o ≡ true → (found : Record) × (o ≡ Some found)
some_found None some = absurd (false≢true some)
some_found (Some found) some = (found, refl)

-- the key of a ticket that is out has a record
ticket_lies : (shards part : ℕ) (state : State) (ticket : Ticket) (key : Key) → IsLegal state → Lies shards part state → key_of ticket state.tickets ≡ Some key → shard key shards ≡ part
ticket_lies shards part state ticket key legal lies is =
    let held : IfSome (key_of ticket state.tickets) (λ k. is_some (record_at k state.records) ≡ true) = All-lookup (λ k. is_some (record_at k state.records) ≡ true) (same_ticket ticket) state.tickets legal.keys_held in
    let here : is_some (record_at key state.records) ≡ true = subst (λ o. IfSome o (λ k. is_some (record_at k state.records) ≡ true)) is held in
    let found = some_found (record_at key state.records) here in
    lies key found.0 found.1

-- a step whose key lies on the shard, as that of a ticket does
pub step_lies : (shards part : ℕ) (old : State) (event : Event) (reply : Reply) (new : State) → IsLegal old → Lies shards part old → ((key : Key) → subject_of old event ≡ Some key → shard key shards ≡ part) → Step old event reply new → Lies shards part new
step_lies shards part old event reply new legal lies subject step key found is = by (step_fate old event reply new key orderly step)
  where
    orderly : IsOrderly old
    orderly = orderly-from_legal old legal

    begins : State
    begins = begun old (moment_of event)

    by : Fate old begins event reply key (record_at key new.records) → shard key shards ≡ part
    by (lost free none) = cc
    by (changed after now of_it told values) = subject key of_it
    by (unchanged now untold) =
        elim (lookup-filter-cases key_cmp nat_list_cmp_total key (stays begins.clock old.tickets) old.records orderly.sound.keys_rise) [
          | inl stays_there ↦ lies key found (sym stays_there ∙ sym now ∙ is)
          | inr left_out ↦ cc
        ]

-- ---- the books of a table

abbrev pub BooksLie : ℕ → BooksState → Type 0
BooksLie shards table = (part : ℕ) (book : BookState) → slice_get table.books part ≡ Some book → Lies shards part book.live

-- what an event is of lies on the part that is asked
abbrev pub AsksHome : ℕ → Event → ℕ → Type 0
AsksHome shards event part = (state : State) (key : Key) → IsLegal state → Lies shards part state → subject_of state event ≡ Some key → shard key shards ≡ part

pub extended_lies : (shards part seat : ℕ) (event : Event) (reply : Reply) (old new : BooksState) → AreBooks old → BooksLie shards old → AsksHome shards event part → ExtendsAt old part seat event reply new → BooksLie shards new
extended_lies shards part seat event reply old new are lie home extends other book at =
    go (get_after_set old.books part other extends.after book (ap (λ (b : BooksState). slice_get b.books other) (sym extends.others) ∙ at))
  where
    legal : IsLegal extends.before.live
    legal = (are.each part extends.before extends.at).0.live_legal

    will : Lies shards part extends.after.live
    will = step_lies shards part extends.before.live event reply extends.after.live legal (lie part extends.before extends.at) (λ key is. home extends.before.live key legal (lie part extends.before extends.at) is) extends.extends.step

    go : ((other ≡ part) × (book ≡ extends.after)) ⊎ (slice_get old.books other ≡ Some book) → Lies shards other book.live
    go (inl here) = subst (λ p. Lies shards p book.live) (sym here.0) (subst (λ (b : BookState). Lies shards part b.live) (sym here.1) will)
    go (inr there) = lie other book there

turn_lies : (shards : ℕ) (event : Event) (parts : List ℕ) (old : BooksState) (replies : List Reply) (end : Option Message) (new : BooksState) → AllByRecursion (AsksHome shards event) parts
    → AsksInTurn answering refusing event parts old replies end new → AreBooks old × BooksLie shards old → AreBooks new × BooksLie shards new
turn_lies shards event [] old [] None new home asks are = subst (λ b. AreBooks b × BooksLie shards b) (sym asks) are
turn_lies shards event [] old [] (Some message) new home asks are = subst (λ b. AreBooks b × BooksLie shards b) (sym asks.2) are
turn_lies shards event [] old (reply ∷ replies) end new home asks are = absurd asks
turn_lies shards event (part ∷ parts) old [] None new home asks are = absurd asks
turn_lies shards event (part ∷ parts) old [] (Some message) new home asks are = subst (λ b. AreBooks b × BooksLie shards b) (sym asks.1) are
turn_lies shards event (part ∷ parts) old (reply ∷ replies) end new home asks are =
    turn_lies shards event parts asks.0 replies end new home.1 asks.2 (asks.1.1, extended_lies shards part 0 event reply old asks.0 are.0 are.1 home.0 asks.1.0)

-- ---- commands

-- its shards are as many, and keep what lies on them
abbrev pub TableLies : ℕ → TableState → Type 0
TableLies shards table = (table.shards ≡ shards) × BooksLie shards table.state

abbrev pub Kept : ℕ → TableState → Type 0
Kept shards table = (table.shards ≡ shards) × (AreBooks table.state × BooksLie shards table.state)

abbrev Goes : ℕ → TableState → BooksState → Type 0
Goes shards table state = table.shards ≡ shards → AreBooks table.state × BooksLie shards table.state → AreBooks state × BooksLie shards state

set_kept : (shards : ℕ) (old : List TableState) (place : ℕ) (table : TableState) (state : BooksState) → table ≡ slice_index_or old place table → Goes shards table state → AllByRecursion (Kept shards) old
    → AllByRecursion (Kept shards) (slice_set old place (record table { state = state }))
set_kept shards [] place table state at goes all = tt
set_kept shards (first ∷ rest) zero table state at goes all = let was : Kept shards table = subst (Kept shards) (sym at) all.0 in ((was.0, goes was.0 was.1), all.1)
set_kept shards (first ∷ rest) (suc place) table state at goes all = (all.0, set_kept shards rest place table state at goes all.1)

no_subject : (shards : ℕ) (event : Event) (parts : List ℕ) → ((state : State) (key : Key) → subject_of state event ≡ Some key → ⊥) → AllByRecursion (AsksHome shards event) parts
no_subject shards event [] none = tt
no_subject shards event (part ∷ parts) none = ((λ state key legal lies is. absurd (none state key is)), no_subject shards event parts none)

same_subject : (a b : Key) → Some a ≡ Some b → a ≡ b
same_subject a b e = cc

pub asks_home_of : (shards count : ℕ) (event : Event) → count ≡ shards → is_commanded event ≡ true → AllByRecursion (AsksHome shards event) (shards_of count event)
asks_home_of shards count (events.Put now key pairs) same commanded = ((λ state k legal lies is. ap (λ x. shard x shards) (sym (same_subject key k is)) ∙ ap (λ n. shard key n) (sym same)), tt)
asks_home_of shards count (events.Clear now key) same commanded = no_subject shards (events.Clear now key) (shards_of count (events.Clear now key)) (λ state k is. cc)
asks_home_of shards count (events.ClearWhere now choice) same commanded = no_subject shards (events.ClearWhere now choice) (shards_of count (events.ClearWhere now choice)) (λ state k is. cc)
asks_home_of shards count (events.List now choice) same commanded = no_subject shards (events.List now choice) (shards_of count (events.List now choice)) (λ state k is. cc)
asks_home_of shards count (events.Expire now) same commanded = no_subject shards (events.Expire now) (shards_of count (events.Expire now)) (λ state k is. cc)
asks_home_of shards count (events.Get now key) same commanded = absurd (false≢true commanded)
asks_home_of shards count (events.Track now key) same commanded = absurd (false≢true commanded)
asks_home_of shards count (events.Look now ticket) same commanded = absurd (false≢true commanded)
asks_home_of shards count (events.Count now ticket act) same commanded = absurd (false≢true commanded)
asks_home_of shards count (events.Release now ticket) same commanded = absurd (false≢true commanded)

module _ (shards : ℕ) where
  does_kept : (table : TableState) (asked : Result Event Message) (text : List ℕ) (state : BooksState) → ((event : Event) → asked ≡ Ok event → is_commanded event ≡ true) → Does answering refusing table asked text state → Goes shards table state
  does_kept table (Ok event) text state commanded does count are = turn_lies shards event (shards_of table.shards event) table.state does.0 does.1 state (asks_home_of shards table.shards event count (commanded event refl)) does.2 are
  does_kept table (Err message) text state commanded does count are = subst (λ b. AreBooks b × BooksLie shards b) (sym does.1) are

  asked_kept : (moment : ℕ) (request : Request) (place : Option ℕ) (old : List TableState) (text : List ℕ) (new : List TableState) → AsksOf answering refusing moment request place old text new → AllByRecursion (Kept shards) old → AllByRecursion (Kept shards) new
  asked_kept moment request None old text new asks all = subst (AllByRecursion (Kept shards)) (sym asks.1) all
  asked_kept moment request (Some place) old text new asks all =
      subst (AllByRecursion (Kept shards)) (sym asks.6)
      (set_kept shards old place asks.0 asks.1 asks.3
      (does_kept asks.0 asks.2 text asks.1 (λ event made. asks_commanded asks.0.spec.kind moment request event (subst (Asks asks.0.spec.kind moment request) made asks.4)) asks.5) all)

  head_kept : (moment : ℕ) (old : List TableState) (place : ℕ) (head : Result (List ℕ) Message) (new : List TableState) → HeadAt answering refusing moment old place head new → AllByRecursion (Kept shards) old → AllByRecursion (Kept shards) new
  head_kept moment old place head new at all =
      subst (AllByRecursion (Kept shards)) (sym at.7)
      (set_kept shards old place at.0 at.1 at.4
      (λ count are. turn_lies shards (events.List moment filters.Nothing) (range_with_len 0 at.0.shards) at.0.state at.2 at.3 at.1 (no_subject shards (events.List moment filters.Nothing) (range_with_len 0 at.0.shards) (λ state k is. cc)) at.5 are) all)

  heads_kept : (moment : ℕ) (places : List ℕ) (old : List TableState) (text : List ℕ) (new : List TableState) → Chain (λ state place text next. HeadAt answering refusing moment state place (Ok text) next) old places text new
      → AllByRecursion (Kept shards) old → AllByRecursion (Kept shards) new
  heads_kept moment [] old text new chain all = subst (AllByRecursion (Kept shards)) (sym chain.1) all
  heads_kept moment (place ∷ places) old text new chain all = heads_kept moment places chain.1 chain.2 new chain.4 (head_kept moment old place (Ok chain.0) chain.1 chain.3 all)

  pub form_kept : (moment : ℕ) (form : Form) (old : List TableState) (text : List ℕ) (new : List TableState) → AnswersForm answering refusing moment form old text new → AllByRecursion (Kept shards) old → AllByRecursion (Kept shards) new
  form_kept moment Nothing old text new says all = subst (AllByRecursion (Kept shards)) (sym says.1) all
  form_kept moment Unknown old text new says all = subst (AllByRecursion (Kept shards)) (sym says.1) all
  form_kept moment Tables old text new says all = elim says [
    | inl heads ↦ heads_kept moment (range_with_len 0 (length old)) old heads.0 new heads.1 all
    | inr ended ↦ head_kept moment ended.2 ended.0 (Err ended.3) new ended.6 (heads_kept moment (range_with_len 0 ended.0) old ended.1 ended.2 ended.5 all)
  ]
  form_kept moment (Of name request) old text new says all = asked_kept moment request (place_of name old) old text new says all

  commands_kept : (commands : List (List ℕ)) (old : CommandState BooksState ℕ) (text : List ℕ) (new : CommandState BooksState ℕ) → AllByRecursion (Kept shards) old.tables
      → Chain (Answers answering refusing standing) old commands text new → AllByRecursion (Kept shards) new.tables
  commands_kept [] old text new all chain = subst (λ (s : CommandState BooksState ℕ). AllByRecursion (Kept shards) s.tables) (sym chain.1) all
  commands_kept (command ∷ commands) old text new all chain =
      commands_kept commands chain.1 chain.2 new (form_kept chain.3.0 (form_of (words_of command)) old.tables chain.0 chain.1.tables chain.3.2 all) chain.4

  pub with_books : (tables : List TableState) → ((i : ℕ) (table : TableState) → slice_get tables i ≡ Some table → AreBooks table.state) → AllByRecursion (TableLies shards) tables → AllByRecursion (Kept shards) tables
  with_books [] each all = tt
  with_books (table ∷ tables) each all = ((all.0.0, (each 0 table refl, all.0.1)), with_books tables (λ i t at. each (suc i) t at) all.1)

  without_books : (tables : List TableState) → AllByRecursion (Kept shards) tables → AllByRecursion (TableLies shards) tables
  without_books [] all = tt
  without_books (table ∷ tables) all = ((all.0.0, all.0.1.1), without_books tables all.1)

  pub commands_lie : (setup : Setup) (commands : List (List ℕ)) (old : CommandState BooksState ℕ) (text : List ℕ) (new : CommandState BooksState ℕ) → AreTablesOf setup old.tables → AllByRecursion (TableLies shards) old.tables
      → Chain (Answers answering refusing standing) old commands text new → AllByRecursion (TableLies shards) new.tables
  commands_lie setup commands old text new are all chain = without_books new.tables (commands_kept commands old text new (with_books old.tables (λ i table at. (are.each i table at).2.books) all) chain)

  -- ---- connections

  set_lies : (old : List TableState) (place : ℕ) (before : TableState) (state : BooksState) → slice_get old place ≡ Some before → (BooksLie shards before.state → BooksLie shards state) → AllByRecursion (TableLies shards) old
      → AllByRecursion (TableLies shards) (slice_set old place (record before { state = state }))
  set_lies [] place before state at goes all = tt
  set_lies (first ∷ rest) zero before state at goes all = let was : TableLies shards before = subst (TableLies shards) (some_same first before at) all.0 in ((was.0, goes was.1), all.1)
  set_lies (first ∷ rest) (suc place) before state at goes all = (all.0, set_lies rest place before state at goes all.1)

  -- what a connection asks
  asked_lies : (event : Event) (part : ℕ) → is_asked event ≡ true → ((now : ℕ) (key : Key) → event ≡ events.Track now key → shard key shards ≡ part) → AsksHome shards event part
  asked_lies (events.Get now key) part asked tracks state k legal lies is = cc
  asked_lies (events.Look now ticket) part asked tracks state k legal lies is = cc
  asked_lies (events.Track now key) part asked tracks state k legal lies is = ap (λ x. shard x shards) (sym (same_subject key k is)) ∙ tracks now key refl
  asked_lies (events.Count now ticket act) part asked tracks state k legal lies is = ticket_lies shards part state ticket k legal lies is
  asked_lies (events.Release now ticket) part asked tracks state k legal lies is = ticket_lies shards part state ticket k legal lies is
  asked_lies (events.Put now key pairs) part asked tracks state k legal lies is = absurd (false≢true asked)
  asked_lies (events.Clear now key) part asked tracks state k legal lies is = absurd (false≢true asked)
  asked_lies (events.ClearWhere now choice) part asked tracks state k legal lies is = absurd (false≢true asked)
  asked_lies (events.List now choice) part asked tracks state k legal lies is = absurd (false≢true asked)
  asked_lies (events.Expire now) part asked tracks state k legal lies is = absurd (false≢true asked)

  module _ (setup : Setup) (ours : setup.shards ≡ shards) (now : ℕ) where
    made_lies : (old new : List TableState) (connection after : Connection Reference) (wanted : Need) (call : Option Call) (was_refused : Bool) → AreTablesOf setup old → connection.setup.shards ≡ shards
        → call_of connection.setup.shards now connection.progress.held wanted ≡ call → Makes old connection call new after was_refused → AllByRecursion (TableLies shards) old → AllByRecursion (TableLies shards) new
    made_lies old new connection after wanted call true are same is makes all = subst (AllByRecursion (TableLies shards)) (sym makes.1) all
    made_lies old new connection after wanted None false are same is makes all = absurd makes
    made_lies old new connection after wanted (Some call) false are same is makes all =
        let answers = makes.1 in
        let asked = call_asked connection.setup.shards now connection.progress.held wanted call is in
        let tracks = asks_home shards now connection.progress.held wanted call (ap (λ n. call_of n now connection.progress.held wanted) (sym same) ∙ is) in
        subst (AllByRecursion (TableLies shards)) (sym answers.others)
        (set_lies old call.table answers.before answers.after answers.at
        (λ lie. extended_lies shards call.shard 1 call.event makes.0 answers.before.state answers.after (are.each call.table answers.before answers.at).2.books lie (asked_lies call.event call.shard asked tracks) answers.extends) all)

    moved_lies : (old new : List TableState) (connection after : Connection Reference) (wanted : Need) (was_refused : Bool) → AreTablesOf setup old → connection.setup.shards ≡ shards
        → MovesBy now old connection wanted new after was_refused → AllByRecursion (TableLies shards) old → AllByRecursion (TableLies shards) new
    moved_lies old new connection after needs.Rest was_refused are same moves all = subst (AllByRecursion (TableLies shards)) (sym moves.0) all
    moved_lies old new connection after needs.Finished was_refused are same moves all = subst (AllByRecursion (TableLies shards)) (sym moves.0) all
    moved_lies old new connection after needs.Turn was_refused are same moves all = subst (AllByRecursion (TableLies shards)) (sym moves.0) all
    moved_lies old new connection after (needs.Get table key) was_refused are same moves all = made_lies old new connection after (needs.Get table key) (call_of connection.setup.shards now connection.progress.held (needs.Get table key)) was_refused are same refl moves all
    moved_lies old new connection after (needs.Track slot table key) was_refused are same moves all = made_lies old new connection after (needs.Track slot table key) (call_of connection.setup.shards now connection.progress.held (needs.Track slot table key)) was_refused are same refl moves all
    moved_lies old new connection after (needs.Look slot) was_refused are same moves all = made_lies old new connection after (needs.Look slot) (call_of connection.setup.shards now connection.progress.held (needs.Look slot)) was_refused are same refl moves all
    moved_lies old new connection after (needs.Count slot act) was_refused are same moves all = made_lies old new connection after (needs.Count slot act) (call_of connection.setup.shards now connection.progress.held (needs.Count slot act)) was_refused are same refl moves all
    moved_lies old new connection after (needs.Release slot) was_refused are same moves all = made_lies old new connection after (needs.Release slot) (call_of connection.setup.shards now connection.progress.held (needs.Release slot)) was_refused are same refl moves all

    heard_setup : (connection : Connection Reference) (part : ℕ) (reply : Reply) → (heard connection part reply).setup ≡ connection.setup
    heard_setup connection part replies.Released = refl
    heard_setup connection part (replies.Tracked ticket row) = refl
    heard_setup connection part _ = refl

    made_setup : (old new : List TableState) (connection after : Connection Reference) (call : Option Call) (was_refused : Bool) → Makes old connection call new after was_refused → after.setup ≡ connection.setup
    made_setup old new connection after call true makes = ap (λ (c : Connection Reference). c.setup) makes.2
    made_setup old new connection after None false makes = absurd makes
    made_setup old new connection after (Some call) false makes = ap (λ (c : Connection Reference). c.setup) makes.2 ∙ heard_setup connection call.shard makes.0

    by_setup : (old new : List TableState) (connection after : Connection Reference) (wanted : Need) (was_refused : Bool) → MovesBy now old connection wanted new after was_refused → after.setup ≡ connection.setup
    by_setup old new connection after needs.Rest was_refused moves = ap (λ (c : Connection Reference). c.setup) moves.1
    by_setup old new connection after needs.Finished was_refused moves = ap (λ (c : Connection Reference). c.setup) moves.1
    by_setup old new connection after needs.Turn was_refused moves = ap (λ (c : Connection Reference). c.setup) moves.1
    by_setup old new connection after (needs.Get table key) was_refused moves = made_setup old new connection after (call_of connection.setup.shards now connection.progress.held (needs.Get table key)) was_refused moves
    by_setup old new connection after (needs.Track slot table key) was_refused moves = made_setup old new connection after (call_of connection.setup.shards now connection.progress.held (needs.Track slot table key)) was_refused moves
    by_setup old new connection after (needs.Look slot) was_refused moves = made_setup old new connection after (call_of connection.setup.shards now connection.progress.held (needs.Look slot)) was_refused moves
    by_setup old new connection after (needs.Count slot act) was_refused moves = made_setup old new connection after (call_of connection.setup.shards now connection.progress.held (needs.Count slot act)) was_refused moves
    by_setup old new connection after (needs.Release slot) was_refused moves = made_setup old new connection after (call_of connection.setup.shards now connection.progress.held (needs.Release slot)) was_refused moves

    moved_setup : (old new : List TableState) (connection after : Connection Reference) (was_refused : Bool) → Moves now old connection new after was_refused → connection.setup.shards ≡ shards → after.setup.shards ≡ shards
    moved_setup old new connection after was_refused moves same = ap (λ (s : Setup). s.shards) (by_setup old new connection after (need connection) was_refused moves) ∙ same

    pub gone_lies : (count : ℕ) (old new : List TableState) (connection after : Connection Reference) → AreTablesOf setup old → connection.setup.shards ≡ shards → ConnectionGoes now count old connection new after
        → AllByRecursion (TableLies shards) old → AllByRecursion (TableLies shards) new
    gone_lies zero old new connection after are same goes all = subst (AllByRecursion (TableLies shards)) (sym goes.0) all
    gone_lies (suc count) old new connection after are same goes all =
        gone_lies count goes.0 new goes.1 after (move_tables now setup old connection goes.0 goes.1 goes.2 are goes.3) (moved_setup old goes.0 connection goes.1 goes.2 goes.3 same) goes.4
        (moved_lies old goes.0 connection goes.1 (need connection) goes.2 are same goes.3 all)

-- ---- lines

abbrev pub AllLie : ℕ → ScriptState → Type 0
AllLie shards state = (state.setup.shards ≡ shards) × AllByRecursion (TableLies shards) state.tables

as_before : (shards : ℕ) (old new : ScriptState) → new ≡ old → AllLie shards old → AllLie shards new
as_before shards old new same all = subst (AllLie shards) (sym same) all

opens_lie : (shards : ℕ) (source : Option Address) (guest : Option (Conn Reference)) (moment id port : ℕ) (old : ScriptState) (text : List ℕ) (new : ScriptState) → guest_of id old.guests ≡ guest → OpensFrom source moment id port old text new → IsServed old → AllLie shards old → AllLie shards new
opens_lie shards None guest moment id port old text new is opens are all = as_before shards old new opens.1 all
opens_lie shards (Some source) guest moment id port old text new is opens are all = by guest (subst (λ o. OpensAt o moment id source port old text new) is opens)
  where
    by : (guest : Option (Conn Reference)) → OpensAt guest moment id source port old text new → AllLie shards new
    by (Some guest) opens = as_before shards old new opens.1 all
    by None (inr opens) = as_before shards old new opens.1 all
    by None (inl opens) =
        let first : Connection Reference = arrived old.setup (samples_of old.setup source port) in
        (ap (λ (s : ScriptState). s.setup.shards) opens.4 ∙ all.0, gone_lies shards old.setup all.0 moment opens.3.count old.tables new.tables first opens.1 are.tables all.0 opens.3.goes all.1)

closes_lie : (shards : ℕ) (guest : Option (Conn Reference)) (moment id bytes_in bytes_out : ℕ) (old : ScriptState) (text : List ℕ) (new : ScriptState) → ClosesAt guest moment id bytes_in bytes_out old text new → IsServed old → AllLie shards old → AllLie shards new
closes_lie shards None moment id bytes_in bytes_out old text new closes are all = as_before shards old new closes.1 all
closes_lie shards (Some guest) moment id bytes_in bytes_out old text new closes are all =
    let ours : closes.0.setup.shards ≡ shards = ap (λ (s : Setup). s.shards) closes.2.judged_by ∙ all.0 in (
      ap (λ (s : ScriptState). s.setup.shards) closes.4 ∙ all.0,
      gone_lies shards old.setup all.0 moment closes.3.count old.tables new.tables (closed closes.0 bytes_in bytes_out) closes.1 are.tables ours closes.3.goes all.1,
    )

pub line_lies : (shards : ℕ) (line : Line) (old : ScriptState) (text : List ℕ) (new : ScriptState) → LineSays line old text new → IsServed old → AllLie shards old → AllLie shards new
line_lies shards Empty old text new says are all = as_before shards old new says.1 all
line_lies shards Bad old text new says are all = as_before shards old new says.1 all
line_lies shards (Commands moment commands) old text new says are all =
    (ap (λ (s : ScriptState). s.setup.shards) says.1 ∙ all.0, commands_lie shards old.setup (commands_of commands) (at_moment moment old.tables) text (at_moment moment new.tables) are.tables all.1 says.0)
line_lies shards (Open moment id address port) old text new says are all = opens_lie shards (address_of address) (guest_of id old.guests) moment id port old text new refl says are all
line_lies shards (Close moment id bytes_in bytes_out) old text new says are all = closes_lie shards (guest_of id old.guests) moment id bytes_in bytes_out old text new says are all

roll_lies : (shards count : ℕ) (table : TableState) → TableLies shards table → TableLies shards (part_rolled count table)
roll_lies shards count table lies = (lies.0, λ part book at. here part book (rolled_first-at count table.state.books part book at))
  where
    here : (part : ℕ) (book : BookState) → Was table.state.books part book → Lies shards part book.live
    here part book was = by was.is
      where
        before : Lies shards part was.before.live
        before = lies.1 part was.before was.at

        by : (book ≡ rolled was.before) ⊎ (book ≡ was.before) → Lies shards part book.live
        by (inl is) = subst (λ (b : BookState). Lies shards part b.live) (sym is) before
        by (inr is) = subst (λ (b : BookState). Lies shards part b.live) (sym is) before

pub rolls_lie : (shards : ℕ) (said new : ScriptState) → RecordsRoll said new → AllLie shards said → AllLie shards new
rolls_lie shards said new rolls all = (ap (λ (s : ScriptState). s.setup.shards) rolls.others ∙ all.0, all_kept (roll_lies shards) said.tables new.tables rolls.tables all.1)

pub says_lies : (shards : ℕ) (line : Option (List ℕ)) (old : ScriptState) (text : List ℕ) (new : ScriptState) → Says old line text new → IsServed old → AllLie shards old → AllLie shards new
says_lies shards line old text new says are all = rolls_lie shards says.0 new says.2 (line_lies shards (line_of line) old text says.0 says.1 are all)

lines_lie : (shards : ℕ) (old : ScriptState) (lines : List (List ℕ)) (text : List ℕ) (new : ScriptState) → IsServed old → AllLie shards old → Chain (ServesLine Says) old lines text new → AllLie shards new
lines_lie shards old [] text new are all chain = as_before shards old new chain.1 all
lines_lie shards old (line ∷ lines) text new are all chain =
    lines_lie shards chain.1 lines chain.2 new (says_served (held line) old chain.0 chain.1 chain.3 are) (says_lies shards (held line) old chain.0 chain.1 chain.3 are all) chain.4

-- ---- the start

opened_lie : (shards : ℕ) (spec : ℕ → Spec) (numbers : List ℕ) (part place : ℕ) (book : BookState) → slice_get (map (λ i. opened (spec i)) numbers) place ≡ Some book → Lies shards part book.live
opened_lie shards spec [] part place book at = cc
opened_lie shards spec (i ∷ more) part zero book at = subst (λ (b : BookState). Lies shards part b.live) (some_same (opened (spec i)) book at) (λ key found is. cc)
opened_lie shards spec (i ∷ more) part (suc place) book at = opened_lie shards spec more part place book at

pub empty_lie : (shards : ℕ) (tables : List NamedSpec) → AllByRecursion (TableLies shards) (map (empty_table_of shards) tables)
empty_lie shards [] = tt
empty_lie shards (named ∷ more) = ((refl, λ part book at. opened_lie shards (λ i. part_of named.spec shards i) (range_with_len 0 shards) part part book at), empty_lie shards more)

-- ---- the law

in_books : (shards part : ℕ) (books : List BookState) (live : State) (o : Option BookState) → slice_get books part ≡ o → option_map (λ (book : BookState). book.live) o ≡ Some live
    → ((book : BookState) → slice_get books part ≡ Some book → Lies shards part book.live) → Lies shards part live
in_books shards part books live None at is lie = cc
in_books shards part books live (Some book) at is lie = subst (Lies shards part) (some_same book.live live is) (lie book at)

in_tables : (shards : ℕ) (tables : List TableState) (table part : ℕ) (live : State) → AllByRecursion (TableLies shards) tables → shard_at tables table part ≡ Some live → Lies shards part live
in_tables shards [] table part live all at = cc
in_tables shards (first ∷ rest) zero part live all at = in_books shards part first.state.books live (slice_get first.state.books part) refl at (λ book here. all.0.1 part book here)
in_tables shards (first ∷ rest) (suc table) part live all at = in_tables shards rest table part live all.1 at

pub keys_law : KeysLaw
keys_law setup script output new table part live key found can serves at is =
    let all = lines_lie setup.shards (start setup) (parts is_line_end script) output new (start_served setup can) (refl, empty_lie setup.shards setup.tables) serves in
    in_tables setup.shards new.tables table part live all.1 at key found is
