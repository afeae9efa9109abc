-- A move keeps the tables those of their setup, and each book's record but for the calls behind it.
use Rattle.std.proofs.Common.{◌≡◌, ◌⊎◌, inl, inr, ⊎_elim, ℕ, zero, suc, refl, sym, ap, subst, ◌∙◌, Bool, true, false, List, [], ◌∷◌, ◌++◌, length, slice_get, slice_set, Option, Some, None, option_map}
use Rattle.std.proofs.lemmas.List.{length-set}
use Rattle.std.proofs.lemmas.Option.{slice_get-map}
use Rattle.rule_model.specs.declared.sections.NamedSpec.{NamedSpec}
use Rattle.rule_model.specs.declared.sections.Setup.{Setup}
use Rattle.stick_model.specs.Limits.{IsTableEvent}
use Rattle.stick_model.specs.Refusals.{has_life}
use Rattle.stick_model.specs.State.{State}
use Rattle.stick_model.specs.declared.events.Event.{Event}
use Rattle.stick_model.specs.declared.replies.Reply.{Reply}
use Rattle.shard_book.specs.BookState.{BookState, Extends, IsBook, recorded}
use Rattle.shard_book.specs.BooksState.{AreBooks, BooksState, ExtendsAt, LivesAt, live_states}
use Rattle.shard_book.proofs.BookLemmas.{book_more}
use Rattle.shard_book.proofs.BooksLemmas.{extended_are_books}
use Rattle.admit_core.specs.Connection.{Connection, need}
use Rattle.admit_core.specs.declared.need.Need.{Need}
use Rattle.admit_core.specs.declared.need.Need.TheVariants as needs
use Rattle.admit_drive.proofs.SumLemmas.{some_same}
use Rattle.admit_drive.specs.Calls.{AnswersAt, call_of}
use Rattle.admit_drive.specs.Moves.{Makes, Moves, MovesBy}
use Rattle.admit_drive.specs.Tables.{AreTablesOf, IsTableOf, TableState}
use Rattle.admit_port.specs.Calls.{Call}
use Rattle.shard_port.specs.Books.{connections_seat}
use Rattle.shard_port.specs.declared.reference.Reference.{Reference}

-- ---- the books of one table

-- the item at a place after a write: that which was written, or the one that was there
pub get_after_set : {X : Type 0} (xs : List X) (i j : ℕ) (y x : X) → slice_get (slice_set xs i y) j ≡ Some x → ((j ≡ i) × (x ≡ y)) ⊎ (slice_get xs j ≡ Some x)
get_after_set [] i j y x e = inr e
get_after_set (z ∷ xs) zero zero y x e = inl (refl, sym (some_same y x e))
get_after_set (z ∷ xs) zero (suc j) y x e = inr e
get_after_set (z ∷ xs) (suc i) zero y x e = inr e
get_after_set (z ∷ xs) (suc i) (suc j) y x e = ⊎_elim (λ (here : (j ≡ i) × (x ≡ y)). inl (ap suc here.0, here.1)) (λ (there : slice_get xs j ≡ Some x). inr there) (get_after_set xs i j y x e)

live_at : (old : BooksState) (i : ℕ) (before : BookState) → slice_get old.books i ≡ Some before → slice_get (live_states old) i ≡ Some before.live
live_at old i before at = slice_get-map (λ (book : BookState). book.live) old.books i ∙ ap (option_map (λ (book : BookState). book.live)) at

extended_book : (seat : ℕ) (event : Event) (reply : Reply) (before after : BookState) → Extends before seat event reply after → IsBook before → IsTableEvent event → has_life before.live event ≡ true → IsBook after
extended_book seat event reply before after extends is taken lives =
    let made : IsBook (record { base = before.base; calls = before.calls ++ recorded seat event reply ∷ []; live = after.live }) = book_more before.base before.live before.calls seat event reply after.live is taken lives extends.step in
    subst IsBook (λ k. record { base = sym extends.base k; calls = sym extends.calls k; live = after.live }) made

same_live : (a b : State) → Some a ≡ Some b → a ≡ b
same_live a b e = cc

books_kept : (old after : BooksState) (i seat : ℕ) (event : Event) (reply : Reply) → AreBooks old → ExtendsAt old i seat event reply after → LivesAt (live_states old) i event → IsTableEvent event → AreBooks after
books_kept old after i seat event reply are extends lives taken =
    let live : lives.0 ≡ extends.before.live = same_live lives.0 extends.before.live (sym lives.1 ∙ live_at old i extends.before extends.at) in
    let has : has_life extends.before.live event ≡ true = subst (λ (s : State). has_life s event ≡ true) live lives.2 in
    let book : IsBook extends.after = extended_book seat event reply extends.before extends.after extends.extends (are.each i extends.before extends.at).0 taken has in
    subst AreBooks (sym extends.others) (extended_are_books old.spec old.books i seat event reply extends.before extends.after are extends.at extends.extends book)

-- ---- all tables

answered_tables : (setup : Setup) (old new : List TableState) (call : Call) (reply : Reply) → AreTablesOf setup old → AnswersAt old call reply new → AreTablesOf setup new
answered_tables setup old new call reply are answers =
    let before : TableState = answers.before in
    let changed : TableState = record before { state = answers.after } in
    let was = are.each call.table before answers.at in
    let spec : answers.after.spec ≡ before.state.spec = ap (λ (b : BooksState). b.spec) answers.extends.others in
    let count : length answers.after.books ≡ length before.state.books = ap (λ (b : BooksState). length b.books) answers.extends.others ∙ length-set before.state.books call.shard answers.extends.after in
    let kept : IsTableOf setup.shards was.0 changed = record {
      spec = spec ∙ was.2.spec;
      in_shards = count ∙ was.2.in_shards;
      books = books_kept before.state answers.after call.shard connections_seat call.event reply was.2.books answers.extends answers.lives answers.taken;
    } in
    record {
      some = are.some;
      count = ap length answers.others ∙ length-set old call.table changed ∙ are.count;
      each = λ i table at.
          ⊎_elim {C = (named : NamedSpec) × (slice_get setup.tables i ≡ Some named) × IsTableOf setup.shards named table}
          (λ (here : (i ≡ call.table) × (table ≡ changed)). (was.0, ap (λ n. slice_get setup.tables n) here.0 ∙ was.1, subst (λ (t : TableState). IsTableOf setup.shards was.0 t) (sym here.1) kept))
          (λ (there : slice_get old i ≡ Some table). are.each i table there)
          (get_after_set old call.table i changed table (ap (λ ts. slice_get ts i) (sym answers.others) ∙ at));
    }

-- ---- of a move

made_tables : (setup : Setup) (old new : List TableState) (connection after : Connection Reference) (call : Option Call) (was_refused : Bool) → AreTablesOf setup old → Makes old connection call new after was_refused → AreTablesOf setup new
made_tables setup old new connection after call true are makes = subst (AreTablesOf setup) (sym makes.1) are
made_tables setup old new connection after None false are makes = absurd makes
made_tables setup old new connection after (Some call) false are makes = answered_tables setup old new call makes.0 are makes.1

tables_by : (setup : Setup) (old new : List TableState) (connection after : Connection Reference) (now : ℕ) (wanted : Need) (was_refused : Bool) → AreTablesOf setup old → MovesBy now old connection wanted new after was_refused → AreTablesOf setup new
tables_by setup old new connection after now needs.Rest was_refused are moves = subst (AreTablesOf setup) (sym moves.0) are
tables_by setup old new connection after now needs.Finished was_refused are moves = subst (AreTablesOf setup) (sym moves.0) are
tables_by setup old new connection after now needs.Turn was_refused are moves = subst (AreTablesOf setup) (sym moves.0) are
tables_by setup old new connection after now (needs.Get table key) was_refused are moves = made_tables setup old new connection after (call_of connection.setup.shards now connection.progress.held (needs.Get table key)) was_refused are moves
tables_by setup old new connection after now (needs.Track slot table key) was_refused are moves = made_tables setup old new connection after (call_of connection.setup.shards now connection.progress.held (needs.Track slot table key)) was_refused are moves
tables_by setup old new connection after now (needs.Look slot) was_refused are moves = made_tables setup old new connection after (call_of connection.setup.shards now connection.progress.held (needs.Look slot)) was_refused are moves
tables_by setup old new connection after now (needs.Count slot act) was_refused are moves = made_tables setup old new connection after (call_of connection.setup.shards now connection.progress.held (needs.Count slot act)) was_refused are moves
tables_by setup old new connection after now (needs.Release slot) was_refused are moves = made_tables setup old new connection after (call_of connection.setup.shards now connection.progress.held (needs.Release slot)) was_refused are moves

-- the tables stay those of the setup
pub move_tables : (now : ℕ) (setup : Setup) (old : List TableState) (connection : Connection Reference) (new : List TableState) (after : Connection Reference) (was_refused : Bool) → AreTablesOf setup old
    → Moves now old connection new after was_refused → AreTablesOf setup new
move_tables now setup old connection new after was_refused are moves = tables_by setup old new connection after now (need connection) was_refused are moves
