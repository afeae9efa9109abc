-- What tables are without slots: their names, what they were made with, and their shards; and that connections change the shards alone.
use Rattle.std.proofs.Common.{◌≡◌, ℕ, zero, suc, refl, sym, ap, ◌∙◌, false, List, [], ◌∷◌, length, map, slice_get, Option, Some, None}
use Rattle.std.specs.Prelude.{option_map, slice_set}
use Rattle.std.proofs.lemmas.List.{length-set}
use Rattle.stick_model.specs.State.{State}
use Rattle.stick_model.specs.declared.replies.Reply.{Reply}
use Rattle.stick_model.specs.declared.specification.Spec.{Spec}
use Rattle.shard_book.specs.BookState.{BookState}
use Rattle.shard_book.specs.BooksState.{BooksState}
use Rattle.admit_core.specs.Connection.{Connection, need}
use Rattle.admit_core.specs.declared.need.Need.{Need}
use Rattle.admit_core.specs.declared.need.Need.TheVariants as needs
use Rattle.admit_drive.specs.Calls.{AnswersAt, call_of}
use Rattle.admit_drive.specs.Moves.{Makes, MovesBy}
use Rattle.admit_drive.specs.Tables.{TableState, shard_of}
use Rattle.admit_port.specs.Calls.{Call}
use Rattle.shard_port.specs.declared.reference.Reference.{Reference}
use Rattle.admit_drive.proofs.SumLemmas.{some_same}
use Rattle.admit_drive.proofs.OneMoveLemmas.{SameView, view}
use Rattle.admit_drive.proofs.PlainLemmas.{plain}
use Rattle.admit_drive.specs.Unrefused.{GoesUnrefused}
use Rattle.stickd_script.proofs.TurnLemmas.{plain_book, plains}

-- what a connection leaves of a table
pub record Label : Type 0 where
  pub name : List ℕ
  pub spec : Spec
  pub shards : ℕ
  pub books : ℕ

abbrev pub label : TableState → Label
label table = record { name = table.name; spec = table.spec; shards = table.shards; books = length table.state.books }

pub record PlainTable : Type 0 where
  pub name : List ℕ
  pub spec : Spec
  pub shards : ℕ
  pub states : List State

abbrev pub plain_table : TableState → PlainTable
plain_table table = record { name = table.name; spec = table.spec; shards = table.shards; states = plains table.state }

abbrev pub plain_tables : List TableState → List PlainTable
plain_tables tables = map plain_table tables

-- ---- from shards to tables, and back

same_books : (books others : List BookState) → length books ≡ length others → ((part : ℕ) → option_map plain (shard_of books part) ≡ option_map plain (shard_of others part)) → map plain_book books ≡ map plain_book others
same_books [] [] count same = refl
same_books [] (other ∷ others) count same = cc
same_books (book ∷ books) [] count same = cc
same_books (book ∷ books) (other ∷ others) count same =
    let rest : length books ≡ length others = cc in
    (λ k. some_same (plain book.live) (plain other.live) (same 0) k ∷ same_books books others rest (λ part. same (suc part)) k)

labels_cons : (a b : Label) (xs ys : List Label) → a ∷ xs ≡ b ∷ ys → (a ≡ b) × (xs ≡ ys)
labels_cons a b xs ys e = (cc, cc)

pub tables_by : (tables others : List TableState) → map label tables ≡ map label others → SameView (view tables) (view others) → plain_tables tables ≡ plain_tables others
tables_by [] [] labels same = refl
tables_by [] (other ∷ others) labels same = cc
tables_by (table ∷ tables) [] labels same = cc
tables_by (table ∷ tables) (other ∷ others) labels same =
    let parts = labels_cons (label table) (label other) (map label tables) (map label others) labels in
    let books : plains table.state ≡ plains other.state = same_books table.state.books other.state.books (ap (λ (l : Label). l.books) parts.0) (λ part. same 0 part) in
    (λ k. record { name = (parts.0 k).name; spec = (parts.0 k).spec; shards = (parts.0 k).shards; states = books k } ∷ tables_by tables others parts.1 (λ place part. same (suc place) part) k)

plain_shard : (books : List BookState) (part : ℕ) → option_map plain (shard_of books part) ≡ slice_get (map plain_book books) part
plain_shard [] part = refl
plain_shard (book ∷ books) zero = refl
plain_shard (book ∷ books) (suc part) = plain_shard books part

-- a shard of plain tables
abbrev shard_in : List PlainTable → ℕ → ℕ → Option State
shard_in [] place part = None
shard_in (table ∷ tables) zero part = slice_get table.states part
shard_in (table ∷ tables) (suc place) part = shard_in tables place part

view_is : (tables : List TableState) (place part : ℕ) → view tables place part ≡ shard_in (plain_tables tables) place part
view_is [] place part = refl
view_is (table ∷ tables) zero part = plain_shard table.state.books part
view_is (table ∷ tables) (suc place) part = view_is tables place part

pub view_by : (tables others : List TableState) → plain_tables tables ≡ plain_tables others → SameView (view tables) (view others)
view_by tables others same place part = view_is tables place part ∙ ap (λ all. shard_in all place part) same ∙ sym (view_is others place part)

-- the labels of plain tables
abbrev label_in : PlainTable → Label
label_in table = record { name = table.name; spec = table.spec; shards = table.shards; books = length table.states }

books_counted : (books : List BookState) → length (map plain_book books) ≡ length books
books_counted [] = refl
books_counted (book ∷ books) = ap suc (books_counted books)

labels_are : (tables : List TableState) → map label tables ≡ map label_in (plain_tables tables)
labels_are [] = refl
labels_are (table ∷ tables) = (λ k. record { name = table.name; spec = table.spec; shards = table.shards; books = sym (books_counted table.state.books) k } ∷ labels_are tables k)

pub labels_by : (tables others : List TableState) → plain_tables tables ≡ plain_tables others → map label tables ≡ map label others
labels_by tables others same = labels_are tables ∙ ap (map label_in) same ∙ sym (labels_are others)

-- ---- what connections leave

set_same : (tables : List TableState) (place : ℕ) (before after : TableState) → slice_get tables place ≡ Some before → label after ≡ label before → map label (slice_set tables place after) ≡ map label tables
set_same [] place before after at same = refl
set_same (table ∷ tables) zero before after at same =
    let is : table ≡ before = some_same table before at in
    (λ k. (same ∙ ap label (sym is)) k ∷ map label tables)
set_same (table ∷ tables) (suc place) before after at same = ap (λ rest. label table ∷ rest) (set_same tables place before after at same)

answered_labels : (old new : List TableState) (call : Call) (reply : Reply) → AnswersAt old call reply new → map label new ≡ map label old
answered_labels old new call reply answers =
    let count : length answers.after.books ≡ length answers.before.state.books = ap (λ (b : BooksState). length b.books) answers.extends.others ∙ length-set answers.before.state.books call.shard answers.extends.after in
    let after : TableState = record (answers.before) { state = answers.after } in
    ap (map label) answers.others ∙ set_same old call.table answers.before after answers.at (λ k. record { name = answers.before.name; spec = answers.before.spec; shards = answers.before.shards; books = count k })

made_labels : (old new : List TableState) (connection after : Connection Reference) (call : Option Call) → Makes old connection call new after false → map label new ≡ map label old
made_labels old new connection after None makes = absurd makes
made_labels old new connection after (Some call) makes = answered_labels old new call makes.0 makes.1

moved_labels : (now : ℕ) (old new : List TableState) (connection after : Connection Reference) (wanted : Need) → MovesBy now old connection wanted new after false → map label new ≡ map label old
moved_labels now old new connection after needs.Rest moves = ap (map label) moves.0
moved_labels now old new connection after needs.Finished moves = ap (map label) moves.0
moved_labels now old new connection after needs.Turn moves = ap (map label) moves.0
moved_labels now old new connection after (needs.Get table key) moves = made_labels old new connection after (call_of connection.setup.shards now connection.progress.held (needs.Get table key)) moves
moved_labels now old new connection after (needs.Track slot table key) moves = made_labels old new connection after (call_of connection.setup.shards now connection.progress.held (needs.Track slot table key)) moves
moved_labels now old new connection after (needs.Look slot) moves = made_labels old new connection after (call_of connection.setup.shards now connection.progress.held (needs.Look slot)) moves
moved_labels now old new connection after (needs.Count slot act) moves = made_labels old new connection after (call_of connection.setup.shards now connection.progress.held (needs.Count slot act)) moves
moved_labels now old new connection after (needs.Release slot) moves = made_labels old new connection after (call_of connection.setup.shards now connection.progress.held (needs.Release slot)) moves

pub gone_labels : (now count : ℕ) (old new : List TableState) (connection after : Connection Reference) → GoesUnrefused now count old connection new after → map label new ≡ map label old
gone_labels now zero old new connection after goes = ap (map label) goes.0
gone_labels now (suc count) old new connection after goes =
    gone_labels now count goes.0 new goes.1 after goes.3 ∙ moved_labels now old goes.0 connection goes.1 (need connection) goes.2
