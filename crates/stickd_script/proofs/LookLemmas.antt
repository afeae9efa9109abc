-- Asking whether a shard has a place for an entry leaves each table what it was made with, the references that it has out, and its books.
use Rattle.std.proofs.Common.{◌≡◌, ℕ, sym, ap, subst, ◌∙◌, Option, Some, None, List, [], ◌∷◌, map, inl, inr}
use Rattle.std.specs.List.{AllByRecursion}
use Rattle.std.proofs.Math.Seq.{map-set_same}
use Rattle.stick_key.specs.Shard.{shard}
use Rattle.stick_model.specs.Key.{Key}
use Rattle.stick_model.specs.declared.specification.Spec.{Spec}
use Rattle.stick_model.specs.declared.events.Event.TheVariants.{List as ListRows}
use Rattle.stick_model.specs.declared.filters.Filter.TheVariants as filters
use Rattle.shard_book.specs.BooksState.{AreBooks, BooksState}
use Rattle.table_texts.specs.Form.{Form, Request, Nothing, Unknown, Tables, Of}
use Rattle.table_cli.specs.Answers.{place_of}
use Rattle.table_cli.specs.Room.{LooksAt, LooksFor, LooksOf, LooksWhere, key_asked}
use Rattle.table_cli.specs.declared.room.Room.{Room}
use Rattle.admit_drive.specs.Tables.{TableState}
use Rattle.stickd_script.specs.Guests.{IsServed, ScriptState}
use Rattle.stickd_script.specs.Script.{answering, refusing}
use Rattle.stickd_script.proofs.CommandBooks.{HasBooks, set_books, turn_books}
use Rattle.stickd_script.proofs.CommandLemmas.{kept_in, kept_of, turn_keeps}
use Rattle.stickd_script.proofs.ServedLemmas.{tables_books, tables_served}

-- ---- one shard

for_keeps : (moment : ℕ) (spec : Spec) (shards : ℕ) (old : BooksState) (key : Key) (room : Room) (new : BooksState) → LooksFor answering refusing moment spec shards old key room new → kept_of new ≡ kept_of old
for_keeps moment spec shards old key room new looks = elim looks [
  | inl same ↦ ap kept_of same.1
  | inr asked ↦ turn_keeps (ListRows moment (filters.Key key)) (shard key shards ∷ []) old (asked.0 ∷ []) None new tt asked.1
]

for_books : (moment : ℕ) (spec : Spec) (shards : ℕ) (old : BooksState) (key : Key) (room : Room) (new : BooksState) → LooksFor answering refusing moment spec shards old key room new → AreBooks old → AreBooks new
for_books moment spec shards old key room new looks are = elim looks [
  | inl same ↦ subst AreBooks (sym same.1) are
  | inr asked ↦ turn_books (ListRows moment (filters.Key key)) (shard key shards ∷ []) old (asked.0 ∷ []) None new asked.1 are
]

-- ---- a table

where_keeps : (moment : ℕ) (spec : Spec) (shards : ℕ) (old : BooksState) (key : Option Key) (room : Room) (new : BooksState) → LooksWhere answering refusing moment spec shards old key room new → kept_of new ≡ kept_of old
where_keeps moment spec shards old None room new looks = ap kept_of looks.1
where_keeps moment spec shards old (Some key) room new looks = for_keeps moment spec shards old key room new looks

where_books : (moment : ℕ) (spec : Spec) (shards : ℕ) (old : BooksState) (key : Option Key) (room : Room) (new : BooksState) → LooksWhere answering refusing moment spec shards old key room new → AreBooks old → AreBooks new
where_books moment spec shards old None room new looks are = subst AreBooks (sym looks.1) are
where_books moment spec shards old (Some key) room new looks are = for_books moment spec shards old key room new looks are

-- ---- all tables

at_keeps : (moment : ℕ) (request : Request) (place : Option ℕ) (old : List TableState) (room : Room) (new : List TableState) → LooksAt answering refusing moment request place old room new → map kept_in new ≡ map kept_in old
at_keeps moment request None old room new looks = ap (λ ts. map kept_in ts) looks.1
at_keeps moment request (Some place) old room new looks =
    let table : TableState = looks.0 in
    let state : BooksState = looks.1 in
    let kept : kept_of state ≡ kept_in table = where_keeps moment table.spec table.shards table.state (key_asked looks.2) room state looks.5 in
    ap (λ ts. map kept_in ts) looks.6 ∙ map-set_same kept_in old place (record table { state = state }) table (kept ∙ ap kept_in looks.3)

at_books : (moment : ℕ) (request : Request) (place : Option ℕ) (old : List TableState) (room : Room) (new : List TableState) → LooksAt answering refusing moment request place old room new → AllByRecursion HasBooks old → AllByRecursion HasBooks new
at_books moment request None old room new looks all = subst (AllByRecursion HasBooks) (sym looks.1) all
at_books moment request (Some place) old room new looks all =
    let table : TableState = looks.0 in
    subst (AllByRecursion HasBooks) (sym looks.6) (set_books old place table looks.1 looks.3 (where_books moment table.spec table.shards table.state (key_asked looks.2) room looks.1 looks.5) all)

look_keeps : (moment : ℕ) (form : Form) (old : List TableState) (room : Room) (new : List TableState) → LooksOf answering refusing moment form old room new → map kept_in new ≡ map kept_in old
look_keeps moment Nothing old room new looks = ap (λ ts. map kept_in ts) looks.1
look_keeps moment Unknown old room new looks = ap (λ ts. map kept_in ts) looks.1
look_keeps moment Tables old room new looks = ap (λ ts. map kept_in ts) looks.1
look_keeps moment (Of name request) old room new looks = at_keeps moment request (place_of name old) old room new looks

look_books : (moment : ℕ) (form : Form) (old : List TableState) (room : Room) (new : List TableState) → LooksOf answering refusing moment form old room new → AllByRecursion HasBooks old → AllByRecursion HasBooks new
look_books moment Nothing old room new looks all = subst (AllByRecursion HasBooks) (sym looks.1) all
look_books moment Unknown old room new looks all = subst (AllByRecursion HasBooks) (sym looks.1) all
look_books moment Tables old room new looks all = subst (AllByRecursion HasBooks) (sym looks.1) all
look_books moment (Of name request) old room new looks all = at_books moment request (place_of name old) old room new looks all

-- what stands before a script's lines stands behind that too
pub look_served : (moment : ℕ) (form : Form) (state : ScriptState) (room : Room) (tables : List TableState) → LooksOf answering refusing moment form state.tables room tables → IsServed state → IsServed (record state { tables = tables })
look_served moment form state room tables looks are =
    tables_served state tables (look_keeps moment form state.tables room tables looks) (look_books moment form state.tables room tables looks (tables_books state.setup state.tables are.tables)) are
