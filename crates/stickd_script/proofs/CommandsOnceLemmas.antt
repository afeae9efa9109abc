-- Commands to which nothing is refused are answered one text, and lead to one state, whatever slots references have.
use Rattle.std.proofs.Common.{◌≡◌, ℕ, zero, suc, suc, ◌+◌, refl, sym, ap, subst, ◌∙◌, true, not, cond, nat_lt, Option, Some, None, Result, Ok, Err, List, [], ◌∷◌, ◌++◌, length, slice_get, codes, position}
use Rattle.std.specs.Prelude.{option_map, slice_set}
use Rattle.std.specs.List.{AllByRecursion, position_or_len, range_with_len}
use Rattle.std.specs.Str.{bytes_eq}
use Rattle.std.proofs.lemmas.Option.{slice_get-map}
use Rattle.base_lines.specs.Chain.{Chain}
use Rattle.table_texts.specs.Text.{header_text}
use Rattle.stick_key.specs.KeyText.{ReadsOneKey}
use Rattle.stick_model.specs.declared.events.Event.{Event}
use Rattle.stick_model.specs.declared.events.Event.TheVariants.{List as ListRows}
use Rattle.stick_model.specs.declared.filters.Filter.TheVariants as filters
use Rattle.shard_book.specs.BooksState.{BooksState}
use Rattle.table_texts.specs.Form.{Form, Request, Nothing, Unknown, Tables, Of, form_of}
use Rattle.table_texts.specs.Request.{Asks}
use Rattle.table_texts.specs.Seen.{words_of}
use Rattle.table_texts.specs.Texts.{reply_text}
use Rattle.table_texts.specs.declared.message.Message.{Message}
use Rattle.table_cli.specs.Answers.{place_of, used_of}
use Rattle.stickd_script.specs.Script.{answering, refusing}
use Rattle.table_cli.specs.Shards.{AsksInTurn, shards_of}
use Rattle.shard_book.specs.Total.{IsShown, total}
use Rattle.admit_drive.specs.Tables.{TableState}
use Rattle.stickd_script.specs.Unrefused.{AsksUnrefused, CommandUnrefused, DoesUnrefused, FormUnrefused, HeadUnrefused}
use Rattle.admit_drive.proofs.SumLemmas.{some_same}
use Rattle.stickd_script.proofs.ApartLemmas.{shown_strict, total_apart}
use Rattle.stickd_script.proofs.CommandsSoLemmas.{form_so}
use Rattle.stickd_script.proofs.KeyLemmas.{Kept, form_kept}
use Rattle.stickd_script.proofs.AskLemmas.{asks_commanded, asks_once}
use Rattle.stickd_script.proofs.LabelLemmas.{PlainTable, plain_table, plain_tables}
use Rattle.stickd_script.proofs.PlainCommandLemmas.{is_commanded}
use Rattle.stickd_script.proofs.TurnLemmas.{map_set, plains, shown_once, turn_once}

pub record AreAnswered (one other : List ℕ) (new later : List TableState) : Type 0 where
  pub text : one ≡ other
  pub tables : plain_tables new ≡ plain_tables later

record IsDone (one other : List ℕ) (new later : BooksState) : Type 0 where
  pub text : one ≡ other
  pub shards : plains new ≡ plains later

-- ---- places

set_plain : (tables : List TableState) (place : ℕ) (table : TableState) → plain_tables (slice_set tables place table) ≡ slice_set (plain_tables tables) place (plain_table table)
set_plain tables place table = map_set plain_table tables place table

some_table : (a b : PlainTable) → Some a ≡ Some b → a ≡ b
some_table a b e = cc

at_plain : (old again : List TableState) (place : ℕ) (table twin : TableState) → plain_tables old ≡ plain_tables again → slice_get old place ≡ Some table → slice_get again place ≡ Some twin → plain_table table ≡ plain_table twin
at_plain old again place table twin same a b =
    some_table (plain_table table) (plain_table twin)
    (ap (option_map plain_table) (sym a) ∙ sym (slice_get-map plain_table old place) ∙ ap (λ tables. slice_get tables place) same ∙ slice_get-map plain_table again place ∙ ap (option_map plain_table) b)

-- a table in which its shards went on
goes_on : (old again : List TableState) (place : ℕ) (table twin : TableState) (state other : BooksState) → plain_tables old ≡ plain_tables again → plain_table table ≡ plain_table twin → plains state ≡ plains other
    → plain_tables (slice_set old place (record table { state = state })) ≡ plain_tables (slice_set again place (record twin { state = other }))
goes_on old again place table twin state other same is shards =
    set_plain old place (record table { state = state })
    ∙ (λ k. slice_set (same k) place (record { name = (is k).name; spec = (is k).spec; shards = (is k).shards; states = shards k }))
    ∙ sym (set_plain again place (record twin { state = other }))

-- the place of a name, by names alone
named_len : (name : List ℕ) (tables : List TableState) → position_or_len (λ (table : TableState). bytes_eq table.name name) tables ≡ position_or_len (λ (table : PlainTable). bytes_eq table.name name) (plain_tables tables)
named_len name [] = refl
named_len name (table ∷ tables) = ap (λ n. cond (not (bytes_eq table.name name)) (1 + n) 0) (named_len name tables)

counted : (tables : List TableState) → length tables ≡ length (plain_tables tables)
counted [] = refl
counted (table ∷ tables) = ap suc (counted tables)

place_plain : (name : List ℕ) (tables : List TableState) → place_of name tables ≡ position (λ (table : PlainTable). bytes_eq table.name name) (plain_tables tables)
place_plain name tables = (λ k. cond (nat_lt (named_len name tables k) (counted tables k)) (Some (named_len name tables k)) None)

place_once : (name : List ℕ) (old again : List TableState) → plain_tables old ≡ plain_tables again → place_of name old ≡ place_of name again
place_once name old again same = place_plain name old ∙ ap (position (λ (table : PlainTable). bytes_eq table.name name)) same ∙ sym (place_plain name again)

-- ---- a request

does_once : (shards : ℕ) (table twin : TableState) (asked : Result Event Message) (one other : List ℕ) (new later : BooksState) → plain_table table ≡ plain_table twin → Kept shards table
    → ((event : Event) → asked ≡ Ok event → is_commanded event ≡ true) → DoesUnrefused table asked one new → DoesUnrefused twin asked other later → IsDone one other new later
does_once shards table twin (Ok event) one other new later is kept commanded a b =
    let turn = turn_once event (shards_of table.shards event) table.state twin.state a.0 b.0 new later (commanded event refl) (ap (λ (t : PlainTable). t.states) is) a.2
    (subst (λ n. AsksInTurn answering refusing event (shards_of n event) twin.state b.0 None later) (sym (ap (λ (t : PlainTable). t.shards) is)) b.2) in
    let apart = total_apart shards table.shards event table.state a.0 new kept.0 (commanded event refl) a.2 kept.1.0 kept.1.1 in
    let also : IsShown (total a.0) b.1 = subst (λ r. IsShown (total r) b.1) (sym turn.replies) b.3 in
    let shown : a.1 ≡ b.1 = shown_once (total a.0) a.1 b.1 a.3 also (shown_strict (total a.0) a.1 apart a.3) (shown_strict (total a.0) b.1 apart also) in
    record { text = a.4 ∙ (λ k. reply_text (is k).name (is k).spec (shown k)) ∙ sym b.4; shards = turn.shards }
does_once shards table twin (Err message) one other new later is kept commanded a b =
    record { text = a.0 ∙ sym b.0; shards = ap plains a.1 ∙ ap (λ (t : PlainTable). t.states) is ∙ sym (ap plains b.1) }

kept_at : (shards : ℕ) (tables : List TableState) (place : ℕ) (table : TableState) → AllByRecursion (Kept shards) tables → slice_get tables place ≡ Some table → Kept shards table
kept_at shards [] place table all at = cc
kept_at shards (first ∷ rest) zero table all at = subst (Kept shards) (some_same first table at) all.0
kept_at shards (first ∷ rest) (suc place) table all at = kept_at shards rest place table all.1 at

module _ (one_key : ReadsOneKey) (shards : ℕ) where
  asked_once : (moment : ℕ) (request : Request) (place : Option ℕ) (old again : List TableState) (one other : List ℕ) (new later : List TableState) → plain_tables old ≡ plain_tables again → AllByRecursion (Kept shards) old
      → AsksUnrefused moment request place old one new → AsksUnrefused moment request place again other later → AreAnswered one other new later
  asked_once moment request None old again one other new later same all a b = record { text = a.0 ∙ sym b.0; tables = ap plain_tables a.1 ∙ same ∙ sym (ap plain_tables b.1) }
  asked_once moment request (Some place) old again one other new later same all a b =
      let is : plain_table a.0 ≡ plain_table b.0 = at_plain old again place a.0 b.0 same a.3 b.3 in
      let kind : b.0.spec.kind ≡ a.0.spec.kind = sym (ap (λ (t : PlainTable). t.spec.kind) is) in
      let asked : b.2 ≡ a.2 = sym (asks_once one_key a.0.spec.kind moment request a.2 b.2 a.4 (subst (λ k. Asks k moment request b.2) kind b.4) a.5 b.5) in
      let done = does_once shards a.0 b.0 a.2 one other a.1 b.1 is (kept_at shards old place a.0 all a.3) (λ event made. asks_commanded a.0.spec.kind moment request event (subst (Asks a.0.spec.kind moment request) made a.4))
      a.6 (subst (λ r. DoesUnrefused b.0 r other b.1) asked b.6) in
      record { text = done.text; tables = ap plain_tables a.7 ∙ goes_on old again place a.0 b.0 a.1 b.1 same is done.shards ∙ sym (ap plain_tables b.7) }

  head_once : (moment place : ℕ) (old again : List TableState) (one other : List ℕ) (new later : List TableState) → plain_tables old ≡ plain_tables again → HeadUnrefused moment old place one new → HeadUnrefused moment again place other later
      → AreAnswered one other new later
  head_once moment place old again one other new later same a b =
      let is : plain_table a.0 ≡ plain_table b.0 = at_plain old again place a.0 b.0 same a.3 b.3 in
      let turn = turn_once (ListRows moment filters.Nothing) (range_with_len 0 a.0.shards) a.0.state b.0.state a.2 b.2 a.1 b.1 refl (ap (λ (t : PlainTable). t.states) is) a.4
      (subst (λ n. AsksInTurn answering refusing (ListRows moment filters.Nothing) (range_with_len 0 n) b.0.state b.2 None b.1) (sym (ap (λ (t : PlainTable). t.shards) is)) b.4) in
      record {
        text = a.5 ∙ (λ k. header_text (is k).name (is k).spec.kind (is k).spec.size (used_of (total (turn.replies k)))) ∙ sym b.5;
        tables = ap plain_tables a.6 ∙ goes_on old again place a.0 b.0 a.1 b.1 same is turn.shards ∙ sym (ap plain_tables b.6);
      }

  heads_once : (moment : ℕ) (places : List ℕ) (old again : List TableState) (one other : List ℕ) (new later : List TableState) → plain_tables old ≡ plain_tables again
      → Chain (HeadUnrefused moment) old places one new → Chain (HeadUnrefused moment) again places other later → AreAnswered one other new later
  heads_once moment [] old again one other new later same a b = record { text = a.0 ∙ sym b.0; tables = ap plain_tables a.1 ∙ same ∙ sym (ap plain_tables b.1) }
  heads_once moment (place ∷ places) old again one other new later same a b =
      let first = head_once moment place old again a.0 b.0 a.1 b.1 same a.3 b.3 in
      let rest = heads_once moment places a.1 b.1 a.2 b.2 new later first.tables a.4 b.4 in
      record { text = a.5 ∙ (λ k. first.text k ++ rest.text k) ∙ sym b.5; tables = rest.tables }

  form_once : (moment : ℕ) (form : Form) (old again : List TableState) (one other : List ℕ) (new later : List TableState) → plain_tables old ≡ plain_tables again → AllByRecursion (Kept shards) old → FormUnrefused moment form old one new → FormUnrefused moment form again other later
      → AreAnswered one other new later
  form_once moment Nothing old again one other new later same all a b = record { text = a.0 ∙ sym b.0; tables = ap plain_tables a.1 ∙ same ∙ sym (ap plain_tables b.1) }
  form_once moment Unknown old again one other new later same all a b = record { text = a.0 ∙ sym b.0; tables = ap plain_tables a.1 ∙ same ∙ sym (ap plain_tables b.1) }
  form_once moment Tables old again one other new later same all a b =
      let count : length again ≡ length old = counted again ∙ ap length (sym same) ∙ sym (counted old) in
      let heads = heads_once moment (range_with_len 0 (length old)) old again a.0 b.0 new later same a.1 (subst (λ n. Chain (HeadUnrefused moment) again (range_with_len 0 n) b.0 later) count b.1) in
      record { text = a.2 ∙ ap (λ text. text ++ codes "\n") heads.text ∙ sym b.2; tables = heads.tables }
  form_once moment (Of name request) old again one other new later same all a b =
      asked_once moment request (place_of name old) old again one other new later same all a (subst (λ place. AsksUnrefused moment request place again other later) (sym (place_once name old again same)) b)

  pub commands_once : (moment : ℕ) (commands : List (List ℕ)) (old again : List TableState) (one other : List ℕ) (new later : List TableState) → plain_tables old ≡ plain_tables again → AllByRecursion (Kept shards) old
      → Chain (CommandUnrefused moment) old commands one new → Chain (CommandUnrefused moment) again commands other later → AreAnswered one other new later
  commands_once moment [] old again one other new later same all a b = record { text = a.0 ∙ sym b.0; tables = ap plain_tables a.1 ∙ same ∙ sym (ap plain_tables b.1) }
  commands_once moment (command ∷ commands) old again one other new later same all a b =
      let first = form_once moment (form_of (words_of command)) old again a.0 b.0 a.1 b.1 same all a.3 b.3 in
      let rest = commands_once moment commands a.1 b.1 a.2 b.2 new later first.tables
      (form_kept shards moment (form_of (words_of command)) old a.0 a.1 (form_so moment (form_of (words_of command)) old a.0 a.1 a.3) all) a.4 b.4 in
      record { text = a.5 ∙ (λ k. first.text k ++ rest.text k) ∙ sym b.5; tables = rest.tables }
