-- What commands are answered where nothing is refused is one of the texts that they may be answered.
use Rattle.std.proofs.Common.{◌≡◌, inl, ℕ, zero, suc, slice_get, length, Result, Ok, Err, refl, sym, ap, Option, Some, None, List, [], ◌∷◌}
use Rattle.std.specs.Prelude.{slice_index_or}
use Rattle.std.specs.List.{range_with_len}
use Rattle.base_lines.specs.Chain.{Chain}
use Rattle.stick_model.specs.declared.events.Event.{Event}
use Rattle.shard_book.specs.BooksState.{BooksState}
use Rattle.table_texts.specs.Form.{Form, Request, Nothing, Unknown, Tables, Of, form_of}
use Rattle.table_texts.specs.Seen.{words_of}
use Rattle.table_texts.specs.declared.message.Message.{Message}
use Rattle.table_cli.specs.Answers.{Answers, AnswersForm, AsksOf, Does, HeadAt, place_of}
use Rattle.admit_drive.specs.Tables.{TableState}
use Rattle.admit_drive.proofs.SumLemmas.{some_same}
use Rattle.stickd_script.specs.Script.{answering, at_moment, refusing, standing}
use Rattle.stickd_script.specs.Unrefused.{AsksUnrefused, CommandUnrefused, DoesUnrefused, FormUnrefused, HeadUnrefused}

index_at : (tables : List TableState) (place : ℕ) (table : TableState) → slice_get tables place ≡ Some table → table ≡ slice_index_or tables place table
index_at [] place table at = refl
index_at (first ∷ rest) zero table at = sym (some_same first table at)
index_at (first ∷ rest) (suc place) table at = index_at rest place table at

does_so : (table : TableState) (asked : Result Event Message) (text : List ℕ) (state : BooksState) → DoesUnrefused table asked text state → Does answering refusing table asked text state
does_so table (Ok event) text state does = (does.0, None, does.2, (does.1, does.3, does.4))
does_so table (Err message) text state does = does

asks_so : (moment : ℕ) (request : Request) (place : Option ℕ) (old : List TableState) (text : List ℕ) (new : List TableState) → AsksUnrefused moment request place old text new → AsksOf answering refusing moment request place old text new
asks_so moment request None old text new asks = asks
asks_so moment request (Some place) old text new asks = (asks.0, asks.1, asks.2, index_at old place asks.0 asks.3, asks.4, does_so asks.0 asks.2 text asks.1 asks.6, asks.7)

heads_so : (moment : ℕ) (places : List ℕ) (old : List TableState) (text : List ℕ) (new : List TableState) → Chain (HeadUnrefused moment) old places text new
    → Chain (λ state place text next. HeadAt answering refusing moment state place (Ok text) next) old places text new
heads_so moment [] old text new heads = heads
heads_so moment (place ∷ places) old text new heads =
    let head = heads.3 in
    (heads.0, heads.1, heads.2, (head.0, head.1, head.2, None, index_at old place head.0 head.3, head.4, ap Ok head.5, head.6), heads_so moment places heads.1 heads.2 new heads.4, heads.5)

pub form_so : (moment : ℕ) (form : Form) (old : List TableState) (text : List ℕ) (new : List TableState) → FormUnrefused moment form old text new → AnswersForm answering refusing moment form old text new
form_so moment Nothing old text new says = says
form_so moment Unknown old text new says = says
form_so moment Tables old text new says = inl (says.0, heads_so moment (range_with_len 0 (length old)) old says.0 new says.1, inl says.2)
form_so moment (Of name request) old text new says = asks_so moment request (place_of name old) old text new says

pub commands_so : (moment : ℕ) (commands : List (List ℕ)) (old : List TableState) (text : List ℕ) (new : List TableState) → Chain (CommandUnrefused moment) old commands text new
    → Chain (Answers answering refusing standing) (at_moment moment old) commands text (at_moment moment new)
commands_so moment [] old text new says = (says.0, ap (at_moment moment) says.1)
commands_so moment (command ∷ commands) old text new says = (
  says.0,
  at_moment moment says.1,
  says.2,
  (moment, (refl, refl), form_so moment (form_of (words_of command)) old says.0 says.1 says.3),
  commands_so moment commands says.1 says.2 new says.4,
  says.5,
)
