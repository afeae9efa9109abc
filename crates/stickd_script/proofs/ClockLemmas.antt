-- The clock of a line stands.
use Rattle.std.proofs.Common.{◌≡◌, ℕ, ap, subst, ◌∙◌, List, [], ◌∷◌}
use Rattle.base_lines.specs.Chain.{Chain, StopsIn}
use Rattle.shard_book.specs.BooksState.{BooksState}
use Rattle.table_cli.specs.Answers.{Answers, AnswersLine, commands_of}
use Rattle.table_cli.specs.States.{CommandState}
use Rattle.admit_drive.specs.Tables.{TableState}
use Rattle.stickd_script.specs.Script.{answering, at_moment, refusing, standing}

clock_stands : (commands : List (List ℕ)) (old : CommandState BooksState ℕ) (text : List ℕ) (new : CommandState BooksState ℕ) → Chain (Answers answering refusing standing) old commands text new → new.clock ≡ old.clock
clock_stands [] old text new chain = ap (λ (s : CommandState BooksState ℕ). s.clock) chain.1
clock_stands (command ∷ commands) old text new chain = clock_stands commands chain.1 chain.2 new chain.4 ∙ chain.3.1.1

module _ (moment : ℕ) (old new : List TableState) (before after : List TableState) (clock later : ℕ) (is : clock ≡ moment) (was : before ≡ old) (now : after ≡ new) where
  begins : record { tables = before; clock = clock } ≡ at_moment moment old
  begins = λ k. record { tables = was k; clock = is k }

  ends : later ≡ clock → record { tables = after; clock = later } ≡ at_moment moment new
  ends stays = let at : later ≡ moment = stays ∙ is in λ k. record { tables = now k; clock = at k }

  -- what commands are answered at a moment
  pub line_said : (commands text : List ℕ) → AnswersLine answering refusing standing (record { tables = before; clock = clock }) commands text (record { tables = after; clock = later })
      → AnswersLine answering refusing standing (at_moment moment old) commands text (at_moment moment new)
  line_said commands text said =
      let stays : later ≡ clock = clock_stands (commands_of commands) (record { tables = before; clock = clock }) text (record { tables = after; clock = later }) said in
      subst (λ s. AnswersLine answering refusing standing s commands text (at_moment moment new)) begins
      (subst (λ s. AnswersLine answering refusing standing (record { tables = before; clock = clock }) commands text s) (ends stays) said)

  -- and where it stops
  pub line_stopped : (commands : List (List ℕ)) (count : ℕ) (text : List ℕ) → StopsIn (Answers answering refusing standing) (record { tables = before; clock = clock }) commands count text (record { tables = after; clock = later })
      → StopsIn (Answers answering refusing standing) (at_moment moment old) commands count text (at_moment moment new)
  line_stopped commands count text stops =
      let stays : later ≡ clock = stops.could.1.1 ∙ clock_stands stops.done (record { tables = before; clock = clock }) stops.done_text stops.between stops.chain in
      subst (λ s. StopsIn (Answers answering refusing standing) s commands count text (at_moment moment new)) begins
      (subst (λ s. StopsIn (Answers answering refusing standing) (record { tables = before; clock = clock }) commands count text s) (ends stays) stops)
