-- The clock of a line stands.
use Rattle.std.proofs.Common.{◌≡◌, ℕ, ap, subst, ◌∙◌, List, [], ◌∷◌}
use Rattle.base_lines.specs.Chain.{Chain, StopsIn}
use Rattle.shard_book.specs.NamedTables.{NamedState}
use Rattle.table_cli.specs.Answers.{Answers, AnswersLine, commands_of}
use Rattle.table_cli.specs.Shards.{Answering, Refusing}
use Rattle.table_cli.specs.States.{CommandState}
use Rattle.table_cli.specs.Loading.{IsAnswered, StopsShort, at_moment, standing}

module _ {S : Type 0} (answers : Answering S) (refuses : Refusing S) where
  clock_stands : (commands : List (List ℕ)) (old : CommandState S ℕ) (text : List ℕ) (new : CommandState S ℕ) → Chain (Answers answers refuses standing) old commands text new → new.clock ≡ old.clock
  clock_stands [] old text new chain = ap (λ (s : CommandState S ℕ). s.clock) chain.1
  clock_stands (command ∷ commands) old text new chain = clock_stands commands chain.1 chain.2 new chain.4 ∙ chain.3.1.1

  module _ (moment : ℕ) (old new : List (NamedState S)) (clock later : ℕ) (is : clock ≡ moment) where
    begins : record { tables = old; clock = clock } ≡ at_moment moment old
    begins = λ k. record { tables = old; clock = is k }

    ends : later ≡ clock → record { tables = new; clock = later } ≡ at_moment moment new
    ends stays = let at : later ≡ moment = stays ∙ is in λ k. record { tables = new; clock = at k }

    -- what a command is answered at a moment
    pub is_answered : (command text : List ℕ) → AnswersLine answers refuses standing (record { tables = old; clock = clock }) command text (record { tables = new; clock = later }) → IsAnswered answers refuses moment old command text new
    is_answered command text said =
        let stays : later ≡ clock = clock_stands (commands_of command) (record { tables = old; clock = clock }) text (record { tables = new; clock = later }) said in
        subst (λ s. AnswersLine answers refuses standing s command text (at_moment moment new)) begins (subst (λ s. AnswersLine answers refuses standing (record { tables = old; clock = clock }) command text s) (ends stays) said)

    -- and where it stops
    pub stops_short : (command : List ℕ) (count : ℕ) (text : List ℕ) → StopsIn (Answers answers refuses standing) (record { tables = old; clock = clock }) (commands_of command) count text (record { tables = new; clock = later })
        → StopsShort answers refuses moment old command new
    stops_short command count text stops =
        let stays : later ≡ clock = stops.could.1.1 ∙ clock_stands stops.done (record { tables = old; clock = clock }) stops.done_text stops.between stops.chain in (
          count,
          text,
          subst (λ s. StopsIn (Answers answers refuses standing) s (commands_of command) count text (at_moment moment new)) begins
              (subst (λ s. StopsIn (Answers answers refuses standing) (record { tables = old; clock = clock }) (commands_of command) count text s) (ends stays) stops),
        )
