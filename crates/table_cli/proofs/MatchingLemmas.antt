-- On rows that match several filters, and on tables that show them.
use Rattle.std.proofs.Common.{◌≡◌, ◌∙◌, ◌<◌, ℕ, Some, None, Result, List, length, get_or, set, map, position, refl, sym, subst}
use Rattle.std.specs.Str.{bytes_eq}
use Rattle.stick_model.specs.declared.specification.Spec.{Spec}
use Rattle.shard_book.specs.NamedTables.{NamedState, state_of, states_of}
use Rattle.shard_book.specs.declared.named.Named.{Named}
use Rattle.table_texts.specs.Comparisons.{ReadsComparisons}
use Rattle.table_texts.specs.Texts.{message_text}
use Rattle.table_texts.specs.declared.comparisons.Comparison.{Comparison}
use Rattle.table_texts.specs.declared.message.Message.{Message}
use Rattle.table_texts.specs.declared.message.Message.TheVariants.{NoSuchTable}
use Rattle.table_cli.specs.Answers.{place_of}
use Rattle.table_cli.specs.declared.clear_matching.Deed.{Deed}
use Rattle.table_cli.specs.Matching.{DoesAt, DoesRead}
use Rattle.table_cli.specs.Shards.{Answering, Refusing}
use Rattle.table_cli.proofs.TableLemmas.{position-map, seen_after, seen_at}

module _ {K S : Type 0} (answers : Answering S) (refuses : Refusing S) (moment : ℕ) (spec : K → Spec) (parts : K → ℕ) (state : K → S) where
  -- the table at the place of a name does what is asked
  pub does_at : (deed : Deed) (words : List (List ℕ)) (name : List ℕ) (tables : List (Named K)) (place : ℕ) (was now : Named K) (text : List ℕ) (read : Result (List Comparison) Message)
      → place < length tables → was ≡ get_or tables place was → Some place ≡ position (λ table. bytes_eq table.name name) tables
      → now.name ≡ was.name → spec now.keeper ≡ spec was.keeper → parts now.keeper ≡ parts was.keeper
      → ReadsComparisons words read → DoesRead answers refuses moment deed read (state_of spec parts state was) text (state now.keeper)
      → DoesAt answers refuses moment deed words (place_of name (states_of spec parts state tables)) (states_of spec parts state tables) text (states_of spec parts state (set tables place now))
  does_at deed words name tables place was now text read within is found same kept divided reads does =
      let f : Named K → NamedState S = state_of spec parts state in
      let placed : place_of name (map f tables) ≡ Some place = position-map (λ (table : NamedState S). bytes_eq table.name name) f tables ∙ sym found in
      subst (λ o. DoesAt answers refuses moment deed words o (map f tables) text (map f (set tables place now))) (sym placed)
      (f was, state now.keeper, read, seen_at spec parts state tables place was within is, reads, does, seen_after answers refuses spec parts state tables place was now same kept divided)

  -- there is no table of the name
  pub does_none : (deed : Deed) (words : List (List ℕ)) (name : List ℕ) (tables : List (Named K)) → None ≡ position (λ table. bytes_eq table.name name) tables
      → DoesAt answers refuses moment deed words (place_of name (states_of spec parts state tables)) (states_of spec parts state tables) (message_text NoSuchTable) (states_of spec parts state tables)
  does_none deed words name tables none =
      let f : Named K → NamedState S = state_of spec parts state in
      let placed : place_of name (map f tables) ≡ None = position-map (λ (table : NamedState S). bytes_eq table.name name) f tables ∙ sym none in
      subst (λ o. DoesAt answers refuses moment deed words o (map f tables) (message_text NoSuchTable) (map f tables)) (sym placed) (refl, refl)
