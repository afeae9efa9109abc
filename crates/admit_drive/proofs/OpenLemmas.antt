-- The tables of a setup, opened one after another.
use Rattle.std.proofs.Common.{◌≡◌, ℕ, ◌+◌, ◌<◌, sym, ap, ◌∙◌, List, [], ◌∷◌, ◌++◌, length, map, take, get_or}
use Rattle.std.proofs.lemmas.List.{map-append, map_more}
use Rattle.std.proofs.lemmas.List.FromFn.{length-map-range_with_len}
use Rattle.rule_model.specs.declared.sections.NamedSpec.{NamedSpec}
use Rattle.shard_book.specs.BookState.{opened}
use Rattle.shard_book.specs.BooksState.{BooksState, opened_books}
use Rattle.shard_book.specs.Keeping.{part_of}
use Rattle.shard_book.specs.declared.named.Named.{Named}
use Rattle.admit_drive.specs.Tables.{empty_table_of, table_states}
use Rattle.shard_port.specs.Books.{seen}

opened_seen : (shards : ℕ) (named : NamedSpec) (made : Named BooksState) → made.name ≡ named.name → made.keeper ≡ opened_books named.spec shards → seen made ≡ empty_table_of shards named
opened_seen shards named made name keeper =
    let count : length made.keeper.books ≡ shards = ap (λ (b : BooksState). length b.books) keeper ∙ length-map-range_with_len (λ i. opened (part_of named.spec shards i)) 0 shards in
    (λ k. record { name = name k; spec = (keeper k).spec; shards = count k; state = keeper k })

-- one table more
pub opened_more : (shards : ℕ) (items : List NamedSpec) (i : ℕ) (named : NamedSpec) (old new : List (Named BooksState)) (made : Named BooksState) → table_states old ≡ map (empty_table_of shards) (take i items) → i < length items → named ≡ get_or items i named
    → made.name ≡ named.name → made.keeper ≡ opened_books named.spec shards → new ≡ old ++ made ∷ [] → table_states new ≡ map (empty_table_of shards) (take (i + 1) items)
opened_more shards items i named old new made were within is name keeper more =
    let one : seen made ≡ empty_table_of shards (get_or items i named) = opened_seen shards named made name keeper ∙ ap (empty_table_of shards) is in
    ap table_states more ∙ map-append seen old (made ∷ []) ∙ (λ k. were k ++ one k ∷ []) ∙ sym (map_more (empty_table_of shards) items i named within)
