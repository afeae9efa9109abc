-- Before any connection goes on, the shard of a key is empty, and nothing has tracked.
use Rattle.std.proofs.Common.{◌≡◌, ℕ, zero, suc, ◌+◌, ◌<◌, refl, sym, ap, ◌∙◌, arith, true, List, [], map, slice_get, Option, Some, None, option_map}
use Rattle.std.specs.List.{range_with_len}
use Rattle.std.specs.Option.{option_and_then}
use Rattle.std.proofs.lemmas.Bool.{false≢true}
use Rattle.std.proofs.lemmas.Option.{slice_get-map}
use Rattle.std.proofs.Math.Nat.{mod-lt}
use Rattle.stick_key.specs.Shard.{fnv1a, shard}
use Rattle.stored_data.specs.declared.datum.Datum.TheVariants.{ConnCur}
use Rattle.stick_model.specs.Key.{Key}
use Rattle.stick_model.specs.State.{empty_table}
use Rattle.rule_model.specs.declared.sections.NamedSpec.{NamedSpec}
use Rattle.rule_model.specs.declared.sections.Setup.{Setup}
use Rattle.rule_eval.specs.Limit.{LimitsFirst}
use Rattle.rule_eval.proofs.ShownLemmas.{conn_cur_read}
use Rattle.rule_eval.specs.Tables.{has_datum}
use Rattle.shard_book.specs.BookState.{BookState, opened}
use Rattle.shard_book.specs.Keeping.{part_of}
use Rattle.admit_core.specs.Connection.{Connection, arrived}
use Rattle.admit_drive.specs.Tables.{CanOpen, TableState, book_at, empty_table_of, empty_tables}
use Rattle.admit_world.specs.World.{begun}
use Rattle.shard_port.specs.declared.reference.Reference.{Reference}
use Rattle.admit_world.specs.declared.visit.Visit.{Visit}
use Rattle.admit_world.proofs.LimitLemmas.{IsLimited}
use Rattle.admit_drive.proofs.ShardLemmas.{live_in}
use Rattle.admit_drive.proofs.StartLemmas.{from_map}

made_at : {X : Type 0} (f : ℕ → X) (a n i j : ℕ) → i < n → a + i ≡ j → slice_get (map f (range_with_len a n)) i ≡ Some (f j)
made_at f a zero i j within is = absurd (omega (arith, within))
made_at f a (suc n) zero j within is = let same : a ≡ j = omega (arith, is) in ap (λ k. Some (f k)) same
made_at f a (suc n) (suc i) j within is = made_at f (a + 1) n i j (omega (arith, within)) (omega (arith, is))

from_none : (n : ℕ) → 0 + n ≡ n
from_none n = omega arith

opened_at : (setup : Setup) (table : ℕ) (key : Key) (named : NamedSpec) → CanOpen setup → slice_get setup.tables table ≡ Some named
    → book_at (empty_tables setup) table (shard key setup.shards) ≡ Some (opened (part_of named.spec setup.shards (shard key setup.shards)))
opened_at setup table key named opens is =
    let part : ℕ = shard key setup.shards in
    let found : slice_get (empty_tables setup) table ≡ Some (empty_table_of setup.shards named) = slice_get-map (empty_table_of setup.shards) setup.tables table ∙ ap (option_map (empty_table_of setup.shards)) is in
    ap (λ o. option_and_then (λ (t : TableState). slice_get t.state.books part) o) found
    ∙ made_at (λ i. opened (part_of named.spec setup.shards i)) 0 setup.shards part part (mod-lt (fnv1a key) opens.some) (from_none part)

pub begun_limited : (setup : Setup) (visits : List Visit) (name : List ℕ) (table limit : ℕ) (key : Key) → CanOpen setup → LimitsFirst setup name table limit → IsLimited setup table limit key (begun setup visits)
begun_limited setup visits name table limit key opens first = by (slice_get setup.tables table) refl first.stored
  where
    by : (o : Option NamedSpec) → slice_get setup.tables table ≡ o → has_datum o ConnCur ≡ true → IsLimited setup table limit key (begun setup visits)
    by None is stored = absurd (false≢true stored)
    by (Some named) is stored = record {
      spec = part_of named.spec setup.shards (shard key setup.shards);
      events = [];
      replies = [];
      live = empty_table (part_of named.spec setup.shards (shard key setup.shards));
      stores = sym (conn_cur_read named.spec.columns) ∙ stored;
      at = live_in (empty_tables setup) table (shard key setup.shards) ∙ ap (option_map (λ (book : BookState). book.live)) (opened_at setup table key named opens is);
      run = refl;
      recorded = record { book = opened (part_of named.spec setup.shards (shard key setup.shards)); at = opened_at setup table key named opens is; base = refl; calls = refl };
      each = λ i connection entry there holds.
          let from = from_map (λ (visit : Visit). arrived {R = Reference} setup visit.samples) visits i connection there in
          let none : None ≡ Some entry = sym (ap (λ (c : Connection Reference). c.progress.held.sc0) from.2) ∙ holds in
          cc;
    }
