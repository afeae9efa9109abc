use Rattle.std.proofs.Common.{◌≡◌, drop, fold, max, map, ℕ}
use Rattle.stick_model.specs.declared.specification.Spec.{Spec}
use Rattle.shard_book.specs.NamedTables.{NamedState, states_of}
use Rattle.table_cli.specs.Lives.{goes_on_at, life_of}
use Rattle.table_cli.proofs.lives.longest_life.Given as goal

-- those so far, and those that are left
abbrev pub invariant-loop-named : goal.invariant-loop-named
invariant-loop-named g l =
    let K = g.K.Keeper in
    record {
      longest : fold (λ (longest : ℕ) (spec : Spec). max longest (life_of spec)) l.longest (map (λ (table : NamedState K.State). table.spec) (states_of K.table K.parts K.state (drop l.named-index l.tables)))
          ≡ goes_on_at (states_of K.table K.parts K.state l.tables);
    }
