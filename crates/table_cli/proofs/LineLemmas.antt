-- A line that is loaded or skipped, before those that are left.
use Rattle.std.proofs.Common.{◌≡◌, ℕ, ◌+◌, Option, List, [], ◌∷◌, ◌++◌, inl, inr, sym, subst}
use Rattle.table_texts.specs.Form.{form_of}
use Rattle.table_texts.specs.Seen.{words_of}
use Rattle.shard_book.specs.NamedTables.{NamedState}
use Rattle.table_cli.specs.Shards.{Answering, Refusing}
use Rattle.table_cli.specs.SavedLines.{Fault, FaultAt, Line, Makes, line_of}
use Rattle.table_cli.specs.Loading.{Commands, Ends, FailsAt, IsPassed, Loads, LoadsAll, moment_of, noted}
use Rattle.table_cli.specs.Room.{LooksOf}
use Rattle.table_cli.specs.declared.room.Room.TheVariants.{Free}
use Rattle.table_cli.specs.declared.misfits.Misfits.{Misfits}

module _ {S : Type 0} (answers : Answering S) (refuses : Refusing S) (misfits : Misfits) (old now mid : List (NamedState S)) (all left : List (List ℕ)) (line : List ℕ) (rest : List (List ℕ)) (done : ℕ) where
  -- what the lines behind it do, all lines do
  pub loads_more : (before next : List FaultAt) (end : Option Fault)
      → ((skipped : List FaultAt) (new : List (NamedState S)) → LoadsAll answers refuses misfits (done + 1) now before left skipped new → LoadsAll answers refuses misfits 1 old [] all skipped new)
      → left ≡ line ∷ rest → Loads answers refuses now (line_of line) end mid → IsPassed misfits end → next ≡ before ++ noted (done + 1) end
      → (skipped : List FaultAt) (new : List (NamedState S)) → LoadsAll answers refuses misfits (done + 1 + 1) mid next rest skipped new → LoadsAll answers refuses misfits 1 old [] all skipped new
  loads_more before next end so_far here step passed note skipped new behind =
      let further = subst (λ (notes : List FaultAt). LoadsAll answers refuses misfits (done + 1 + 1) mid notes rest skipped new) note behind in
      so_far skipped new (subst (λ lines. LoadsAll answers refuses misfits (done + 1) now before lines skipped new) (sym here) (mid, end, step, passed, further))

  -- and where they fail
  pub fails_more : (end : Option Fault)
      → ((found : FaultAt) (new : List (NamedState S)) → FailsAt answers refuses misfits (done + 1) now left found new → FailsAt answers refuses misfits 1 old all found new)
      → left ≡ line ∷ rest → Loads answers refuses now (line_of line) end mid → IsPassed misfits end
      → (found : FaultAt) (new : List (NamedState S)) → FailsAt answers refuses misfits (done + 1 + 1) mid rest found new → FailsAt answers refuses misfits 1 old all found new
  fails_more end so_far here step passed found new behind =
      so_far found new (subst (λ lines. FailsAt answers refuses misfits (done + 1) now lines found new) (sym here) (inr (mid, end, step, passed, behind)))

  -- it fails itself
  pub fails_here : (end : Option Fault)
      → ((found : FaultAt) (new : List (NamedState S)) → FailsAt answers refuses misfits (done + 1) now left found new → FailsAt answers refuses misfits 1 old all found new)
      → left ≡ line ∷ rest → Loads answers refuses now (line_of line) end mid → (found : FaultAt) → found.line ≡ done + 1 → Ends misfits end found.fault
      → FailsAt answers refuses misfits 1 old all found mid
  fails_here end so_far here step found number ends =
      so_far found mid (subst (λ lines. FailsAt answers refuses misfits (done + 1) now lines found mid) (sym here) (inl (end, step, number, ends)))

-- a line's entry is made, where its shard has a place for it
pub loads_free : {S : Type 0} (answers : Answering S) (refuses : Refusing S) (old mid new : List (NamedState S)) (line : Line) (left : ℕ) (name command : List ℕ) (moment : ℕ) (end : Option Fault)
    → Makes left name command ≡ line → moment ≡ moment_of left name old → LooksOf answers refuses moment (form_of (words_of command)) old Free mid
    → Commands answers refuses moment mid command end new → Loads answers refuses old line end new
loads_free answers refuses old mid new line left name command moment end makes at looks commands =
    let looked = subst (λ (moment : ℕ). LooksOf answers refuses moment (form_of (words_of command)) old Free mid) at looks in
    let made = subst (λ (moment : ℕ). Commands answers refuses moment mid command end new) at commands in
    subst (λ (line : Line). Loads answers refuses old line end new) makes (Free, mid, looked, made)
