-- Data that are put.
use Rattle.std.proofs.Common.{◌≡◌, ℕ, ◌+◌, ◌<◌, sym, ◌∙◌, ap, List, length, not, true, false, Option, Some, None, is_some}
use Rattle.std.specs.Option.{option_map_or}
use Rattle.stick_pooled.specs.Stock.{Held, Stock, held_at}
use Rattle.stick_pooled.specs.Tickets.{Tickets}
use Rattle.stick_model.specs.Key.{Key}
use Rattle.stick_model.specs.State.{State, refs, record_at}
use Rattle.stick_model.specs.Step.{Outcome, put_allowed, put_pairs, written}
use Rattle.stick_model.specs.Room.{stored}
use Rattle.stick_model.specs.declared.replies.Reply.TheVariants.{Full, Written}
use Rattle.stick_model.specs.declared.rows.Cell.{Cell}
use Rattle.stick_model.specs.declared.rows.Record.{Record}
use Rattle.stick_model.specs.declared.specification.Spec.{Spec}
use Rattle.stick_pooled.specs.Shown.{records_of}
use Rattle.stick_pooled.specs.Space.{IsRoomy, IsFull}
use Rattle.stick_pooled.specs.Table.{tickets_of, state_of, IsTable}
use Rattle.stick_pooled.proofs.RecordLemmas.{lookup-at}
use Rattle.stick_pooled.proofs.TicketLemmas.{next-same}
use Rattle.stick_pooled.proofs.StoreLemmas.{new-there, there-tickets, there-held, there-table, there-stored, full-stored, newly, newly-tickets, newly-held, newly-table, none-out, new-made, made-table, made-stored}

-- ---- the definition's cases
module _ (state : State) (key : Key) (pairs : List Cell) where
  pub allowed-stored : (created : _) (new : State) → not (is_some (record_at key state.records)) ≡ created → stored state key (written state key pairs) ≡ Some new → put_allowed state key pairs ≡ (Written created, new)
  allowed-stored created new made is =
      ap (λ o. option_map_or {U = Outcome} (λ new. (Written (not (is_some (record_at key state.records))), new)) o (Full, state)) is
      ∙ ap {B = Outcome} (λ b. (Written b, new)) made

  pub allowed-full : stored state key (written state key pairs) ≡ None → put_allowed state key pairs ≡ (Full, state)
  allowed-full is = ap (λ o. option_map_or {U = Outcome} (λ new. (Written (not (is_some (record_at key state.records))), new)) o (Full, state)) is

module _ (spec : Spec) (clock events : ℕ) (s : Stock) (book : Tickets) (table : IsTable spec clock events s book) (life : events + length (tickets_of s book) < spec.life) (pairs : List Cell) where
  module _ (slot : ℕ) (h : Held) (there : held_at s slot ≡ Some h) where
    pub put-there-table : IsTable spec clock (events + 1) (new-there spec clock events s book table slot h there (put_pairs pairs) h.entry.refs) book
    put-there-table =
        let same = there-tickets spec clock events s book table slot h there (put_pairs pairs) h.entry.refs in
        there-table spec clock events s book table slot h there (put_pairs pairs) h.entry.refs book
        (next-same spec clock events s book table (new-there spec clock events s book table slot h there (put_pairs pairs) h.entry.refs) same (there-held spec clock events s book table slot h there (put_pairs pairs) h.entry.refs) life)
        (table.counted slot h there ∙ ap (refs h.key) (sym same))
        (λ key apart. ap (refs key) same)

    pub put-there-is : put_allowed (state_of spec clock (events + 1) s book) h.key pairs ≡ (Written false, state_of spec clock (events + 1) (new-there spec clock events s book table slot h there (put_pairs pairs) h.entry.refs) book)
    put-there-is =
        allowed-stored (state_of spec clock (events + 1) s book) h.key pairs false (state_of spec clock (events + 1) (new-there spec clock events s book table slot h there (put_pairs pairs) h.entry.refs) book)
        (ap (λ o. not (is_some o)) (lookup-at spec.expire s table.stock slot h there))
        (there-stored spec clock events s book table slot h there (put_pairs pairs) h.entry.refs)

  module _ (key : Key) (none : record_at key (records_of spec.expire s) ≡ None) where
    pub put-full-is : IsFull spec s → put_allowed (state_of spec clock (events + 1) s book) key pairs ≡ (Full, state_of spec clock (events + 1) s book)
    put-full-is full = allowed-full (state_of spec clock (events + 1) s book) key pairs (full-stored spec clock events s book table key none full (put_pairs pairs))

    module _ (r : Stock) (room : IsRoomy spec s r) (slot : ℕ) (inside : slot < length r.slots) (free : held_at r slot ≡ None) where
      pub put-new-table : IsTable spec clock (events + 1) (new-made spec clock events s book table key none r room slot inside free 0 (put_pairs pairs)) book
      put-new-table =
          let same = newly-tickets spec clock events s book table key none r room slot inside free 0 in
          made-table spec clock events s book table key none r room slot inside free 0 (put_pairs pairs) book
          (newly-table spec clock events s book table key none r room slot inside free 0 book
          (next-same spec clock events s book table (newly spec clock events s book table key none r room slot inside free 0) same (newly-held spec clock events s book table key none r room slot inside free 0) life)
          (sym (ap (refs key) same ∙ none-out spec clock events s book table key none r room slot inside free 0))
          (λ other apart. ap (refs other) same))

      pub put-new-is : put_allowed (state_of spec clock (events + 1) s book) key pairs ≡ (Written true, state_of spec clock (events + 1) (new-made spec clock events s book table key none r room slot inside free 0 (put_pairs pairs)) book)
      put-new-is =
          allowed-stored (state_of spec clock (events + 1) s book) key pairs true (state_of spec clock (events + 1) (new-made spec clock events s book table key none r room slot inside free 0 (put_pairs pairs)) book)
          (ap (λ (o : Option Record). not (is_some o)) none)
          (made-stored spec clock events s book table key none r room slot inside free 0 (put_pairs pairs))
