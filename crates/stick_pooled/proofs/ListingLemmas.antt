-- A listing.
use Rattle.std.proofs.Common.{◌≡◌, ℕ, sym, ◌∙◌, ap, List, length, filter, false, Option, None, count_by}
use Rattle.std.specs.Map.{values_of}
use Rattle.std.specs.Option.{option_map_or}
use Rattle.stored_data.specs.declared.field.Field.{Field}
use Rattle.stick_pooled.specs.Stock.{Held, Stock}
use Rattle.stick_pooled.specs.Tickets.{Tickets}
use Rattle.stick_table.specs.Replies.{listed_rows, listed_reply}
use Rattle.stick_model.specs.Filters.{not_stored}
use Rattle.stick_model.specs.Key.{Key}
use Rattle.stick_model.specs.State.{stays}
use Rattle.stick_model.specs.declared.filters.Filter.{Filter}
use Rattle.stick_model.specs.declared.replies.Reply.TheVariants.{NotStored, Rows}
use Rattle.stick_model.specs.declared.rows.Record.{Record}
use Rattle.stick_model.specs.declared.rows.Row.{Row}
use Rattle.stick_model.specs.declared.rows.Ticket.{Ticket}
use Rattle.stick_model.specs.declared.specification.Spec.{Spec}
use Rattle.stick_pooled.specs.Shown.{records_of}
use Rattle.stick_pooled.specs.Table.{tickets_of, state_of, IsTable}
use Rattle.stick_pooled.specs.Seen.{is_kept, listed_entries}
use Rattle.stick_pooled.proofs.SeenLemmas.{count-kept, rows-are}

-- a count of the slots and what they list are the reply
pub listed-is : (spec : Spec) (clock events : ℕ) (s : Stock) (book : Tickets) → IsTable spec clock events s book → (at : ℕ) (choice : Filter) (used : ℕ) (rows : List Row) → not_stored spec.columns choice ≡ None
    → used ≡ count_by (λ (slot : Option Held). option_map_or (is_kept at spec.expire) slot false) s.slots
    → rows ≡ values_of (listed_entries spec.columns spec.expire at choice s.slots)
    → Rows used rows ≡ listed_reply (state_of spec clock events s book) at choice
listed-is spec clock events s book table at choice used rows fine counts shows =
    (λ i. Rows (all i) (listed i))
    ∙ sym (ap (λ (o : Option Field). option_map_or NotStored o (Rows (length (filter (stays at tickets) records)) (listed_rows spec.columns tickets at choice records))) fine)
  where
    tickets : List (Ticket × Key)
    tickets = tickets_of s book

    records : List (Key × Record)
    records = records_of spec.expire s

    all : used ≡ length (filter (stays at tickets) records)
    all = counts ∙ sym (count-kept s table.stock spec.expire tickets table.counted at)

    listed : rows ≡ listed_rows spec.columns tickets at choice records
    listed = shows ∙ rows-are s table.stock spec.expire tickets table.counted at spec.columns choice
