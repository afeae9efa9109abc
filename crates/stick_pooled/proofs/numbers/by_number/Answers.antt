use Rattle.std.proofs.Common.{◌≡◌, ℕ, suc, ◌+◌, ◌-◌, sym, ap, ◌∙◌, arith, Some, None, count_by, is_some, get_or, BTreeMap}
use Rattle.std.specs.BTreeMap.{insert_entry}
use Rattle.std.specs.Cmp.{nat_cmp_total}
use Rattle.std.specs.Ordering.{nat_cmp}
use Rattle.std.specs.Option.{option_map}
use Rattle.std.proofs.lemmas.Map.Lookups.{exact_unsigned}
use Rattle.stick_pooled.specs.Slots.{entries_of}
use Rattle.stick_pooled.specs.Places.{numbered, placed}
use Rattle.stick_pooled.proofs.FirstLemmas.{first, first-count, first-empty, first-has_all, first-is_all, first-more, first-none, none-counts, one}
use Rattle.stick_pooled.proofs.PlaceLemmas.{count-numbered, length-numbered, numbered-get}
use Rattle.stick_pooled.proofs.numbers.by_number.Goals as goal
use Rattle.stick_pooled.proofs.numbers.by_number.Goals.{in-Some+in_ok-insert, in_default}

pub loop-place-init : goal.loop-place-init
loop-place-init c =
    let slots = numbered 0 c.args.places.now.slots in
    let all = c.len-left.ensures.count in
    record {
      entries = c.new-tickets.ensures.empty ∙ sym (first-none nat_cmp slots);
      left = omega (arith, all, none-counts slots, count-numbered 0 c.args.places.now.slots);
    }

pub returns-then-left-eq0 : goal.returns-then-left-eq0
returns-then-left-eq0 c =
    let slots = numbered 0 c.args.places.now.slots in
    c.loop-place.invariant.entries ∙ ap (entries_of nat_cmp) (first-has_all c.loop-place.place slots (omega (arith, c.loop-place.invariant.left, c.if-left-eq0.true)))

pub loop-place-preserved : goal.loop-place-preserved
loop-place-preserved c =
    let slots = numbered 0 c.args.places.now.slots in
    let place = c.loop-place.place in
    let was = c.loop-place.invariant in
    let next : place + 1 ≡ suc place = omega arith in
    let same_place : 0 + place ≡ place = omega arith in
    let here : get_or slots place None ≡ c.ticket_at.result =
    numbered-get 0 c.args.places.now.slots place ∙ ap (λ n. option_map (placed n) (get_or c.args.places.now.slots place None)) same_place ∙ sym c.ticket_at.ensures in
    elim c.match-ticket_at.branch [
      | in-Some+in_ok-insert w ↦
          let is : get_or slots place None ≡ Some (w.in-Some.number, w.in-Some.ticket) = here ∙ w.in-Some.is in
          let more : count_by is_some (first (place + 1) slots) ≡ one (get_or slots place None) + count_by is_some (first place slots) = ap (λ n. count_by is_some (first n slots)) next ∙ first-count place slots in
          let counted : one (get_or slots place None) ≡ 1 = ap one is in
          let less : c.match-ticket_at.left ≡ c.loop-place.left - 1 = w.left-is in
          let left : c.loop-place.left + count_by is_some (first place slots) ≡ count_by is_some slots = was.left in
          record {
            entries =
                ap (λ (tickets : BTreeMap ℕ (ℕ × ℕ)). tickets.entries) w.tickets-is ∙ w.in_ok-insert.ensures.entries
                ∙ ap (λ es. insert_entry nat_cmp es w.in-Some.number w.in-Some.ticket) was.entries
                ∙ sym (first-more nat_cmp nat_cmp_total exact_unsigned place slots (w.in-Some.number, w.in-Some.ticket) c.requires.distinct is)
                ∙ sym (ap (λ n. entries_of nat_cmp (first n slots)) next);
            left = omega (arith, left, more, counted, less, c.if-left-eq0.false);
          }
      | in_default w ↦
          let is : get_or slots place None ≡ None = here ∙ w.in_default.is in
          let same : first (place + 1) slots ≡ first place slots = ap (λ n. first n slots) next ∙ first-empty place slots is in
          record {
            entries = ap (λ (tickets : BTreeMap ℕ (ℕ × ℕ)). tickets.entries) w.tickets-is ∙ was.entries ∙ ap (entries_of nat_cmp) (sym same);
            left = ap (λ n. n + count_by is_some (first (place + 1) slots)) w.left-is ∙ ap (λ os. c.loop-place.left + count_by is_some os) same ∙ was.left;
          }
    ]

pub returns : goal.returns
returns c =
    let slots = numbered 0 c.args.places.now.slots in
    c.loop-place.invariant.entries ∙ ap (entries_of nat_cmp) (first-is_all c.loop-place.place slots (omega (arith, c.loop-place-test.false, length-numbered 0 c.args.places.now.slots, c.requires.pool.sized)))
