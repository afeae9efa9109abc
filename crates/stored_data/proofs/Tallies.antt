-- A rate's tally after an act.
use Rattle.std.proofs.Common.{◌≡◌, ℕ, ◌<◌, ◌==◌, Bool, true, false, List, ◌++◌, refl, ap, sym, append-nil}
use Rattle.std.specs.Prelude.{if◌then◌else◌}
use Rattle.rate_window.specs.Rate.{Count, AreUpTo, tally}
use Rattle.rate_window.proofs.Counts.{with_count-tally}
use Rattle.stored_data.specs.Data.{is_rate, is_array}
use Rattle.stored_data.specs.Fields.{plain}
use Rattle.stored_data.specs.Acts.{change, change_at, index_in_array, changed, counts_of}
use Rattle.stored_data.proofs.Elements.{array_kept}
use Rattle.stored_data.specs.Laws.{RatesTally, RatesCount}
use Rattle.stored_data.specs.declared.datum.Datum.{Datum}
use Rattle.stored_data.specs.declared.datum.Datum.TheVariants.{Gpc}
use Rattle.stored_data.specs.declared.act.Act.{Act}
use Rattle.stored_data.specs.declared.act.Act.TheVariants.{IncGpc}
use Rattle.stored_data.specs.declared.act.Change.{Change}
use Rattle.stored_data.specs.declared.act.Change.TheVariants.{Keep, Add, Set}
use Rattle.stored_data.specs.declared.values.Content.TheVariants.{Rate}

tally-changed : (counts : List Count) (period now : ℕ) (datum : Datum) (change : Change) → 0 < period → AreUpTo counts now →
    changed now datum change (Rate (tally counts period)) ≡ Rate (tally (counts ++ counts_of now change) period)
tally-changed counts period now datum Keep some up_to = ap (λ (all : List Count). Rate (tally all period)) (sym (append-nil counts))
tally-changed counts period now datum (Add n) some up_to = ap Rate (with_count-tally counts period now n some up_to)
tally-changed counts period now datum (Set n) some up_to = ap (λ (all : List Count). Rate (tally all period)) (sym (append-nil counts))

pub rates_tally : RatesTally
rates_tally counts period now datum act some up_to = tally-changed counts period now datum (change act datum) some up_to

-- a rate is no array
whole-rate : (act : Act) (datum : Datum) (array : Bool) → is_array datum ≡ array → is_rate datum ≡ true → change_at act (plain datum) ≡ change act datum
whole-rate act datum true array rate = let number = (array_kept datum array).0 in absurd (cc)
whole-rate act datum false array rate = ap (λ b. if 0 == (if b then index_in_array act else 0) then change act datum else Keep) array

of_elements : (index : ℕ) (datum : Datum) → is_rate datum ≡ true → change (IncGpc index) datum ≡ Keep
of_elements index Gpc rate = absurd (cc)
of_elements index _ rate = refl

pub rates_count : RatesCount
rates_count = record { whole = λ act datum rate. whole-rate act datum (is_array datum) refl rate; elements = of_elements }
