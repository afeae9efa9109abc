-- Where the words of a table's fields begin.
use Rattle.std.specs.Prelude.{◌≡◌, ℕ, false, ◌+◌, ◌==◌, List, [], ◌∷◌, Option, Some, None, if◌then◌else◌}
use Rattle.stored_data.specs.Acts.{shown}
use Rattle.stored_data.specs.Data.{place}
use Rattle.stored_data.specs.Fields.{Element, elements}
use Rattle.stored_data.specs.Words.{content_at, words_of}
use Rattle.stored_data.specs.declared.datum.Datum.TheVariants.{ConnCur}
use Rattle.stored_data.specs.declared.stored_set.Column.{Column}
use Rattle.stored_data.specs.declared.stored_set.Place.{Place}

abbrev pub placed : Element → ℕ → Place
placed element at = record { datum = element.field.datum; period = element.period; at = at }

-- the places of elements whose words begin here, one element's behind another's
abbrev pub placed_from : List Element → ℕ → List Place
placed_from [] at = []
placed_from (element ∷ later) at = placed element at ∷ placed_from later (at + words_of element)

abbrev pub places_of : List Column → List Place
places_of columns = placed_from (elements columns) 0

-- all fields but the current connections are kept
abbrev pub IsKeptThere : Place → Type 0
IsKeptThere there = (place there.datum == place ConnCur) ≡ false

-- what the field at a place shows of these words at a moment: none for the current connections
abbrev pub shown_there : Place → List ℕ → ℕ → Option ℕ
shown_there there words now = if place there.datum == place ConnCur then None else Some (shown now (content_at there.datum there.period words there.at))
