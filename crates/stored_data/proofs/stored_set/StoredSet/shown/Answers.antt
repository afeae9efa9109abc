use Rattle.std.proofs.Common.{◌≡◌, ◌+◌, ◌<◌, ◌≤◌, ◌∙◌, List, Some, length, slice_get, sym, ap, subst, rules, arith}
use Rattle.std.proofs.lemmas.List.{length-map}
use Rattle.std.proofs.lemmas.Option.{slice_get_within}
use Rattle.stored_data.specs.Acts.{value_at}
use Rattle.stored_data.specs.Data.{is_rate}
use Rattle.stored_data.specs.Fields.{Element, elements, fields_of}
use Rattle.stored_data.specs.Places.{IsKeptThere, shown_there}
use Rattle.stored_data.specs.Stored.{IsPeriod}
use Rattle.stored_data.specs.Words.{fields_in, taken, width}
use Rattle.stored_data.specs.declared.stored_set.Column.{Column}
use Rattle.stored_data.specs.declared.stored_set.Place.{Place}
use Rattle.stored_data.proofs.Placed.{apart-elements, elements_periods, found-place, length-placed, placed-period, placed-within, shown-placed}
use Rattle.stored_data.proofs.stored_set.StoredSet.shown.Goals as goal

pub returns-in_err-there : goal.returns-in_err-there
returns-in_err-there c field is =
    let all : List Element = elements c.self.inside.columns.items in
    let past : length c.as_slice.result.now ≤ c.args.place = search rules in
    let places : length c.as_slice.result.now ≡ length all = ap length (c.as_slice.ensures.value ∙ c.self.invariant.2) ∙ length-placed all 0 in
    let fields : length (fields_of c.args.self.now) ≡ length all = ap (λ (columns : List Column). length (fields_of columns)) (sym c.self.view_is) ∙ length-map all (λ (one : Element). one.field) in
    absurd (omega (arith, past, places, fields, slice_get_within (fields_of c.args.self.now) c.args.place field is))

pub show_there-requires-clause-period : goal.show_there-requires-clause-period
show_there-requires-clause-period c =
    let all : List Element = elements c.self.inside.columns.items in
    let there : Place = c.in_ok-there.there.now in
    let found = found-place all c.as_slice.result.now c.args.place there (c.as_slice.ensures.value ∙ c.self.invariant.2) c.in_ok-there.ensures.lookup.3.0 (c.in_ok-there.ensures.lookup.3.1 there) in
    subst (λ (one : Place). IsPeriod (is_rate one.datum) one.period) (sym found.1) (placed-period all 0 c.args.place there found.0 (elements_periods c.self.inside.columns.items c.self.invariant.0.periods))

pub show_there-requires-clause-within : goal.show_there-requires-clause-within
show_there-requires-clause-within c =
    let all : List Element = elements c.self.inside.columns.items in
    let there : Place = c.in_ok-there.there.now in
    let found = found-place all c.as_slice.result.now c.args.place there (c.as_slice.ensures.value ∙ c.self.invariant.2) c.in_ok-there.ensures.lookup.3.0 (c.in_ok-there.ensures.lookup.3.1 there) in
    subst (λ (one : Place). IsKeptThere one → one.at + taken one.datum ≤ length c.args.words.now) (sym found.1)
    (λ kept. omega (arith, placed-within all 0 c.args.place there found.0 kept, ap width c.self.view_is, c.requires))

pub returns : goal.returns
returns c field is =
    let all : List Element = elements c.self.inside.columns.items in
    let there : Place = c.in_ok-there.there.now in
    let found = found-place all c.as_slice.result.now c.args.place there (c.as_slice.ensures.value ∙ c.self.invariant.2) c.in_ok-there.ensures.lookup.3.0 (c.in_ok-there.ensures.lookup.3.1 there) in
    let shows : slice_get (fields_of c.self.inside.columns.items) c.args.place ≡ Some field = ap (λ (columns : List Column). slice_get (fields_of columns) c.args.place) c.self.view_is ∙ is in
    c.show_there.ensures
    ∙ ap (λ (one : Place). shown_there one c.args.words.now c.args.now) found.1
    ∙ sym (shown-placed all (apart-elements c.self.inside.columns.items c.self.invariant.0.in_order) c.args.words.now c.args.now 0 c.args.place field there shows)
    ∙ ap (λ (columns : List Column). value_at (fields_in columns c.args.words.now) field c.args.now) c.self.view_is
