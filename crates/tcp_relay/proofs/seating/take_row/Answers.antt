use Rattle.std.proofs.Common.{◌≡◌, ◌<◌, ◌≤◌, ◌∙◌, rules, refl, sym, ap, arith, length, take}
use Rattle.std.proofs.Math.Seq.{take-length}
use Rattle.tcp_relay.proofs.SeatingLemmas.{fewer_more, none_in, row_more}
use Rattle.tcp_relay.proofs.seating.take_row.Goals as goal

pub loop-place-init : goal.loop-place-init
loop-place-init g c = record {
  row = none_in c.args.row.items (λ one. one.table) (sym c.args.row.ok.0 ∙ c.requires.empty);
  len = c.requires.empty;
  room = c.requires.room;
  tables = refl;
  some = λ k d low high. c.requires.some k d high;
  fewer = λ count places each. (λ k d low high. absurd (omega (arith, high)), λ k d low high. each k d high);
}

pub loop-place-preserved : goal.loop-place-preserved
loop-place-preserved g c =
    let tables = c.args.tables.now in
    let place = c.loop-place.place in
    let within : place < length tables = omega (arith, c.loop-place-test.true, c.requires.tables) in
    record {
      row = row_more tables place c.loop-place.row.items c.push_reserved.new.self.items c.new.result c.index-tables-place.result c.in-Some.seat within c.loop-place.invariant.row c.push_reserved.ensures.items c.new.ensures c.index-tables-place.is;
      len = search rules;
      room = search rules;
      tables = search rules;
      some = search rules;
      fewer = λ count places each.
          fewer_more c.loop-place.seats.items place (length c.args.seats.now.items) c.index_mut-list.result.now c.pop.new.self (omega (arith, c.loop-place-test.true, c.loop-place.invariant.tables)) (omega (arith, c.loop-place-test.true, c.loop-place.invariant.tables))
          c.index_mut-list.ensures.value c.in-Some.ensures.len c.pop.ensures.capacity count places (c.loop-place.invariant.fewer count places each);
    }

pub returns-clause-row : goal.returns-clause-row
returns-clause-row g c =
    let tables = c.args.tables.now in
    let all : c.loop-place.place ≡ length tables = omega (arith, c.loop-place.auto.place-end, c.loop-place-test.false, c.requires.tables) in
    c.loop-place.invariant.row ∙ ap (λ n. take n tables) all ∙ take-length tables
