use Rattle.std.proofs.Common.{rules, arith, refl, sym, ap, subst, ◌≡◌, ◌++◌, ℕ, Option, List, [], length, take, append-nil, length-append}
use Rattle.std.proofs.lemmas.List.{length-take-le}
use Rattle.byte_ports.proofs.Pieces.{grown_twice, taken_twice, taken_none, taken_zero}
use Rattle.base_lines.specs.declared.service.LineFault.{LineFault}
use Rattle.base_lines.proofs.ServiceLemmas.{progress_none, stops_before, stops_within, stops_along, all_served}
use Rattle.base_lines.proofs.service.serve_lines.Goals as goal

pub loop-turn-init : goal.loop-turn-init
loop-turn-init g c = record {
  stands = ([], [], λ shown. refl, λ shown. sym (append-nil _), progress_none g.L.LineServer.says _ _ c.new-line.ensures, omega arith);
  holds = c.requires;
  small = omega arith;
  reader = refl;
  writer = refl;
}

pub returns-in-Err-clause-fault : goal.returns-in-Err-clause-fault
returns-in-Err-clause-fault g c =
    let L = g.L.LineServer in
    let so_far = c.loop-turn.invariant.stands in (
      so_far.0,
      so_far.1,
      taken_none _ _ _ (g.R.Source.left c.read.new.self) so_far.0 so_far.2 c.in-Err.ensures.kept,
      so_far.3,
      stops_along L.says L.stops _ _ _ _ _ _ _ (sym (ap (λ (f : LineFault). f.done) c.read-in-Err.ensures)) refl (stops_before L.says L.stops _ _ _ _ _ _ _ so_far.4),
    )

pub returns-in-Ok-serve-clause-whole : goal.returns-in-Ok-serve-clause-whole
returns-in-Ok-serve-clause-whole g c =
    let L = g.L.LineServer in
    let so_far = c.loop-turn.invariant.stands in
    let here = c.in-Ok-serve.ensures.answer in
    let said = subst (λ (l : Option (List ℕ)). L.says (L.state c.loop-turn.server) l here.0 (L.state c.serve.new.self)) c.line.ensures here.1 in (
      so_far.0,
      so_far.1 ++ here.0,
      taken_zero _ _ _ (g.R.Source.left c.read.new.self) so_far.0 _ _ c.if-count-eq0.true so_far.2 c.in-Ok.ensures.bytes,
      grown_twice _ _ _ _ _ _ so_far.3 here.2,
      all_served L.says _ _ _ _ _ _ _ _ so_far.4 said,
    )

pub returns-in-Err-serve-clause-fault : goal.returns-in-Err-serve-clause-fault
returns-in-Err-serve-clause-fault g c =
    let L = g.L.LineServer in
    let so_far = c.loop-turn.invariant.stands in
    let here = c.in-Err-serve.ensures.part in
    let stopped = subst (λ (l : Option (List ℕ)). L.stops (L.state c.loop-turn.server) l here.0 (L.state c.serve.new.self)) c.line.ensures here.1 in (
      so_far.0,
      so_far.1 ++ here.0,
      taken_zero _ _ _ (g.R.Source.left c.read.new.self) so_far.0 _ _ c.if-count-eq0.true so_far.2 c.in-Ok.ensures.bytes,
      grown_twice _ _ _ _ _ _ so_far.3 here.2,
      stops_along L.says L.stops _ _ _ _ _ _ _ (sym (ap (λ (f : LineFault). f.done) c.write.ensures)) refl (stops_within L.says L.stops _ _ _ _ _ _ _ _ _ so_far.4 stopped),
    )

pub returns-in-Err-feed-clause-fault : goal.returns-in-Err-feed-clause-fault
returns-in-Err-feed-clause-fault g c =
    let L = g.L.LineServer in
    let so_far = c.loop-turn.invariant.stands in
    let here = c.in-Err-feed.ensures.served _ so_far.0 so_far.1 _ so_far.4 in (
      so_far.0 ++ take c.in-Ok.count c.read.new.buffer,
      so_far.1 ++ here.0,
      taken_twice _ _ _ _ _ _ so_far.2 c.in-Ok.ensures.bytes,
      grown_twice _ _ _ _ _ _ so_far.3 here.1,
      stops_along L.says L.stops _ _ _ _ _ _ _ (sym (ap (λ (f : LineFault). f.done) c.write-in-Err-feed.ensures)) refl here.2,
    )

pub loop-turn-preserved : goal.loop-turn-preserved
loop-turn-preserved g c =
    let so_far = c.loop-turn.invariant.stands in
    let count = c.in-Ok.count in
    let piece = take count c.read.new.buffer in
    let here = c.in-Ok-feed.ensures.served _ so_far.0 so_far.1 _ so_far.4 in
    let size : length piece ≡ count = length-take-le count c.read.new.buffer (omega (arith, c.in-Ok.ensures.bound)) in
    record {
      stands = (
        so_far.0 ++ piece,
        so_far.1 ++ here.0,
        taken_twice _ _ _ _ _ _ so_far.2 c.in-Ok.ensures.bytes,
        grown_twice _ _ _ _ _ _ so_far.3 here.1,
        here.2,
        omega (arith, so_far.5, size, length-append so_far.0 piece),
      );
      holds = c.in-Ok-feed.ensures.holds;
      small = omega (arith, size, c.in-Ok.ensures.bound, c.in-Ok-feed.ensures.bound);
      reader = search rules;
      writer = search rules;
    }

pub returns-clause-fault : goal.returns-clause-fault
returns-clause-fault g c =
    let L = g.L.LineServer in
    let so_far = c.loop-turn.invariant.stands in
    (so_far.0, so_far.1, so_far.2, so_far.3, stops_along L.says L.stops _ _ _ _ _ _ _ (sym (ap (λ (f : LineFault). f.done) c.read-2.ensures)) refl (stops_before L.says L.stops _ _ _ _ _ _ _ so_far.4))
