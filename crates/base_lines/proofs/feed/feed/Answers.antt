use Rattle.std.proofs.Common.{◌+◌, ◌++◌, ℕ, Option, List, [], length, refl, sym, ap, ◌∙◌, subst, append_assoc, append-nil, arith, rules}
use Rattle.byte_ports.proofs.Pieces.{grown_twice}
use Rattle.base_lines.specs.Service.{Progress}
use Rattle.base_lines.proofs.ServiceLemmas.{progress_piece, progress_line, progress_along, progress_last, stops_within, stops_along}
use Rattle.base_lines.proofs.feed.feed.Goals as goal

pub loop-part-init : goal.loop-part-init
loop-part-init g c =
    let first = c.in-Some.ensures in
    record {
      going = λ old whole output count p. (
        [],
        λ shown. sym (append-nil _),
        progress_along g.L.LineServer.says old _ _ _ _ count _ output _ (search rules) (sym (append-nil output))
            (progress_piece g.L.LineServer.says old _ whole _ _ _ _ _ count output (sym c.new-parts.ensures.parts ∙ first) c.extend.ensures.stands p),
      );
      holds = c.requires;
      bound = omega (arith, ap length first, c.new-parts.ensures.few);
      failures = refl;
    }

pub loop-part-preserved : goal.loop-part-preserved
loop-part-preserved g c =
    let L = g.L.LineServer in
    let here = c.in-Ok.ensures.answer in
    let said = subst (λ (l : Option (List ℕ)). L.says (L.state c.loop-part.server) l here.0 (L.state c.serve.new.self)) c.line.ensures here.1 in
    let next = c.in-Some-next.ensures in
    record {
      going = λ old whole output count p.
          let at = c.loop-part.invariant.going old whole output count p in (
            at.0 ++ here.0,
            grown_twice _ _ _ _ _ _ at.1 here.2,
            progress_along L.says old _ _ _ _ _ _ _ _ (omega arith) (append_assoc output at.0 here.0)
                (progress_line L.says old _ _ _ _ _ _ _ _ _ _
                (subst (λ (ls : List (List ℕ)). Progress {S = L.State} L.says old (whole ++ c.args.piece.now) ls c.loop-part.line (count + c.loop-part.served) (output ++ at.0) (L.state c.loop-part.server)) next at.2)
                said (c.extend-in-Some-next.ensures.stands [] c.clear.ensures)),
          );
      holds = c.in-Ok.ensures.holds;
      bound = omega (arith, ap length next);
      failures = search rules;
    }

pub returns-in-Err-clause-served : goal.returns-in-Err-clause-served
returns-in-Err-clause-served g c = λ old whole output count p.
    let L = g.L.LineServer in
    let at = c.loop-part.invariant.going old whole output count p in
    let here = c.in-Err.ensures.part in
    let stopped = subst (λ (l : Option (List ℕ)). L.stops (L.state c.loop-part.server) l here.0 (L.state c.serve.new.self)) c.line.ensures here.1 in (
      at.0 ++ here.0,
      grown_twice _ _ _ _ _ _ at.1 here.2,
      stops_along L.says L.stops old _ _ _ _ _ _ refl (append_assoc output at.0 here.0)
          (stops_within L.says L.stops old _ _ _ _ _ _ _ _ at.2 stopped),
    )

pub returns-clause-served : goal.returns-clause-served
returns-clause-served g c = λ old whole output count p.
    let L = g.L.LineServer in
    let at = c.loop-part.invariant.going old whole output count p in
    (at.0, at.1, progress_last L.says old _ _ _ _ _ _ c.in_default-next.ensures.0 at.2)
