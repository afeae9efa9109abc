use Rattle.std.proofs.Common.{◌≡◌, ◌+◌, ◌-◌, ◌++◌, ◌∷◌, [], ap, ◌∙◌, arith, rules}
use Rattle.tcp_watch.specs.Handed.{first_name, names_of, other_names, sockets_from}
use Rattle.tcp_watch.proofs.HandedLemmas.{one_more}
use Rattle.tcp_watch.proofs.handed.name_sockets.Goals as goal

pub loop-left-preserved : goal.loop-left-preserved
loop-left-preserved c =
    let was = c.loop-left.invariant in
    let pushed : c.push.new.self ≡ c.loop-left.sockets ++ record { number = c.loop-left.number; name = first_name c.loop-left.names } ∷ [] = search rules in
    let names : c.next_name.new.names ≡ other_names c.loop-left.names = search rules in
    record {
      all =
          ap (λ sockets. sockets ++ sockets_from (c.loop-left.number + 1) c.next_name.new.names (c.loop-left.left - 1)) pushed
          ∙ ap (λ rest. (c.loop-left.sockets ++ record { number = c.loop-left.number; name = first_name c.loop-left.names } ∷ []) ++ sockets_from (c.loop-left.number + 1) rest (c.loop-left.left - 1)) names
          ∙ one_more c.loop-left.sockets (sockets_from 3 (names_of c.args.names.now) c.args.count) c.loop-left.number c.loop-left.names c.loop-left.left c.loop-left-test.true was.all;
      few = omega (arith, was.few);
      place = omega (arith, was.place, c.loop-left-test.true);
    }
