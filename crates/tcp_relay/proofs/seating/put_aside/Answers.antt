use Rattle.tcp_relay.proofs.SeatingLemmas.{put_in_set}
use Rattle.tcp_relay.proofs.seating.put_aside.Goals as goal

pub returns-clause-kept : goal.returns-clause-kept
returns-clause-kept g c = put_in_set c.args.table c.args.reference c.args.refs.now.items c.index_mut-list.result.now c.push_reserved.new.self c.index_mut-list.ensures.value c.push_reserved.ensures.items
