use Rattle.proxy_header.proofs.HeardLemmas.{heard_cut, heard_room}
use Rattle.proxy_header.proofs.laws.room.Goals as goal

pub returns-clause-room : goal.returns-clause-room
returns-clause-room c = heard_room

pub returns-clause-cut : goal.returns-clause-cut
returns-clause-cut c = heard_cut
