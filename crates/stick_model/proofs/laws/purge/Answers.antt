use Rattle.stick_model.proofs.PurgeLemmas.{purge-law}
use Rattle.stick_model.proofs.RoomLemmas.{room-law}
use Rattle.stick_model.proofs.laws.purge.Goals as goal

pub returns-clause-oldest : goal.returns-clause-oldest
returns-clause-oldest c = purge-law

pub returns-clause-room : goal.returns-clause-room
returns-clause-room c = room-law
