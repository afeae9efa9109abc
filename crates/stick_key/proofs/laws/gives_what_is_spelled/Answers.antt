use Rattle.stick_key.proofs.AddressLaws.{gives_bytes, gives_what_is_spelled}
use Rattle.stick_key.proofs.laws.gives_what_is_spelled.Goals as goal

pub returns-clause-spelled : goal.returns-clause-spelled
returns-clause-spelled c = gives_what_is_spelled

pub returns-clause-bytes : goal.returns-clause-bytes
returns-clause-bytes c = gives_bytes
