-- Whatever the schedule, the references that are out are those that connections hold.
use Rattle.admit_world.specs.Limit.{ReferencesLaw}
use Rattle.admit_world.specs.World.{begun}
use Rattle.admit_drive.proofs.StartLemmas.{once_out}
use Rattle.admit_world.proofs.WorldLemmas.{begun_world, elements_world}

pub references_law : ReferencesLaw
references_law setup visits schedule world count opens is goes =
    let stands = elements_world setup visits (begun setup visits) schedule world count is goes (begun_world setup visits opens) in
    record { balance = stands.balance; once = λ reference. once_out setup world.tables reference stands.tables }
