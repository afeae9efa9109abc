-- A need that is passed over leaves all of a connection but what is counted.
use Rattle.std.proofs.Common.{◌≡◌, refl}
use Rattle.admit_core.specs.Connection.{Progress, skipped}
use Rattle.admit_core.specs.declared.need.Need.{Need}
use Rattle.admit_core.specs.declared.need.Need.TheVariants.{Get, Track, Look, Count, Release, Rest, Turn, Finished}

pub skipped_leaves : {R : Type 0} (need : Need) (progress : Progress R) → skipped need progress ≡ record progress { counted = (skipped need progress).counted }
skipped_leaves (Get table key) progress = refl
skipped_leaves (Track slot table key) progress = refl
skipped_leaves (Look slot) progress = refl
skipped_leaves (Count slot act) progress = refl
skipped_leaves (Release slot) progress = refl
skipped_leaves Rest progress = refl
skipped_leaves Turn progress = refl
skipped_leaves Finished progress = refl
