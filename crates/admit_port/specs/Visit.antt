-- The visit of a connection: it goes on by ports, each move at the moment that a clock shows then.
use Rattle.std.specs.Prelude.{◌≡◌, ◌≢◌, ℕ, zero, suc, ◌<◌, ◌^◌, true, List}
use Rattle.admit_core.specs.Conn.{Stands}
use Rattle.admit_core.specs.Connection.{Connection, is_judged, need}
use Rattle.admit_core.specs.Left.{is_still}
use Rattle.admit_core.specs.declared.conn.Conn.{Conn}
use Rattle.admit_port.specs.DriveCode.{HasMoved}
use Rattle.admit_port.specs.Moves.{Moves}
use Rattle.admit_port.specs.declared.moved.Moved.{Moved}
use Rattle.admit_port.specs.declared.moved.Moved.TheVariants.{Kept as MovedKept}
use Rattle.admit_port.specs.declared.moved.Rested.{Rested}
use Rattle.admit_port.specs.declared.moved.Rested.TheVariants.{Still, Kept}
use Rattle.shard_port.specs.Port.{Meaning}

-- how far a visit is: its ports, the connection, and what the clock is
pub record Visit (S R C : Type 0) : Type 0 where
  pub ports : List S
  pub connection : Connection R
  pub clock : C

-- by a clock, which in a state may show a moment in ms and leave another state
module _ {S R C : Type 0} (m : Meaning S R) (shows : C → ℕ → C → Type 0) where
  -- one move, at the moment that the clock shows then
  abbrev pub MovesOnce : Visit S R C → Visit S R C → Moved → Type 0
  MovesOnce old new moved = (now : ℕ) × shows old.clock now new.clock × (now < 2 ^ 62) × Moves m now old.ports old.connection new.ports new.connection moved

  -- so many moves; the clock is looked at for each, and at no other time
  abbrev pub Goes : ℕ → Visit S R C → Visit S R C → Type 0
  Goes zero old new = new ≡ old
  Goes (suc count) old new = (next : Visit S R C) × (moved : Moved) × MovesOnce old next moved × Goes count next new

  -- so many moves, each while its rules judge it, and none a release that is refused
  abbrev pub GoesJudged : ℕ → Visit S R C → Visit S R C → Type 0
  GoesJudged zero old new = new ≡ old
  GoesJudged (suc count) old new =
      (is_judged old.connection.progress.phase ≡ true) × (next : Visit S R C) × (moved : Moved) × (moved ≢ MovedKept) × MovesOnce old next moved × GoesJudged count next new

  -- how it comes to stand still: it rests or is finished, and nothing more is done; or the release of a reference was refused,
  -- its last move
  abbrev pub StandsStill : Visit S R C → Visit S R C → Rested → Type 0
  StandsStill last new Still = (new ≡ last) × (is_still (need new.connection) ≡ true)
  StandsStill last new Kept = MovesOnce last new MovedKept

  -- by some moves it comes to stand still
  pub record Rests (old new : Visit S R C) (rested : Rested) : Type 0 where
    pub count : ℕ
    pub last : Visit S R C
    pub goes : Goes count old last
    pub still : StandsStill last new rested

  -- ---- whatever connection it was

  -- from these ports, this connection and this clock to those: as whatever connection it stands, so does it later, and the
  -- visit is so
  abbrev pub Visits : (Visit S R C → Visit S R C → Type 0) → List S → Conn R → C → List S → Conn R → C → Type 0
  Visits So old conn clock new later shown =
      (connection : Connection R) → Stands conn connection → (after : Connection R) × Stands later after × So (record { ports = old; connection = connection; clock = clock }) (record { ports = new; connection = after; clock = shown })

  -- it has gone on by one move, at the moment that the clock showed then
  abbrev pub HasMovedOnce : List S → Conn R → C → List S → Conn R → C → Moved → Type 0
  HasMovedOnce old conn clock new later shown moved = (now : ℕ) × shows clock now shown × (now < 2 ^ 62) × HasMoved m now old conn new later moved

  -- it has gone on by some moves
  abbrev pub HasGone : List S → Conn R → C → List S → Conn R → C → Type 0
  HasGone old conn clock new later shown = Visits (λ (before after : Visit S R C). (count : ℕ) × Goes count before after) old conn clock new later shown

  -- it has gone on by some moves while its rules judge it
  abbrev pub HasGoneJudged : List S → Conn R → C → List S → Conn R → C → Type 0
  HasGoneJudged old conn clock new later shown = Visits (λ (before after : Visit S R C). (count : ℕ) × GoesJudged count before after) old conn clock new later shown

  -- it has come to stand still
  abbrev pub HasRested : List S → Conn R → C → List S → Conn R → C → Rested → Type 0
  HasRested old conn clock new later shown rested = Visits (λ (before after : Visit S R C). Rests before after rested) old conn clock new later shown
