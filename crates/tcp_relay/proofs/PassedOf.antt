-- A connection that is judged is judged by one setup, and came with the same samples.
use Rattle.std.proofs.Common.{◌≡◌, ℕ, zero, suc, refl, ap, ◌∙◌, List}
use Rattle.stick_model.specs.declared.replies.Reply.{Reply}
use Rattle.stick_model.specs.declared.replies.Reply.TheVariants as replies
use Rattle.shard_book.specs.SeatState.{RefState}
use Rattle.shard_locks.specs.Ported.{seated_meaning}
use Rattle.shard_locks.specs.ShardsState.{SeatedState}
use Rattle.rule_model.specs.declared.sections.Setup.{Setup}
use Rattle.rule_eval.specs.declared.wants.Samples.{Samples}
use Rattle.admit_core.specs.Conn.{Stands}
use Rattle.admit_core.specs.Connection.{Connection, arrived}
use Rattle.admit_core.specs.declared.conn.Conn.{Conn}
use Rattle.admit_port.specs.Calls.{heard}
use Rattle.admit_port.specs.Moves.{Moves}
use Rattle.admit_port.specs.Visit.{GoesJudged, HasGoneJudged, Visit}
use Rattle.admit_port.specs.declared.moved.Moved.{Moved}
use Rattle.admit_port.specs.declared.moved.Moved.TheVariants.{Answered, Turned, Refused, Kept}
use Rattle.tcp_relay.specs.Passed.{IsOf}

-- both are of one setup, and of the same samples
abbrev AreOfOne : Connection RefState → Connection RefState → Type 0
AreOfOne connection after = (after.setup ≡ connection.setup) × (after.samples ≡ connection.samples)

heard_same : (connection : Connection RefState) (at : ℕ) (reply : Reply) → AreOfOne connection (heard seated_meaning connection at reply)
heard_same connection at replies.Released = (refl, refl)
heard_same connection at replies.Absent = (refl, refl)
heard_same connection at (replies.Row row) = (refl, refl)
heard_same connection at replies.NoRefs = (refl, refl)
heard_same connection at replies.Full = (refl, refl)
heard_same connection at (replies.Tracked given row) = (refl, refl)
heard_same connection at (replies.Value value) = (refl, refl)
heard_same connection at (replies.NotSettable field) = (refl, refl)
heard_same connection at (replies.NotStored field) = (refl, refl)
heard_same connection at (replies.Written created) = (refl, refl)
heard_same connection at replies.InUse = (refl, refl)
heard_same connection at replies.Removed = (refl, refl)
heard_same connection at (replies.Cleared removed kept) = (refl, refl)
heard_same connection at (replies.Rows used rows) = (refl, refl)
heard_same connection at (replies.Expired count) = (refl, refl)

moves_same : (now : ℕ) (old new : List SeatedState) (connection after : Connection RefState) (moved : Moved) → Moves seated_meaning now old connection new after moved → AreOfOne connection after
moves_same now old new connection after Answered moves =
    let same = heard_same connection moves.0.shard moves.1 in
    (ap (λ (c : Connection RefState). c.setup) moves.4 ∙ same.0, ap (λ (c : Connection RefState). c.samples) moves.4 ∙ same.1)
moves_same now old new connection after Turned moves = (ap (λ (c : Connection RefState). c.setup) moves.2, ap (λ (c : Connection RefState). c.samples) moves.2)
moves_same now old new connection after Refused moves = (ap (λ (c : Connection RefState). c.setup) moves.3, ap (λ (c : Connection RefState). c.samples) moves.3)
moves_same now old new connection after Kept moves = (ap (λ (c : Connection RefState). c.setup) moves.4, ap (λ (c : Connection RefState). c.samples) moves.4)

goes_same : {C : Type 0} (shows : C → ℕ → C → Type 0) (count : ℕ) (old new : Visit SeatedState RefState C) → GoesJudged seated_meaning shows count old new → AreOfOne old.connection new.connection
goes_same {C = C} shows zero old new goes = (ap (λ (visit : Visit SeatedState RefState C). visit.connection.setup) goes, ap (λ (visit : Visit SeatedState RefState C). visit.connection.samples) goes)
goes_same shows (suc count) old new goes =
    let once = goes.4 in
    let first = moves_same once.0 old.ports goes.1.ports old.connection goes.1.connection goes.2 once.3 in
    let rest = goes_same shows count goes.1 new goes.5 in
    (rest.0 ∙ first.0, rest.1 ∙ first.1)

-- one that has just come, and was judged
pub judged_of : {C : Type 0} (shows : C → ℕ → C → Type 0) (setup : Setup) (samples : Samples) (old new : List SeatedState) (conn later : Conn RefState) (clock shown : C) → Stands conn (arrived setup samples) → HasGoneJudged seated_meaning shows old conn clock new later shown → IsOf setup samples later
judged_of shows setup samples old new conn later clock shown stands gone =
    let visit = gone (arrived setup samples) stands in
    let same = goes_same shows visit.2.0 (record { ports = old; connection = arrived setup samples; clock = clock }) (record { ports = new; connection = visit.0; clock = shown }) visit.2.1 in
    ∣ (visit.0, visit.1, same.0, same.1) ∣₁
