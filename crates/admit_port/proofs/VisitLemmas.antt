-- A connection goes on, one move after another, each at a moment of its own.
use Rattle.std.proofs.Common.{◌≡◌, ◌≢◌, ℕ, zero, suc, refl, sym, ap, subst, ◌∙◌, true, false, List, Option, Some, None, is_some, is_none, slice_get}
use Rattle.std.proofs.Math.Logic.{∥∥₁_elim, ∥∥₁_map}
use Rattle.stored_data.specs.declared.act.Act.{Act}
use Rattle.rule_eval.specs.declared.wants.Want.{Want}
use Rattle.rule_eval.specs.declared.wants.Want.TheVariants as wants
use Rattle.rule_eval.specs.declared.wants.Verdict.TheVariants.{Accept, Reject}
use Rattle.rule_model.specs.declared.actions.Slot.{Slot}
use Rattle.admit_core.specs.Conn.{needed, progress_of, wanted, Stands}
use Rattle.admit_core.specs.Connection.{Progress, counting, is_judged, judging, need, released_of, sessions}
use Rattle.admit_core.specs.Held.{holding}
use Rattle.admit_core.specs.Left.{is_still}
use Rattle.admit_core.proofs.ConnLemmas.{judged_need}
use Rattle.admit_core.specs.declared.conn.Conn.{Conn}
use Rattle.admit_core.specs.declared.need.Need.TheVariants.{Turn}
use Rattle.admit_port.proofs.CommonLemmas.{need_same}
use Rattle.admit_port.specs.DriveCode.{CanGoOn, HasMoved, IsConnection}
use Rattle.admit_port.specs.declared.moved.Moved.{Moved}
use Rattle.admit_port.specs.declared.moved.Moved.TheVariants.{Kept}
use Rattle.admit_port.specs.declared.moved.Rested.TheVariants as rests
use Rattle.shard_port.specs.Port.{Meaning}
use Rattle.admit_port.specs.Visit.{Goes, GoesJudged, HasGone, HasGoneJudged, HasMovedOnce, HasRested, MovesOnce, Visit}

-- one move more
goes_more : {S R C : Type 0} (m : Meaning S R) (shows : C → ℕ → C → Type 0) (count : ℕ) (old middle new : Visit S R C) (moved : Moved) → Goes m shows count old middle → MovesOnce m shows middle new moved → Goes m shows (suc count) old new
goes_more m shows zero old middle new moved goes moves = (new, moved, subst (λ visit. MovesOnce m shows visit new moved) goes moves, refl)
goes_more m shows (suc count) old middle new moved goes moves = (goes.0, goes.1, goes.2, goes_more m shows count goes.0 middle new moved goes.3 moves)

pub gone_none : {S R C : Type 0} (m : Meaning S R) (shows : C → ℕ → C → Type 0) (ports : List S) (conn : Conn R) (clock : C) → HasGone m shows ports conn clock ports conn clock
gone_none m shows ports conn clock connection stands = (connection, stands, (0, refl))

pub gone_more : {S R C : Type 0} (m : Meaning S R) (shows : C → ℕ → C → Type 0) (old middle new : List S) (conn next later : Conn R) (clock between shown : C) (moved : Moved)
    → HasGone m shows old conn clock middle next between → HasMovedOnce m shows middle next between new later shown moved → HasGone m shows old conn clock new later shown
gone_more m shows old middle new conn next later clock between shown moved gone moves connection stands =
    let so_far = gone connection stands in
    let one = moves.3 so_far.0 so_far.1 in (
      one.0,
      one.1,
      (
        suc so_far.2.0,
        goes_more m shows so_far.2.0 (record { ports = old; connection = connection; clock = clock }) (record { ports = middle; connection = so_far.0; clock = between }) (record { ports = new; connection = one.0; clock = shown }) moved so_far.2.1 (moves.0, moves.1, moves.2, one.2),
      ),
    )

pub gone_to_rest : {S R C : Type 0} (m : Meaning S R) (shows : C → ℕ → C → Type 0) (old new : List S) (conn later : Conn R) (clock shown : C) → is_still (needed later) ≡ true
    → HasGone m shows old conn clock new later shown → HasRested m shows old conn clock new later shown rests.Still
gone_to_rest m shows old new conn later clock shown still gone connection stands =
    let all = gone connection stands in
    (all.0, all.1, record { count = all.2.0; last = record { ports = new; connection = all.0; clock = shown }; goes = all.2.1; still = (refl, ap is_still (sym (need_same later all.0 all.1)) ∙ still) })

pub gone_kept : {S R C : Type 0} (m : Meaning S R) (shows : C → ℕ → C → Type 0) (old middle new : List S) (conn next later : Conn R) (clock between shown : C)
    → HasGone m shows old conn clock middle next between → HasMovedOnce m shows middle next between new later shown Kept → HasRested m shows old conn clock new later shown rests.Kept
gone_kept m shows old middle new conn next later clock between shown gone moves connection stands =
    let so_far = gone connection stands in
    let one = moves.3 so_far.0 so_far.1 in
    (one.0, one.1, record { count = so_far.2.0; last = record { ports = middle; connection = so_far.0; clock = between }; goes = so_far.2.1; still = (moves.0, moves.1, moves.2, one.2) })

-- ---- while it is judged

-- nothing is handed out
none_out : {X : Type 0} (given : Option X) → is_some given ≡ false → is_none given ≡ true
none_out None h = refl
none_out (Some x) h = cc

-- it wants an event, or its next phase
counting_goes : (act : Option (Slot × Act)) → is_still (counting act Turn) ≡ false
counting_goes None = refl
counting_goes (Some entry) = refl

judging_goes : {R : Type 0} (want : Want) (progress : Progress R) → is_still (judging want progress) ≡ false
judging_goes (wants.Get table key) progress = refl
judging_goes (wants.Track slot table key) progress = refl
judging_goes (wants.Look slot) progress = refl
judging_goes (wants.Count slot act) progress = refl
judging_goes (wants.Done Accept) progress = counting_goes (slice_get (sessions (holding progress.held)) progress.counted)
judging_goes (wants.Done Reject) progress = refl

-- and it is no release
counting_keeps : {R : Type 0} (act : Option (Slot × Act)) (progress : Progress R) → released_of (counting act Turn) progress ≡ None
counting_keeps None progress = refl
counting_keeps (Some entry) progress = refl

judging_keeps : {R : Type 0} (want : Want) (progress : Progress R) → released_of (judging want progress) progress ≡ None
judging_keeps (wants.Get table key) progress = refl
judging_keeps (wants.Track slot table key) progress = refl
judging_keeps (wants.Look slot) progress = refl
judging_keeps (wants.Count slot act) progress = refl
judging_keeps (wants.Done Accept) progress = counting_keeps (slice_get (sessions (holding progress.held)) progress.counted) progress
judging_keeps (wants.Done Reject) progress = refl

needs_judging : {R : Type 0} (conn : Conn R) → is_some (progress_of conn).given ≡ false → is_judged (progress_of conn).phase ≡ true → needed conn ≡ judging (wanted conn) (progress_of conn)
needs_judging conn given judged = judged_need (wanted conn) (progress_of conn) (none_out (progress_of conn).given given) judged

pub judged_goes : {R : Type 0} (conn : Conn R) → is_some (progress_of conn).given ≡ false → is_judged (progress_of conn).phase ≡ true → is_still (needed conn) ≡ false
judged_goes conn given judged = ap is_still (needs_judging conn given judged) ∙ judging_goes (wanted conn) (progress_of conn)

some_none : {X : Type 0} (x : X) → None ≡ Some x → ⊥
some_none x e = cc

-- so no release is refused
pub never_kept : {S R : Type 0} (m : Meaning S R) (now : ℕ) (old new : List S) (conn later : Conn R) → IsConnection conn → CanGoOn m old conn → is_judged (progress_of conn).phase ≡ true → HasMoved m now old conn new later Kept → ⊥
never_kept {R = R} m now old new conn later living ready judged moves =
    ∥∥₁_elim living (λ x _. absurd x) (λ found.
    let connection = found.0 in
    let stands : Stands conn connection = found.1 in
    let one = moves connection stands in
    let wants_same : need connection ≡ judging (wanted conn) (progress_of conn) = sym (need_same conn connection stands) ∙ needs_judging conn ready.given judged in
    let none : released_of (need connection) connection.progress ≡ None = (λ k. released_of (wants_same k) (sym stands.progress k)) ∙ judging_keeps (wanted conn) (progress_of conn) in
    some_none one.2.0 (sym none ∙ one.2.1))

-- so it goes on while it is judged, one move more
goes_judged_more : {S R C : Type 0} (m : Meaning S R) (shows : C → ℕ → C → Type 0) (count : ℕ) (old middle new : Visit S R C) (moved : Moved) → is_judged middle.connection.progress.phase ≡ true → moved ≢ Kept
    → GoesJudged m shows count old middle → MovesOnce m shows middle new moved → GoesJudged m shows (suc count) old new
goes_judged_more m shows zero old middle new moved judged goes_on goes moves =
    (subst (λ visit. is_judged visit.connection.progress.phase ≡ true) goes judged, new, moved, goes_on, subst (λ visit. MovesOnce m shows visit new moved) goes moves, refl)
goes_judged_more m shows (suc count) old middle new moved judged goes_on goes moves =
    (goes.0, goes.1, goes.2, goes.3, goes.4, goes_judged_more m shows count goes.1 middle new moved judged goes_on goes.5 moves)

pub judged_none : {S R C : Type 0} (m : Meaning S R) (shows : C → ℕ → C → Type 0) (ports : List S) (conn : Conn R) (clock : C) → HasGoneJudged m shows ports conn clock ports conn clock
judged_none m shows ports conn clock connection stands = (connection, stands, (0, refl))

pub judged_more : {S R C : Type 0} (m : Meaning S R) (shows : C → ℕ → C → Type 0) (old middle new : List S) (conn next later : Conn R) (clock between shown : C) (moved : Moved) → IsConnection next → CanGoOn m middle next → is_judged (progress_of next).phase ≡ true
    → HasGoneJudged m shows old conn clock middle next between → HasMovedOnce m shows middle next between new later shown moved → HasGoneJudged m shows old conn clock new later shown
judged_more {R = R} m shows old middle new conn next later clock between shown moved living ready judged gone moves connection stands =
    let so_far = gone connection stands in
    let one = moves.3 so_far.0 so_far.1 in
    let still_judged : is_judged so_far.0.progress.phase ≡ true = subst (λ (p : Progress R). is_judged p.phase ≡ true) so_far.1.progress judged in
    let goes_on : moved ≢ Kept = λ kept. never_kept m moves.0 middle new next later living ready judged (subst (λ (it : Moved). HasMoved m moves.0 middle next new later it) kept moves.3) in (
      one.0,
      one.1,
      (
        suc so_far.2.0,
        goes_judged_more m shows so_far.2.0 (record { ports = old; connection = connection; clock = clock }) (record { ports = middle; connection = so_far.0; clock = between }) (record { ports = new; connection = one.0; clock = shown }) moved still_judged goes_on
            so_far.2.1 (moves.0, moves.1, moves.2, one.2),
      ),
    )

-- ---- it is a connection still

pub connection_after : {S R : Type 0} (m : Meaning S R) (now : ℕ) (old new : List S) (conn later : Conn R) (moved : Moved) → HasMoved m now old conn new later moved → IsConnection conn → IsConnection later
connection_after m now old new conn later moved moves living = ∥∥₁_map living (λ found. let one = moves found.0 found.1 in (one.0, one.1))
