-- What has passed has passed for ever, as seats are told of more.
use Rattle.std.proofs.Common.{◌≡◌, ℕ, zero, suc, sym, subst, Bool, true, List, slice_get, Some}
use Rattle.std.specs.List.{list_any}
use Rattle.std.proofs.Math.Bool.{Bool-set}
use Rattle.std.proofs.Math.Logic.{∥∥₁_elim, ∥∥₁_map, ∥∥₁_map₂}
use mathlib.Core.List.{IsPrefix}
use Rattle.stored_data.specs.Stored.{is_column}
use Rattle.stored_data.specs.declared.datum.Datum.TheVariants.{ConnCur}
use Rattle.stick_model.specs.Key.{Key}
use Rattle.stick_model.specs.declared.specification.Spec.{Spec}
use Rattle.stick_model.specs.declared.replies.Reply.{Reply}
use Rattle.shard_record.specs.declared.view.Call.{Call as Noted}
use Rattle.shard_record.specs.Calls.{IsHistory}
use Rattle.shard_record.proofs.Records.{passed_later}
use Rattle.shard_book.specs.SeatState.{RefState}
use Rattle.shard_locks.specs.Ported.{seated_meaning}
use Rattle.shard_locks.specs.ShardsState.{SeatedState, ShardsState}
use Rattle.rule_model.specs.declared.sections.Setup.{Setup}
use Rattle.rule_eval.specs.declared.wants.Samples.{Samples}
use Rattle.admit_core.specs.Connection.{Connection}
use Rattle.admit_core.specs.declared.conn.Conn.{Conn}
use Rattle.admit_port.specs.Calls.{AnswersAt, Call}
use Rattle.admit_port.specs.DriveCode.{IsConnection}
use Rattle.admit_port.specs.Moves.{Moves}
use Rattle.admit_port.specs.Visit.{Goes, GoesJudged, HasGoneJudged, HasRested, Rests, Visit}
use Rattle.admit_port.specs.declared.moved.Moved.{Moved}
use Rattle.admit_port.specs.declared.moved.Moved.TheVariants.{Answered, Turned, Refused, Kept}
use Rattle.admit_port.specs.declared.moved.Rested.{Rested}
use Rattle.admit_port.specs.declared.moved.Rested.TheVariants.{Still, Kept as RestsKept}
use Rattle.tcp_relay.specs.Passed.{HasPassed, HasPassedBy, HasPassedLimits, HavePassedStill, PassedStaysLaw, shows_few}
use Rattle.tcp_relay.specs.Seating.{StoreAs}
use Rattle.tcp_relay.specs.Untracked.{IsUntrackedFor, known_of}
use Rattle.shard_locks.proofs.KeyLemmas.{was_later}
use Rattle.tcp_relay.proofs.PassedCalls.{any_later}
use Rattle.tcp_relay.proofs.PassedSeats.{seats_grow, tables_stay}
use Rattle.tcp_relay.proofs.UntrackedGoes.{untracked_told}

-- by more calls of the same table
has_later : (shards limit : ℕ) (key : Key) (log later : List Noted) (reference : RefState) → IsPrefix log later → IsHistory later → HasPassed shards limit key log reference → HasPassed shards limit key later reference
has_later shards limit key log later reference begins history has =
    let looked : list_any (shows_few key limit reference.ticket) later ≡ true = any_later (shows_few key limit reference.ticket) log later begins has.looked in
    record {
      history = history;
      on_shard = has.on_shard;
      of_key = was_later log later reference.ticket key begins has.of_key;
      looked = looked;
      passed = passed_later key limit log later (reference.ticket, key) begins has.passed;
    }

-- as a seat is told of a call
told_passed : (setup : Setup) (samples : Samples) (limit : ℕ) (old new : List SeatedState) (asked : Call) (reply : Reply) (entry : ℕ × RefState) → AnswersAt seated_meaning old asked reply new → HasPassedBy setup samples limit old entry
    → HasPassedBy setup samples limit new entry
told_passed setup samples limit old new asked reply entry by passed =
    let grown = seats_grow old new asked reply by entry.0 entry.1.shard passed.seat passed.at in
    record {
      key = passed.key;
      source = passed.source;
      seat = grown.later;
      at = grown.at;
      has = has_later setup.shards limit passed.key (known_of passed.seat entry.1.shard) (known_of grown.later entry.1.shard) entry.1 grown.more (grown.history passed.has.history) passed.has;
    }

pub stays_law : PassedStaysLaw
stays_law setup samples limit now old new connection after Answered entry moves passed = told_passed setup samples limit old new moves.0 moves.1 entry moves.3 passed
stays_law setup samples limit now old new connection after Turned entry moves passed = subst (λ seats. HasPassedBy setup samples limit seats entry) (sym moves.1) passed
stays_law setup samples limit now old new connection after Refused entry moves passed = subst (λ seats. HasPassedBy setup samples limit seats entry) (sym moves.2) passed
stays_law setup samples limit now old new connection after Kept entry moves passed = subst (λ seats. HasPassedBy setup samples limit seats entry) (sym moves.3) passed

-- ---- as a connection goes on

-- what it holds by sc0 has passed, as a seat is told of a call
limits_told : (setup : Setup) (samples : Samples) (conn : Conn RefState) (old new : List SeatedState) (asked : Call) (reply : Reply) → AnswersAt seated_meaning old asked reply new → HasPassedLimits setup samples old conn → HasPassedLimits setup samples new conn
limits_told setup samples conn old new asked reply by had name table limit entry first held =
    let was = had name table limit entry first held in
    (was.0, told_passed setup samples limit old new asked reply entry by was.1)

-- what it holds by sc0 has passed, and where it holds nothing its key was given none
abbrev IsAccountedFor : Setup → Samples → List SeatedState → Conn RefState → Type 0
IsAccountedFor setup samples seats conn = HasPassedLimits setup samples seats conn × IsUntrackedFor setup samples seats conn

accounted_told : (setup : Setup) (samples : Samples) (conn : Conn RefState) (old new : List SeatedState) (asked : Call) (reply : Reply) → AnswersAt seated_meaning old asked reply new → IsAccountedFor setup samples old conn → IsAccountedFor setup samples new conn
accounted_told setup samples conn old new asked reply by had = (limits_told setup samples conn old new asked reply by had.0, untracked_told setup samples conn old new asked reply by had.1)

-- what stays as seats are told of a call stays as a connection goes on by them
module _ (P : List SeatedState → Type 0) (told : (old new : List SeatedState) (asked : Call) (reply : Reply) → AnswersAt seated_meaning old asked reply new → P old → P new) where
  moves_keep : (now : ℕ) (old new : List SeatedState) (connection after : Connection RefState) (moved : Moved) → Moves seated_meaning now old connection new after moved → P old → P new
  moves_keep now old new connection after Answered moves had = told old new moves.0 moves.1 moves.3 had
  moves_keep now old new connection after Turned moves had = subst P (sym moves.1) had
  moves_keep now old new connection after Refused moves had = subst P (sym moves.2) had
  moves_keep now old new connection after Kept moves had = subst P (sym moves.3) had

  module _ {C : Type 0} (shows : C → ℕ → C → Type 0) where
    judged_keeps : (count : ℕ) (old new : Visit SeatedState RefState C) → GoesJudged seated_meaning shows count old new → P old.ports → P new.ports
    judged_keeps zero old new goes had = subst (λ (visit : Visit SeatedState RefState C). P visit.ports) (sym goes) had
    judged_keeps (suc count) old new goes had =
        let once = goes.4 in
        judged_keeps count goes.1 new goes.5 (moves_keep once.0 old.ports goes.1.ports old.connection goes.1.connection goes.2 once.3 had)

    goes_keep : (count : ℕ) (old new : Visit SeatedState RefState C) → Goes seated_meaning shows count old new → P old.ports → P new.ports
    goes_keep zero old new goes had = subst (λ (visit : Visit SeatedState RefState C). P visit.ports) (sym goes) had
    goes_keep (suc count) old new goes had =
        let once = goes.2 in
        goes_keep count goes.0 new goes.3 (moves_keep once.0 old.ports goes.0.ports old.connection goes.0.connection goes.1 once.3 had)

    rests_keeps : (old new : Visit SeatedState RefState C) (rested : Rested) → Rests seated_meaning shows old new rested → P old.ports → P new.ports
    rests_keeps old new Still rests had = subst (λ (visit : Visit SeatedState RefState C). P visit.ports) (sym rests.still.0) (goes_keep rests.count old rests.last rests.goes had)
    rests_keeps old new RestsKept rests had =
        moves_keep rests.still.0 rests.last.ports new.ports rests.last.connection new.connection Kept rests.still.3 (goes_keep rests.count old rests.last rests.goes had)

-- a table stores conn_cur or doesn't
abbrev spec_in : SeatedState → Spec
spec_in one = one.table.spec

abbrev StoresAt : (ℕ → Bool) → ℕ → List SeatedState → Type 0
StoresAt current i seats = (seat : SeatedState) → slice_get seats i ≡ Some seat → is_column seat.table.spec.columns ConnCur ≡ current i

stores_told : (current : ℕ → Bool) (i : ℕ) (old new : List SeatedState) (asked : Call) (reply : Reply) → AnswersAt seated_meaning old asked reply new → StoresAt current i old → StoresAt current i new
stores_told current i old new asked reply by had = tables_stay old new asked reply by i (λ (t : ShardsState). is_column t.spec.columns ConnCur ≡ current i) had

-- where the limits that it has passed stay so by some connection, it has passed still
kept_by : (old new : List SeatedState) → ∥ ((setup : Setup) (samples : Samples) (conn : Conn RefState) → IsAccountedFor setup samples old conn → IsAccountedFor setup samples new conn) ∥₁ → HavePassedStill old new
kept_by old new stay first conn had = ∥∥₁_map₂ stay had (λ stays it. let still = stays it.0 it.2 conn (it.3.1, it.3.2) in (it.0, it.1, it.2, (it.3.0, still.0, still.1)))

module _ {C : Type 0} (shows : C → ℕ → C → Type 0) where
  -- one that was judged, and one that came to rest, whatever connection each was
  pub judged_keep : (old new : List SeatedState) (conn later : Conn RefState) (clock shown : C) → IsConnection conn → HasGoneJudged seated_meaning shows old conn clock new later shown → HavePassedStill old new
  judged_keep old new conn later clock shown living gone =
      kept_by old new (∥∥₁_map living (λ found setup samples held had.
      let visit = gone found.0 found.1 in
      judged_keeps (λ seats. IsAccountedFor setup samples seats held) (accounted_told setup samples held) shows visit.2.0 (record { ports = old; connection = found.0; clock = clock }) (record { ports = new; connection = visit.0; clock = shown }) visit.2.1 had))

  pub rests_keep : (old new : List SeatedState) (conn later : Conn RefState) (clock shown : C) (rested : Rested) → IsConnection conn → HasRested seated_meaning shows old conn clock new later shown rested → HavePassedStill old new
  rests_keep old new conn later clock shown rested living gone =
      kept_by old new (∥∥₁_map living (λ found setup samples held had.
      let visit = gone found.0 found.1 in
      rests_keeps (λ seats. IsAccountedFor setup samples seats held) (accounted_told setup samples held) shows (record { ports = old; connection = found.0; clock = clock }) (record { ports = new; connection = visit.0; clock = shown }) rested visit.2 had))

  pub judged_stores : (old new : List SeatedState) (conn later : Conn RefState) (clock shown : C) (current : ℕ → Bool) → IsConnection conn → HasGoneJudged seated_meaning shows old conn clock new later shown → StoreAs spec_in current old → StoreAs spec_in current new
  judged_stores old new conn later clock shown current living gone had i seat at =
      ∥∥₁_elim living (Bool-set _ _) (λ found.
      let visit = gone found.0 found.1 in
      judged_keeps (StoresAt current i) (stores_told current i) shows visit.2.0 (record { ports = old; connection = found.0; clock = clock }) (record { ports = new; connection = visit.0; clock = shown }) visit.2.1 (had i) seat at)

  pub rests_store : (old new : List SeatedState) (conn later : Conn RefState) (clock shown : C) (rested : Rested) (current : ℕ → Bool) → IsConnection conn → HasRested seated_meaning shows old conn clock new later shown rested → StoreAs spec_in current old → StoreAs spec_in current new
  rests_store old new conn later clock shown rested current living gone had i seat at =
      ∥∥₁_elim living (Bool-set _ _) (λ found.
      let visit = gone found.0 found.1 in
      rests_keeps (StoresAt current i) (stores_told current i) shows (record { ports = old; connection = found.0; clock = clock }) (record { ports = new; connection = visit.0; clock = shown }) rested visit.2 (had i) seat at)
