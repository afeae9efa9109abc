-- A connection that goes on unrefused comes to rest in one way, but for the slots of references.
use Rattle.std.proofs.Common.{◌≡◌, inl, inr, ℕ, zero, suc, refl, sym, ap, subst, ◌∙◌, true, false, List, Some, None}
use Rattle.std.proofs.lemmas.Bool.{false≢true}
use Rattle.std.specs.Prelude.{option_map}
use Rattle.stick_model.specs.State.{State}
use Rattle.rule_model.specs.declared.sections.Setup.{Setup}
use Rattle.rule_eval.specs.declared.wants.Answer.{Answer}
use Rattle.rule_eval.specs.declared.wants.Samples.{Samples}
use Rattle.admit_core.specs.Connection.{Connection, is_judged, need}
use Rattle.admit_core.specs.Left.{is_still}
use Rattle.admit_core.specs.declared.need.Need.{Need}
use Rattle.admit_core.specs.declared.need.Need.TheVariants as needs
use Rattle.admit_drive.specs.Laws.{OneRestLaw}
use Rattle.admit_drive.specs.Unrefused.{GoesUnrefused, ComesToRestUnrefused}
use Rattle.admit_drive.specs.Calls.{call_of}
use Rattle.admit_drive.specs.Moves.{Goes, ComesToRest}
use Rattle.admit_drive.specs.Tables.{AreTablesOf, TableState, shard_at}
use Rattle.shard_port.specs.declared.reference.Reference.{Reference}
use Rattle.admit_drive.proofs.BehindLemmas.{as_told, moved_told}
use Rattle.admit_drive.proofs.TablesLemmas.{move_tables}
use Rattle.admit_drive.proofs.OneMoveLemmas.{IsOne, Moved, SameView, View, move_plain, moved_once, quiet_of, records_plain, view}
use Rattle.admit_drive.proofs.PlainConnectionLemmas.{need_plain, plain_connection}

-- one move after another, without slots
abbrev pub Course : ℕ → ℕ → View → Connection Reference → View → Connection Reference → Type 0
Course now zero old connection new later = SameView new old × (later ≡ connection)
Course now (suc count) old connection new later = (middle : View) × (next : Connection Reference) × Moved now old connection middle next × Course now count middle next new later

pub goes_plain : (setup : Setup) (now count : ℕ) (old : List TableState) (connection : Connection Reference) (new : List TableState) (later : Connection Reference) → AreTablesOf setup old → GoesUnrefused now count old connection new later
    → Course now count (view old) (plain_connection connection) (view new) (plain_connection later)
goes_plain setup now zero old connection new later are goes = (λ table part. ap (λ tables. view tables table part) goes.0, ap plain_connection goes.1)
goes_plain setup now (suc count) old connection new later are goes =
    (view goes.0, plain_connection goes.1, move_plain setup now old goes.0 connection goes.1 are goes.2, goes_plain setup now count goes.0 goes.1 new later (move_tables now setup old connection goes.0 goes.1 false are goes.2) goes.3)

-- behind the verdict, with other samples and answers, and it stays behind it
pub course_told : (samples : Samples) (given : List Answer) (now count : ℕ) (old : View) (connection : Connection Reference) (new : View) (later : Connection Reference) → is_judged connection.progress.phase ≡ false → Course now count old connection new later
    → Course now count old (as_told samples given connection) new (as_told samples given later) × (is_judged later.progress.phase ≡ false)
course_told samples given now zero old connection new later judged course = ((course.0, ap (as_told samples given) course.1), ap (λ (c : Connection Reference). is_judged c.progress.phase) course.1 ∙ judged)
course_told samples given now (suc count) old connection new later judged course =
    let moved = moved_told samples given now old course.0 connection course.1 judged course.2 in
    let rest = course_told samples given now count course.0 course.1 new later moved.1 course.3 in
    ((course.0, as_told samples given course.1, moved.0, rest.0), rest.1)

-- one that rests stays
still_quiet : (connection : Connection Reference) (wanted : Need) → is_still wanted ≡ true → quiet_of connection wanted ≡ connection
still_quiet connection needs.Rest still = refl
still_quiet connection needs.Finished still = refl
still_quiet connection needs.Turn still = absurd (false≢true still)
still_quiet connection (needs.Get table key) still = refl
still_quiet connection (needs.Track slot table key) still = refl
still_quiet connection (needs.Look slot) still = refl
still_quiet connection (needs.Count slot act) still = refl
still_quiet connection (needs.Release slot) still = refl

still_asks : (now : ℕ) (connection : Connection Reference) (wanted : Need) → is_still wanted ≡ true → call_of connection.setup.shards now connection.progress.held wanted ≡ None
still_asks now connection needs.Rest still = refl
still_asks now connection needs.Finished still = refl
still_asks now connection needs.Turn still = refl
still_asks now connection (needs.Get table key) still = absurd (false≢true still)
still_asks now connection (needs.Track slot table key) still = absurd (false≢true still)
still_asks now connection (needs.Look slot) still = absurd (false≢true still)
still_asks now connection (needs.Count slot act) still = absurd (false≢true still)
still_asks now connection (needs.Release slot) still = absurd (false≢true still)

moved_still : (now : ℕ) (old new : View) (connection later : Connection Reference) → is_still (need connection) ≡ true → Moved now old connection new later → IsOne later connection new old
moved_still now old new connection later still (inl quiet) = record { later = quiet.becomes ∙ still_quiet connection (need connection) still; view_is = quiet.same }
moved_still now old new connection later still (inr told) = let never : None ≡ Some told.call = sym (still_asks now connection (need connection) still) ∙ told.asked in cc

stays : (now count : ℕ) (old new : View) (connection later : Connection Reference) → is_still (need connection) ≡ true → Course now count old connection new later → IsOne later connection new old
stays now zero old new connection later still course = record { later = course.1; view_is = course.0 }
stays now (suc count) old new connection later still course =
    let one = moved_still now old course.0 connection course.1 still course.2 in
    let rest = stays now count course.0 new course.1 later (ap (λ (c : Connection Reference). is_still (need c)) one.later ∙ still) course.3 in
    record { later = rest.later ∙ one.later; view_is = λ table part. rest.view_is table part ∙ one.view_is table part }

-- two that rest at last have come to the same
pub course_once : (now m n : ℕ) (connection one other : Connection Reference) (old again first second : View) → SameView old again → Course now m old connection first one → is_still (need one) ≡ true → Course now n again connection second other → is_still (need other) ≡ true
    → IsOne one other first second
course_once now zero n connection one other old again first second same a still_a b still_b =
    let rest = stays now n again second connection other (ap (λ (c : Connection Reference). is_still (need c)) (sym a.1) ∙ still_a) b in
    record { later = a.1 ∙ sym rest.later; view_is = λ table part. a.0 table part ∙ same table part ∙ sym (rest.view_is table part) }
course_once now (suc m) zero connection one other old again first second same a still_a b still_b =
    let rest = stays now (suc m) old first connection one (ap (λ (c : Connection Reference). is_still (need c)) (sym b.1) ∙ still_b) a in
    record { later = rest.later ∙ sym b.1; view_is = λ table part. rest.view_is table part ∙ same table part ∙ sym (b.0 table part) }
course_once now (suc m) (suc n) connection one other old again first second same a still_a b still_b =
    let next = moved_once now connection a.1 b.1 old again a.0 b.0 same a.2 b.2 in
    course_once now m n a.1 one other a.0 b.0 first second next.view_is a.3 still_a (subst (λ (c : Connection Reference). Course now n b.0 c second other) (sym next.later) b.3) still_b

pub still_plain : (connection : Connection Reference) → is_still (need connection) ≡ true → is_still (need (plain_connection connection)) ≡ true
still_plain connection still = ap is_still (need_plain connection) ∙ still

-- what isn't refused goes on as all do
goes_on : (now count : ℕ) (old : List TableState) (connection : Connection Reference) (new : List TableState) (later : Connection Reference) → GoesUnrefused now count old connection new later → Goes now count old connection new later
goes_on now zero old connection new later goes = goes
goes_on now (suc count) old connection new later goes = (goes.0, goes.1, false, goes.2, goes_on now count goes.0 goes.1 new later goes.3)

pub rests_so : (now : ℕ) (old : List TableState) (connection : Connection Reference) (new : List TableState) (later : Connection Reference) → ComesToRestUnrefused now old connection new later → ComesToRest now old connection new later
rests_so now old connection new later settles = record { count = settles.count; goes = goes_on now settles.count old connection new later settles.goes; still = settles.still }

pub one_rest_law : OneRestLaw
one_rest_law setup now old one other connection first second are a b =
    let same : IsOne (plain_connection first) (plain_connection second) (view one) (view other) =
    course_once now a.count b.count (plain_connection connection) (plain_connection first) (plain_connection second) (view old) (view old) (view one) (view other) (λ table part. refl) (goes_plain setup now a.count old connection one first are a.goes)
    (still_plain first a.still) (goes_plain setup now b.count old connection other second are b.goes) (still_plain second b.still) in
    record {
      answers = ap (λ (c : Connection Reference). c.answers) same.later;
      phase = ap (λ (c : Connection Reference). c.progress.phase) same.later;
      records = λ table part. sym (records_plain (shard_at one table part)) ∙ ap (option_map (λ (s : State). s.records)) (same.view_is table part) ∙ records_plain (shard_at other table part);
    }
