-- The whole life of a connection that its rules have accepted.
use Rattle.std.specs.Prelude.{◌≡◌, ℕ, true, List, [], ◌∷◌, ◌++◌, map, None, if◌then◌else◌}
use Rattle.stored_data.specs.declared.act.Act.{Act}
use Rattle.rule_model.specs.declared.actions.Slot.{Slot}
use Rattle.rule_eval.specs.declared.wants.Verdict.TheVariants.{Accept}
use Rattle.rule_eval.specs.declared.wants.Want.TheVariants.{Done}
use Rattle.admit_core.specs.Connection.{Connection, asks, bytes_of, is_judged, need, sessions}
use Rattle.admit_core.specs.Held.{holding}
use Rattle.admit_core.specs.History.{Happening, Lives, after, answered, closes, gives, is_count, turns, was_refused}
use Rattle.admit_core.specs.declared.need.Need.{Need}
use Rattle.admit_core.specs.declared.need.Need.TheVariants.{Count, Release, Rest, Turn}
use Rattle.admit_core.specs.declared.need.Phase.TheVariants.{Ended}

-- the need that is over with a happening: what was answered, a count that was refused, a turn, or the rest before its close;
-- a release that was refused is wanted again, and to hand out a reference is only its beginning
abbrev pub over : {R : Type 0} → Connection R → Happening R → List Need
over connection (answered answer reference) = need connection ∷ []
over connection (was_refused reference) = if is_count (need connection) then need connection ∷ [] else []
over connection turns = Turn ∷ []
over connection (closes bytes_in bytes_out) = Rest ∷ []
over connection gives = []

-- all that are over with a history, in their order
abbrev pub over_all : {R : Type 0} → Connection R → List (Happening R) → List Need
over_all connection [] = []
over_all connection (happening ∷ more) = over connection happening ++ over_all (after connection happening) more

abbrev pub counts : List (Slot × Act) → List Need
counts acts = map (λ one. Count one.0 one.1) acts

-- the bytes with which a history closes a connection, each time
abbrev pub closings : {R : Type 0} → List (Happening R) → List (ℕ × ℕ)
closings [] = []
closings (closes bytes_in bytes_out ∷ more) = (bytes_in, bytes_out) ∷ closings more
closings (happening ∷ more) = closings more

-- for slots that hold a reference: their sessions are counted, it is admitted, rests until it is closed, their bytes are
-- counted, their references go back, and it ends
abbrev pub life_of : List Slot → ℕ → ℕ → List Need
life_of slots bytes_in bytes_out = counts (sessions slots) ++ Turn ∷ Rest ∷ counts (bytes_of bytes_in bytes_out slots) ++ map Release slots ++ Turn ∷ []

-- from the verdict to the end each of these is over once, in this order, whatever is refused on the way; it is closed once,
-- and the bytes that are counted are those with which it was closed
abbrev pub LifeLaw : Type 0 → Type 0
LifeLaw R = (connection last : Connection R) (history : List (Happening R)) →
    is_judged connection.progress.phase ≡ true → asks connection ≡ Done Accept → connection.progress.counted ≡ 0 → connection.progress.bytes ≡ None → connection.progress.given ≡ None →
    Lives connection history last → last.progress.phase ≡ Ended →
    (bytes_in : ℕ) × (bytes_out : ℕ) × (closings history ≡ (bytes_in, bytes_out) ∷ [])
    × (over_all connection history ≡ life_of (holding connection.progress.held) bytes_in bytes_out)
