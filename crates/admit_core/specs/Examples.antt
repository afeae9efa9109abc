-- Worked examples of connections, which the checker computes.
use Rattle.std.specs.Prelude.{refl, ◌≡◌, ℕ, [], ◌∷◌, Some, None}
use Rattle.stored_data.specs.Fields.{same_field}
use Rattle.rule_addresses.specs.Prefix.{masked}
use Rattle.stored_data.specs.declared.act.Act.TheVariants.{BytesIn, BytesOut, Session}
use Rattle.stick_model.specs.State.{State, empty_table}
use Rattle.stick_model.specs.Step.{after}
use Rattle.stick_model.specs.declared.events.Event.TheVariants as events
use Rattle.stick_model.specs.declared.replies.Reply.TheVariants as replies
use Rattle.rule_model.specs.declared.actions.Slot.TheVariants.{Sc0, Sc1}
use Rattle.rule_eval.specs.Examples.{addresses, client, client_key, one_each, shown}
use Rattle.rule_eval.specs.Verdict.{effect, judged}
use Rattle.rule_eval.specs.declared.wants.Answer.TheVariants as answers
use Rattle.admit_core.specs.Connection.{Connection, arrived, need, need_of, took, took_of, turned}
use Rattle.admit_core.specs.Life.{life_of}
use Rattle.admit_core.specs.declared.need.Need.TheVariants.{Count, Look, Release, Rest, Track, Turn}

-- ---- two connections of one address, judged at once, where one is allowed

-- both have their reference before either looks
abbrev both_tracked : State
both_tracked = (after (after (empty_table addresses) (events.Track 0 client_key) 0).1 (events.Track 0 client_key) 1).1

-- so each is shown both
first-looks : (after both_tracked (events.Look 0 (record { slot = 0; number = 1 })) 0).0 ≡ replies.Row (shown 2)
first-looks = refl

second-looks : (after both_tracked (events.Look 0 (record { slot = 1; number = 2 })) 0).0 ≡ replies.Row (shown 2)
second-looks = refl

-- one of them, whose reference is a number here
abbrev comes : Connection ℕ
comes = arrived one_each client

abbrev has_tracked : Connection ℕ
has_tracked = took comes answers.Tracked (Some 0)

abbrev is_shown : ℕ → Connection ℕ
is_shown count = took has_tracked (answers.Row (shown count)) None

wants-reference : need comes ≡ Track Sc0 0 client_key
unfolding masked need_of effect
wants-reference = refl

wants-look : need has_tracked ≡ Look Sc0
unfolding masked need_of took_of effect judged
wants-look = refl

-- beyond the limit it is rejected, and gives its reference back
wants-turn : need (is_shown 2) ≡ Turn
unfolding masked need_of took_of effect judged same_field
wants-turn = refl

gives-back : need (turned (is_shown 2)) ≡ Release Sc0
unfolding masked need_of took_of effect judged same_field
gives-back = refl

-- within it its session is counted
counts-session : need (is_shown 1) ≡ Count Sc0 Session
unfolding masked need_of took_of effect judged same_field
counts-session = refl

-- ---- the life of one that holds two references

life-two : life_of (Sc0 ∷ Sc1 ∷ []) 420 1337
    ≡ Count Sc0 Session ∷ Count Sc1 Session ∷ Turn
    ∷ Rest ∷ Count Sc0 (BytesIn 420) ∷ Count Sc0 (BytesOut 1337) ∷ Count Sc1 (BytesIn 420) ∷ Count Sc1 (BytesOut 1337)
    ∷ Release Sc0 ∷ Release Sc1 ∷ Turn ∷ []
life-two = refl
