-- Whoever has passed a limit has passed each greater one; so a limit holds of all who were judged by it or by lesser ones.
use Rattle.std.proofs.Common.{◌≡◌, ℕ, ◌≤◌, refl, sym, ap, subst, ◌∙◌, arith, nat_le, Bool, true, false, if◌then◌else◌, ◌&&◌, ◌||◌, List, [], ◌∷◌}
use Rattle.std.specs.List.{AllByRecursion, list_any}
use Rattle.std.proofs.lemmas.Bool.{false≢true}
use Rattle.std.proofs.lemmas.Bool.Decides.{nat_tests}
use Rattle.std.proofs.lemmas.List.Folds.{list_any-append}
use Rattle.stick_model.specs.Key.{Key, same_key}
use Rattle.stick_model.specs.State.{same_ticket}
use Rattle.stick_model.specs.Passed.{passing_look, passing_looks}
use Rattle.stick_model.specs.declared.events.Event.{Event}
use Rattle.stick_model.specs.declared.events.Event.TheVariants as events
use Rattle.stick_model.specs.declared.replies.Reply.{Reply}
use Rattle.stick_model.specs.declared.replies.Reply.TheVariants as replies
use Rattle.stick_model.specs.declared.rows.Ticket.{Ticket}
use Rattle.shard_record.specs.declared.view.Call.{Call}
use Rattle.shard_record.specs.declared.view.Part.{Part}
use Rattle.shard_record.specs.Calls.{Held, events_in, passed_in, replies_in}
use Rattle.shard_record.specs.Parts.{Kept, total}
use Rattle.shard_record.specs.Views.{parts_at}
use Rattle.shard_record.proofs.LawLemmas.{at_once-law}
use Rattle.shard_record.proofs.Records.{count_more}
use Rattle.shard_record.specs.Laws.{passed_of}
use Rattle.tcp_relay.specs.Across.{AcrossLaw, PassesMoreLaw, passed_any_of}

-- ---- a greater limit

and_more : (a b c : Bool) → (b ≡ true → c ≡ true) → (a && b) ≡ true → (a && c) ≡ true
and_more true b c more is = more is
and_more false b c more is = absurd (false≢true is)

or_more : (a b c d : Bool) → (a ≡ true → c ≡ true) → (b ≡ true → d ≡ true) → (a || b) ≡ true → (c || d) ≡ true
or_more true b c d first second is = ap (λ x. x || d) (first refl)
or_more false b true d first second is = refl
or_more false b false d first second is = second is

at_most : (count limit most : ℕ) → limit ≤ most → nat_le count limit ≡ true → nat_le count most ≡ true
at_most count limit most less is = grind (arith, nat_tests, less, is)

-- what is there under one condition is there under a weaker one
any_if : {X : Type 0} (p : X → Bool) (x : X) (b c : Bool) → (b ≡ true → c ≡ true) → list_any p (if b then x ∷ [] else []) ≡ true → list_any p (if c then x ∷ [] else []) ≡ true
any_if p x true c more is = subst (λ b. list_any p (if b then x ∷ [] else []) ≡ true) (sym (more refl)) is
any_if p x false c more is = absurd (false≢true is)

-- of one look
look_more : (p : Ticket → Bool) (key : Key) (limit most : ℕ) (event : Event) (reply : Reply) → limit ≤ most → list_any p (passing_look key limit event reply) ≡ true → list_any p (passing_look key most event reply) ≡ true
look_more p key limit most (events.Look now ticket) (replies.Row row) less is =
    any_if p ticket (same_key key row.key && nat_le row.refs limit) (same_key key row.key && nat_le row.refs most)
    (and_more (same_key key row.key) (nat_le row.refs limit) (nat_le row.refs most) (at_most row.refs limit most less)) is
look_more p key limit most (events.Look now ticket) replies.Released less is = is
look_more p key limit most (events.Look now ticket) replies.Absent less is = is
look_more p key limit most (events.Look now ticket) replies.NoRefs less is = is
look_more p key limit most (events.Look now ticket) replies.Full less is = is
look_more p key limit most (events.Look now ticket) (replies.Tracked given row) less is = is
look_more p key limit most (events.Look now ticket) (replies.Value value) less is = is
look_more p key limit most (events.Look now ticket) (replies.NotSettable field) less is = is
look_more p key limit most (events.Look now ticket) (replies.NotStored field) less is = is
look_more p key limit most (events.Look now ticket) (replies.Written created) less is = is
look_more p key limit most (events.Look now ticket) replies.InUse less is = is
look_more p key limit most (events.Look now ticket) replies.Removed less is = is
look_more p key limit most (events.Look now ticket) (replies.Cleared removed kept) less is = is
look_more p key limit most (events.Look now ticket) (replies.Rows used rows) less is = is
look_more p key limit most (events.Look now ticket) (replies.Expired count) less is = is
look_more p key limit most (events.Get now asked) reply less is = is
look_more p key limit most (events.Track now asked) reply less is = is
look_more p key limit most (events.Count now ticket act) reply less is = is
look_more p key limit most (events.Release now ticket) reply less is = is
look_more p key limit most (events.Put now asked cells) reply less is = is
look_more p key limit most (events.Clear now asked) reply less is = is
look_more p key limit most (events.ClearWhere now filter) reply less is = is
look_more p key limit most (events.List now filter) reply less is = is
look_more p key limit most (events.Expire now) reply less is = is

-- of all looks
looks_more : (p : Ticket → Bool) (key : Key) (limit most : ℕ) (asked : List Event) (answers : List Reply) → limit ≤ most → list_any p (passing_looks key limit asked answers) ≡ true → list_any p (passing_looks key most asked answers) ≡ true
looks_more p key limit most [] answers less is = is
looks_more p key limit most (event ∷ asked) [] less is = is
looks_more p key limit most (event ∷ asked) (reply ∷ answers) less is =
    list_any-append p (passing_look key most event reply) (passing_looks key most asked answers)
    ∙ or_more (list_any p (passing_look key limit event reply)) (list_any p (passing_looks key limit asked answers)) (list_any p (passing_look key most event reply)) (list_any p (passing_looks key most asked answers))
    (look_more p key limit most event reply less) (looks_more p key limit most asked answers less)
    (sym (list_any-append p (passing_look key limit event reply) (passing_looks key limit asked answers)) ∙ is)

pub passes_more : PassesMoreLaw
passes_more key limit most log held less is =
    and_more (same_key key held.1) (list_any (same_ticket held.0) (passing_looks key limit (events_in log) (replies_in log))) (list_any (same_ticket held.0) (passing_looks key most (events_in log) (replies_in log)))
    (looks_more (same_ticket held.0) key limit most (events_in log) (replies_in log) less) is

-- ---- some limits

-- who has passed one of them has passed what none of them is above
any_passed : (key : Key) (log : List Call) (held : Held) (limits : List ℕ) (most : ℕ) → AllByRecursion (λ limit. limit ≤ most) limits → list_any (λ limit. passed_in key limit log held) limits ≡ true → passed_in key most log held ≡ true
any_passed key log held [] most all is = absurd (false≢true is)
any_passed key log held (limit ∷ limits) most all is = by (passed_in key limit log held) refl (any_passed key log held limits most all.1) is
  where
    by : (first : Bool) → passed_in key limit log held ≡ first → (list_any (λ limit. passed_in key limit log held) limits ≡ true → passed_in key most log held ≡ true) → (first || list_any (λ limit. passed_in key limit log held) limits) ≡ true
        → passed_in key most log held ≡ true
    by true passed rest _ = passes_more key limit most log held all.0 passed
    by false _ rest more = rest more

total_more : (f g : Part → ℕ) (parts : List Part) → ((part : Part) → f part ≤ g part) → total f parts ≤ total g parts
total_more f g [] more = omega arith
total_more f g (part ∷ parts) more = omega (arith, more part, total_more f g parts more)

pub across : AcrossLaw
across views kept book key limits most all =
    let parts = parts_at book views in
    let fewer : total (passed_any_of key limits (kept book)) parts ≤ total (passed_of key most (kept book)) parts =
    total_more (passed_any_of key limits (kept book)) (passed_of key most (kept book)) parts
    (λ part. count_more (λ (held : Held). list_any (λ limit. passed_in key limit (kept book).log held) limits) (passed_in key most (kept book).log) part.held
    (λ held. any_passed key (kept book).log held limits most all)) in
    let few : total (passed_of key most (kept book)) parts ≤ most = (at_once-law views kept book).limit key most in
    omega (arith, fewer, few)
