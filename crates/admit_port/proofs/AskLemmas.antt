-- What asking a port comes to.
use Rattle.std.proofs.Common.{◌≡◌, ℕ, ◌<◌, refl, sym, ap, subst, ◌∙◌, true, false, List, length, map, slice_get, slice_set, get_or, Option, Some, None, is_some, inl, inr}
use Rattle.std.specs.Prelude.{option_map}
use Rattle.std.proofs.lemmas.Bool.{false≢true, ltb-true}
use Rattle.std.proofs.Math.Logic.{∥∥₁_elim}
use Rattle.std.proofs.Math.Nat.{ℕ_set}
use Rattle.std.proofs.lemmas.List.{length-map, length-set, map-set, set-get_or}
use Rattle.std.proofs.lemmas.Simd.{map-map}
use Rattle.std.proofs.lemmas.Option.{slice_get-get_or, slice_get-map}
use Rattle.stick_key.specs.Shard.{shard}
use Rattle.stick_model.specs.Key.{Key}
use Rattle.stick_model.specs.declared.rows.Row.{Row}
use Rattle.stick_model.specs.declared.rows.Ticket.{Ticket}
use Rattle.stick_model.specs.declared.events.Event.{Event}
use Rattle.stick_model.specs.declared.replies.Refusal.{Refusal}
use Rattle.stick_model.specs.declared.replies.Reply.{Reply}
use Rattle.stick_model.specs.declared.replies.Reply.TheVariants as replies
use Rattle.rule_model.specs.declared.actions.Slot.{Slot}
use Rattle.rule_model.specs.declared.sections.Setup.{Setup}
use Rattle.admit_core.specs.Conn.{judged_by, needed, progress_of, Stands}
use Rattle.rule_eval.specs.declared.wants.Answer.{Answer}
use Rattle.admit_core.specs.Connection.{Connection, Progress, answers_need, gave, is_release, need, need_takes_memory, refused, released_of, took, turned}
use Rattle.admit_core.specs.Held.{held_at}
use Rattle.admit_core.specs.Naming.{names_held, names_table_of}
use Rattle.admit_core.specs.declared.conn.Conn.{Conn}
use Rattle.admit_core.specs.declared.need.Need.{Need}
use Rattle.admit_core.specs.declared.need.Need.TheVariants as needs
use Rattle.admit_core.proofs.NeedLemmas.{conn_held, conn_table}
use Rattle.admit_port.specs.Answers.{row_answer, tracking_answer}
use Rattle.admit_port.specs.Calls.{AnswersAt, Call, IsAskedBy, IsAskedFor, heard}
use Rattle.admit_port.specs.DriveCode.{CanGoOn, HasMoved, IsConnection, IsReleaseRefused}
use Rattle.admit_port.specs.Moves.{IsRefused, Wants}
use Rattle.shard_port.specs.Port.{Meaning, came_with, is_tracking, place, row_reply}
use Rattle.admit_port.specs.Ports.{HoldsOf, NamesOf, parts_of}
use Rattle.admit_port.specs.declared.moved.Moved.TheVariants.{Answered, Turned, Refused, Kept}
use Rattle.admit_port.proofs.CommonLemmas.{need_same, setup_same}

-- ---- what is named is there

named : (setup : Setup) (ports : ℕ) (wanted : Need) → ports ≡ length setup.tables → names_table_of setup wanted ≡ true → NamesOf ports wanted
named setup ports (needs.Get table key) same names = subst (λ n. table < n) (sym same) (ltb-true table (length setup.tables) names)
named setup ports (needs.Track slot table key) same names = subst (λ n. table < n) (sym same) (ltb-true table (length setup.tables) names)
named setup ports (needs.Look slot) same names = tt
named setup ports (needs.Count slot act) same names = tt
named setup ports (needs.Release slot) same names = tt
named setup ports needs.Rest same names = tt
named setup ports needs.Turn same names = tt
named setup ports needs.Finished same names = tt

heard_setup : {S R : Type 0} (m : Meaning S R) (connection : Connection R) (at : ℕ) (reply : Reply) → (heard m connection at reply).setup ≡ connection.setup
heard_setup m connection at replies.Released = refl
heard_setup m connection at (replies.Tracked ticket row) = refl
heard_setup m connection at replies.Absent = refl
heard_setup m connection at (replies.Row row) = refl
heard_setup m connection at (replies.Value value) = refl
heard_setup m connection at _ = refl

-- ---- what is heard of a key

pub row_answers : (R : Type 0) (table : ℕ) (key : Key) (row : Option Row) → answers_need {R = R} (needs.Get table key) (row_answer row) None ≡ true
row_answers R table key None = refl
row_answers R table key (Some row) = refl

heard_row : {S R : Type 0} (m : Meaning S R) (connection : Connection R) (at : ℕ) (row : Option Row) → took connection (row_answer row) None ≡ heard m connection at (row_reply row)
heard_row m connection at None = refl
heard_row m connection at (Some row) = refl

pub got : {S R : Type 0} (m : Meaning S R) (conn later : Conn R) (at : ℕ) (row : Option Row) (answer : Answer) → answer ≡ row_answer row
    → ((connection : Connection R) → Stands conn connection → Stands later (took connection answer None)) → (connection : Connection R) → Stands conn connection → Stands later (heard m connection at (row_reply row))
got {R = R} m conn later at row answer is stands connection stood = subst (λ (c : Connection R). Stands later c) (ap (λ a. took connection a None) is ∙ heard_row m connection at row) (stands connection stood)

pub tracking_answers : {R : Type 0} (slot : Slot) (table : ℕ) (key : Key) (came : Option R) → answers_need (needs.Track slot table key) (tracking_answer came) came ≡ true
tracking_answers slot table key None = refl
tracking_answers slot table key (Some reference) = refl

heard_came : {S R : Type 0} (m : Meaning S R) (connection : Connection R) (at : ℕ) (reply : Reply) → is_tracking reply ≡ true → took connection (tracking_answer (came_with m at reply)) (came_with m at reply) ≡ heard m connection at reply
heard_came m connection at (replies.Tracked ticket row) is = refl
heard_came m connection at replies.Full is = refl
heard_came m connection at replies.NoRefs is = refl
heard_came m connection at _ is = absurd (false≢true is)

pub tracked : {S R : Type 0} (m : Meaning S R) (conn later : Conn R) (at : ℕ) (reply : Reply) (answer : Answer) (came : Option R) → is_tracking reply ≡ true → came ≡ came_with m at reply → answer ≡ tracking_answer came
    → ((connection : Connection R) → Stands conn connection → Stands later (took connection answer came)) → (connection : Connection R) → Stands conn connection → Stands later (heard m connection at reply)
tracked {R = R} m conn later at reply answer came tracks comes is stands connection stood =
    subst (λ (c : Connection R). Stands later c) (ap (λ a. took connection a came) is ∙ ap (λ (o : Option R). took connection (tracking_answer o) o) comes ∙ heard_came m connection at reply tracks) (stands connection stood)

-- ---- ports

-- ports with as many shards each as those had have them still
shards_by : {P S : Type 0} (parts : S → ℕ) (state : P → S) (xs ys : List P) (n : ℕ) → map (λ p. parts (state p)) xs ≡ map (λ p. parts (state p)) ys → ((i : ℕ) (s : S) → slice_get (map state ys) i ≡ Some s → parts s ≡ n)
    → (i : ℕ) (s : S) → slice_get (map state xs) i ≡ Some s → parts s ≡ n
shards_by {P = P} {S = S} parts state xs ys n same before i s is = by (slice_get xs i) (slice_get ys i) refl refl
  where
    of : P → ℕ
    of p = parts (state p)

    by : (o q : Option P) → slice_get xs i ≡ o → slice_get ys i ≡ q → parts s ≡ n
    by None q ox oq = let e : None ≡ Some s = sym (slice_get-map state xs i ∙ ap (option_map state) ox) ∙ is in cc
    by (Some p) None ox oq = let e : Some (of p) ≡ None = sym (slice_get-map of xs i ∙ ap (option_map of) ox) ∙ ap (λ l. slice_get l i) same ∙ slice_get-map of ys i ∙ ap (option_map of) oq in cc
    by (Some p) (Some q) ox oq =
        let e : Some (of p) ≡ Some (of q) = sym (slice_get-map of xs i ∙ ap (option_map of) ox) ∙ ap (λ l. slice_get l i) same ∙ slice_get-map of ys i ∙ ap (option_map of) oq in
        let d : Some (state p) ≡ Some s = sym (slice_get-map state xs i ∙ ap (option_map state) ox) ∙ is in
        let c : parts (state q) ≡ n = before i (state q) (slice_get-map state ys i ∙ ap (option_map state) oq) in
        let a : of p ≡ of q = cc in
        let b : state p ≡ s = cc in
        ap parts (sym b) ∙ a ∙ c

-- one that is asked leaves each with as many
set_parts : {P S : Type 0} (parts : S → ℕ) (state : P → S) (ports : List P) (i : ℕ) (port after : P) → parts (state after) ≡ parts (state (get_or ports i port)) → map (λ p. parts (state p)) (slice_set ports i after) ≡ map (λ p. parts (state p)) ports
set_parts parts state ports i port after same =
    map-set (λ p. parts (state p)) ports i after ∙ ap (λ n. slice_set (map (λ p. parts (state p)) ports) i n) same ∙ sym (map-set (λ p. parts (state p)) ports i (get_or ports i port)) ∙ ap (map (λ p. parts (state p))) (set-get_or ports i port)

pub parts_stay : {P S : Type 0} (parts : S → ℕ) (state : P → S) (ports : List P) (i : ℕ) (port after : P) → parts (state after) ≡ parts (state (get_or ports i port)) → parts_of parts (map state (slice_set ports i after)) ≡ parts_of parts (map state ports)
parts_stay parts state ports i port after same = map-map parts state (slice_set ports i after) ∙ set_parts parts state ports i port after same ∙ sym (map-map parts state ports)

module _ {P S R : Type 0} (m : Meaning S R) (state : P → S) (now : ℕ) (ports : List P) (conn : Conn R) (ready : CanGoOn m (map state ports) conn) where
  pub names_there : NamesOf (length (map state ports)) (needed conn)
  names_there = named (judged_by conn) (length (map state ports)) (needed conn) ready.shared.count (conn_table conn)

  pub named_there : (wanted : Need) → needed conn ≡ wanted → NamesOf (length ports) wanted
  named_there wanted is = subst (λ n. NamesOf n wanted) (length-map ports state) (subst (λ w. NamesOf (length (map state ports)) w) is names_there)

  at_port : (i : ℕ) (port : P) → i < length ports → slice_get (map state ports) i ≡ Some (state (get_or ports i port))
  at_port i port within = slice_get-map state ports i ∙ ap (λ o. option_map state o) (slice_get-get_or ports i port within)

  -- the shard that a key lies on
  pub place_is : (i : ℕ) (port : P) (key : Key) → i < length ports → place m (state (get_or ports i port)) key ≡ shard key (judged_by conn).shards
  place_is i port key within = ap (λ n. shard key n) (ready.shared.shards i (state (get_or ports i port)) (at_port i port within))

  -- ---- what a slot holds

  pub none_held : (slot : Slot) (wanted : Need) → needed conn ≡ wanted → names_held (progress_of conn).held wanted ≡ is_some (held_at (progress_of conn).held slot) → None ≡ held_at (progress_of conn).held slot → ⊥
  none_held slot wanted is same none = false≢true (ap is_some none ∙ sym same ∙ sym (ap (names_held (progress_of conn).held) is) ∙ conn_held conn ready.given)

  pub slot_within : (slot : Slot) (entry : ℕ × R) → Some entry ≡ held_at (progress_of conn).held slot → entry.0 < length ports
  slot_within slot entry holds = subst (λ n. entry.0 < n) (length-map ports state) (ready.held slot entry (sym holds))

  pub by_slot : (event : Ticket → Event) (slot : Slot) (table : ℕ) (reference : R) → Some (table, reference) ≡ held_at (progress_of conn).held slot
      → IsAskedBy m event (held_at (progress_of conn).held slot) (record { table = table; shard = m.shard_of reference; event = event (m.ticket_of reference) })
  by_slot event slot table reference holds = subst (λ o. IsAskedBy m event o (record { table = table; shard = m.shard_of reference; event = event (m.ticket_of reference) })) holds refl

  -- ---- what it is now

  ready_next : (new : List P) (later : Conn R) (next : Connection R → Connection R) → ((connection : Connection R) → (next connection).setup ≡ connection.setup)
      → ((connection : Connection R) → Stands conn connection → Stands later (next connection)) → length new ≡ length ports → map (λ p. m.parts (state p)) new ≡ map (λ p. m.parts (state p)) ports
      → is_some (progress_of later).given ≡ false → HoldsOf (length (map state ports)) (progress_of later).held → IsConnection conn → CanGoOn m (map state new) later
  ready_next new later next same stands count parts given held living =
      let setup : (connection : Connection R) × Stands conn connection → judged_by conn ≡ judged_by later =
      λ found. setup_same conn found.0 found.1 ∙ sym (same found.0) ∙ sym (setup_same later (next found.0) (stands found.0 found.1)) in
      let as_many : length (map state new) ≡ length (map state ports) = length-map new state ∙ count ∙ sym (length-map ports state) in
      record {
        shared = record {
          count = as_many ∙ ready.shared.count ∙ ∥∥₁_elim living (ℕ_set _ _) (λ found. ap (λ (s : Setup). length s.tables) (setup found));
          shards = λ i port is. shards_by m.parts state new ports (judged_by conn).shards parts ready.shared.shards i port is ∙ ∥∥₁_elim living (ℕ_set _ _) (λ found. ap (λ (s : Setup). s.shards) (setup found));
        };
        held = subst (λ n. HoldsOf n (progress_of later).held) (sym as_many) held;
        given = given;
      }

  module _ (i : ℕ) (port after : P) (later : Conn R) (parts : m.parts (state after) ≡ m.parts (state (get_or ports i port))) (given : is_some (progress_of later).given ≡ false) (held : HoldsOf (length (map state ports)) (progress_of later).held) where
    ready_set : (next : Connection R → Connection R) → ((connection : Connection R) → (next connection).setup ≡ connection.setup) → ((connection : Connection R) → Stands conn connection → Stands later (next connection)) → IsConnection conn
        → CanGoOn m (map state (slice_set ports i after)) later
    ready_set next same stands living = ready_next (slice_set ports i after) later next same stands (length-set ports i after) (set_parts m.parts state ports i port after parts) given held living

    pub ready_heard : (at : ℕ) (reply : Reply) → ((connection : Connection R) → Stands conn connection → Stands later (heard m connection at reply)) → IsConnection conn → CanGoOn m (map state (slice_set ports i after)) later
    ready_heard at reply stands living = ready_set (λ connection. heard m connection at reply) (λ connection. heard_setup m connection at reply) stands living

    pub ready_refused : ((connection : Connection R) → Stands conn connection → Stands later (refused connection None)) → IsConnection conn → CanGoOn m (map state (slice_set ports i after)) later
    ready_refused stands living = ready_set (λ connection. refused connection None) (λ connection. refl) stands living

    pub ready_kept : (back : R) → ((connection : Connection R) → Stands conn connection → Stands later (refused (gave connection) (Some back))) → IsConnection conn → CanGoOn m (map state (slice_set ports i after)) later
    ready_kept back stands living = ready_set (λ connection. refused (gave connection) (Some back)) (λ connection. refl) stands living

  pub ready_still : (later : Conn R) (next : Connection R → Connection R) → ((connection : Connection R) → (next connection).setup ≡ connection.setup) → ((connection : Connection R) → Stands conn connection → Stands later (next connection))
      → is_some (progress_of later).given ≡ false → HoldsOf (length (map state ports)) (progress_of later).held → IsConnection conn → CanGoOn m (map state ports) later
  ready_still later next same stands given held living = ready_next ports later next same stands refl refl given held living

  -- ---- what it did

  -- as the connection says it
  wants_call : (wanted : Need) (call : Call) (connection : Connection R) → needed conn ≡ wanted → Stands conn connection → IsAskedFor m (judged_by conn).shards now (progress_of conn).held wanted call → Wants m now connection call
  wants_call wanted call connection is stands asked =
      let by_need : IsAskedFor m (judged_by conn).shards now (progress_of conn).held (need connection) call = subst (λ w. IsAskedFor m (judged_by conn).shards now (progress_of conn).held w call) (sym is ∙ need_same conn connection stands) asked in
      let by_held : IsAskedFor m (judged_by conn).shards now connection.progress.held (need connection) call = subst (λ (p : Progress R). IsAskedFor m (judged_by conn).shards now p.held (need connection) call) stands.progress by_need in
      subst (λ (s : Setup). IsAskedFor m s.shards now connection.progress.held (need connection) call) (setup_same conn connection stands) by_held

  ports_stay : (i : ℕ) (port after : P) → state after ≡ state (get_or ports i port) → map state (slice_set ports i after) ≡ map state ports
  ports_stay i port after stays = map-set state ports i after ∙ ap (λ s. slice_set (map state ports) i s) stays ∙ sym (map-set state ports i (get_or ports i port)) ∙ ap (map state) (set-get_or ports i port)

  module _ (wanted : Need) (call : Call) (port after : P) (later : Conn R) (is : needed conn ≡ wanted) (asked : IsAskedFor m (judged_by conn).shards now (progress_of conn).held wanted call) (within : call.table < length ports) where
    pub moved_answered : (reply : Reply) → m.answers (state (get_or ports call.table port)) call.shard call.event reply (state after) → ((connection : Connection R) → Stands conn connection → Stands later (heard m connection call.shard reply))
        → HasMoved m now (map state ports) conn (map state (slice_set ports call.table after)) later Answered
    moved_answered reply answers stands connection stood =
        let at : AnswersAt m (map state ports) call reply (map state (slice_set ports call.table after)) =
        record { before = state (get_or ports call.table port); after = state after; at = at_port call.table port within; answers = answers; others = map-set state ports call.table after } in
        (heard m connection call.shard reply, stands connection stood, (call, reply, wants_call wanted call connection is stood asked, at, refl))

    module _ (refusal : Refusal) (refused_so : m.refuses (state (get_or ports call.table port)) call.shard call.event refusal) (stays : state after ≡ state (get_or ports call.table port)) where
      refuses : (connection : Connection R) → Stands conn connection → IsRefused m now (map state ports) connection
      refuses connection stood = inl (call, wants_call wanted call connection is stood asked, record { port = state (get_or ports call.table port); refusal = refusal; at = at_port call.table port within; refused = refused_so })

      pub kept_so : is_release wanted ≡ true → IsReleaseRefused m now (map state ports) conn
      kept_so release = (
        call,
        ap is_release is ∙ release,
        subst (λ w. IsAskedFor m (judged_by conn).shards now (progress_of conn).held w call) (sym is) asked,
        record { port = state (get_or ports call.table port); refusal = refusal; at = at_port call.table port within; refused = refused_so },
      )

      pub moved_refused : is_release wanted ≡ false → ((connection : Connection R) → Stands conn connection → Stands later (refused connection None))
          → HasMoved m now (map state ports) conn (map state (slice_set ports call.table after)) later Refused
      moved_refused bare stands connection stood = (
        refused connection None,
        stands connection stood,
        (ap is_release (sym (need_same conn connection stood) ∙ is) ∙ bare, refuses connection stood, ports_stay call.table port after stays, refl),
      )

      pub moved_kept : (reference : R) → released_of (needed conn) (progress_of conn) ≡ Some reference → ((connection : Connection R) → Stands conn connection → Stands later (refused (gave connection) (Some reference)))
          → HasMoved m now (map state ports) conn (map state (slice_set ports call.table after)) later Kept
      moved_kept reference out stands connection stood = (
        refused (gave connection) (Some reference),
        stands connection stood,
        (
          reference,
          (λ k. released_of (sym (need_same conn connection stood) k) (sym stood.progress k)) ∙ out,
          refuses connection stood,
          ports_stay call.table port after stays,
          refl,
        ),
      )

  -- ---- no memory for a key, and a turn

  pub moved_memory : (later : Conn R) → is_release (needed conn) ≡ false → need_takes_memory (judged_by conn) (needed conn) ≡ true → ((connection : Connection R) → Stands conn connection → Stands later (refused connection None))
      → HasMoved m now (map state ports) conn (map state ports) later Refused
  moved_memory later bare takes stands connection stood =
      let wants_it = sym (need_same conn connection stood) in
      let memory : need_takes_memory connection.setup (need connection) ≡ true = (λ k. need_takes_memory (sym (setup_same conn connection stood) k) (wants_it k)) ∙ takes in
      (refused connection None, stands connection stood, (ap is_release wants_it ∙ bare, inr memory, refl, refl))

  pub moved_turned : (later : Conn R) → needed conn ≡ needs.Turn → ((connection : Connection R) → Stands conn connection → Stands later (turned connection)) → HasMoved m now (map state ports) conn (map state ports) later Turned
  moved_turned later turn stands connection stood = (turned connection, stands connection stood, (sym (need_same conn connection stood) ∙ turn, refl, refl))
