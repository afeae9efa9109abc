-- A connection that a worker holds can go on by the worker's ports.
use Rattle.std.proofs.Common.{◌≡◌, ℕ, zero, suc, ◌<◌, ◌≤◌, refl, sym, ap, subst, ◌∙◌, arith, Bool, false, List, [], ◌∷◌, ◌++◌, drop, length, map, slice_get, take, Option, Some, None, is_some, Global, Vec, vec_len}
use Rattle.std.proofs.lemmas.List.{length-map, take-append-le}
use Rattle.std.proofs.Math.Logic.{∥∥₁_elim, ∥∥₁_map}
use Rattle.std.proofs.Math.Nat.{ℕ_set}
use Rattle.std.proofs.Math.Seq.{take-length}
use Rattle.std.specs.Prelude.{IfSome}
use Rattle.std.proofs.lemmas.Option.{slice_get_within}
use Rattle.rule_model.specs.declared.actions.Slot.{Slot}
use Rattle.rule_model.specs.declared.actions.Slot.TheVariants.{Sc0, Sc1, Sc2}
use Rattle.rule_model.specs.declared.sections.Setup.{Setup}
use Rattle.rule_eval.specs.declared.wants.Samples.{Samples}
use Rattle.shard_book.specs.SeatState.{RefState}
use Rattle.shard_locks.specs.Ported.{seated_meaning}
use Rattle.shard_locks.specs.ShardsState.{SeatedState}
use Rattle.admit_core.specs.Conn.{judged_by, progress_of, Stands}
use Rattle.admit_core.specs.Connection.{Connection, Progress, arrived}
use Rattle.admit_core.specs.Held.{held_at, nothing_held}
use Rattle.admit_core.specs.declared.conn.Conn.{Conn}
use Rattle.admit_core.specs.declared.held.Held.{Held}
use Rattle.admit_port.proofs.CommonLemmas.{setup_same}
use Rattle.admit_port.specs.DriveCode.{CanGoOn, IsConnection}
use Rattle.admit_port.specs.Ports.{HoldsOf, parts_of}
use Rattle.tcp_relay.specs.Connections.{IsVisitor}
use Rattle.tcp_relay.specs.Passed.{HasPassedLimits, HavePassedStill}
use Rattle.tcp_relay.specs.Untracked.{IsUntrackedSince}
use Rattle.tcp_relay.specs.Moments.{HaveCalledAt}
use Rattle.tcp_relay.specs.Releasing.{GivesBack}
use Rattle.tcp_relay.specs.Seating.{AreIn, StoreAs}

abbrev shards_of : SeatedState → ℕ
shards_of one = one.table.shards

-- the ports of these, which are what they are seen as
same_ports : (seated : List SeatedState) → map (λ (one : SeatedState). one) seated ≡ seated
same_ports [] = refl
same_ports (one ∷ more) = ap (λ rest. one ∷ rest) (same_ports more)

-- ---- a connection that has just come

none_some : {X : Type 0} (x : X) → None ≡ Some x → ⊥
none_some x e = cc

nothing : (tables : ℕ) → HoldsOf tables (nothing_held {R = RefState})
nothing tables Sc0 entry is = absurd (none_some entry is)
nothing tables Sc1 entry is = absurd (none_some entry is)
nothing tables Sc2 entry is = absurd (none_some entry is)

pub fresh : (tables shards : ℕ) (setup : Setup) (samples : Samples) (conn : Conn RefState) → length setup.tables ≡ tables → setup.shards ≡ shards → Stands conn (arrived setup samples) → is_some (progress_of conn).given ≡ false → IsVisitor tables shards conn
fresh tables shards setup samples conn count each stands given =
    let same : judged_by conn ≡ setup = setup_same conn (arrived setup samples) stands in
    record {
      living = ∣ (arrived setup samples, stands) ∣₁;
      count = sym count ∙ ap (λ (s : Setup). length s.tables) (sym same);
      each = λ some. sym each ∙ ap (λ (s : Setup). s.shards) (sym same);
      held = subst (λ (p : Progress RefState). HoldsOf tables p.held) (sym stands.progress) (nothing tables);
      given = given;
    }

-- ---- it goes on by ports

some_tables : (tables : ℕ) (seated : List SeatedState) (i : ℕ) (one : SeatedState) → length seated ≡ tables → slice_get seated i ≡ Some one → 1 ≤ tables
some_tables tables seated i one count at = omega (arith, count, slice_get_within seated i one at)

can_go_on : (tables shards : ℕ) (seated : List SeatedState) (conn : Conn RefState) → length seated ≡ tables → AreIn shards_of shards seated → IsVisitor tables shards conn → CanGoOn seated_meaning seated conn
can_go_on tables shards seated conn count each is = record {
  shared = record { count = count ∙ is.count; shards = λ i one at. each i one at ∙ is.each (some_tables tables seated i one count at) };
  held = subst (λ n. HoldsOf n (progress_of conn).held) (sym count) is.held;
  given = is.given;
}

-- each is in as many shards as before
in_shards : (shards : ℕ) (old new : List SeatedState) → map shards_of new ≡ map shards_of old → AreIn shards_of shards old → AreIn shards_of shards new
in_shards shards old [] same each i one at = absurd (none_some one at)
in_shards shards [] (new ∷ news) same each i one at = absurd (none_one (shards_of new) (map shards_of news) same)
  where
    none_one : (n : ℕ) (ns : List ℕ) → n ∷ ns ≡ [] → ⊥
    none_one n ns e = cc
in_shards shards (old ∷ olds) (new ∷ news) same each zero one at =
    let is : new ≡ one = cc in
    let first : shards_of new ≡ shards_of old = cc in
    ap shards_of (sym is) ∙ first ∙ each 0 old refl
in_shards shards (old ∷ olds) (new ∷ news) same each (suc i) one at =
    let rest : map shards_of news ≡ map shards_of olds = cc in
    in_shards shards olds news rest (λ j port is. each (suc j) port is) i one at

-- what has gone on by them is such a connection still
visitor : (tables shards : ℕ) (seated : List SeatedState) (conn : Conn RefState) → length seated ≡ tables → AreIn shards_of shards seated → IsConnection conn → CanGoOn seated_meaning seated conn → IsVisitor tables shards conn
visitor tables shards [] conn count each living can = record {
  living = living;
  count = sym count ∙ can.shared.count;
  each = λ some. absurd (omega (arith, count, some));
  held = subst (λ n. HoldsOf n (progress_of conn).held) count can.held;
  given = can.given;
}
visitor tables shards (one ∷ more) conn count each living can = record {
  living = living;
  count = sym count ∙ can.shared.count;
  each = λ some. sym (each 0 one refl) ∙ can.shared.shards 0 one refl;
  held = subst (λ n. HoldsOf n (progress_of conn).held) count can.held;
  given = can.given;
}

abbrev pub ports_of : List SeatedState → List SeatedState
ports_of seated = map (λ (one : SeatedState). one) seated

-- a worker's tables by their seats, lent as ports
module _ (tables shards : ℕ) (seated : Vec SeatedState Global) (lent : List SeatedState) (value : lent ≡ seated.items) (len : length lent ≡ vec_len seated) (count : vec_len seated ≡ tables) (each : AreIn shards_of shards seated.items) where
  -- a connection can go on by them
  pub ready : (conn : Conn RefState) → IsVisitor tables shards conn → CanGoOn seated_meaning (ports_of lent) conn
  ready conn is =
      let can : CanGoOn seated_meaning seated.items conn = can_go_on tables shards seated.items conn (ap length (sym value) ∙ len ∙ count) each is in
      subst (λ ports. CanGoOn seated_meaning ports conn) (sym (same_ports lent ∙ value)) can

  -- and they store what the tables do
  pub lent_store : (current : ℕ → Bool) → StoreAs (λ (one : SeatedState). one.table.spec) current seated.items → StoreAs (λ (one : SeatedState). one.table.spec) current (ports_of lent)
  lent_store current had = subst (StoreAs (λ (one : SeatedState). one.table.spec) current) (sym (same_ports lent ∙ value)) had

  -- and then they are as many, in as many shards
  module _ (new : List SeatedState) (parts : parts_of seated_meaning.parts (ports_of new) ≡ parts_of seated_meaning.parts (ports_of lent)) where
    same_parts : map shards_of new ≡ map shards_of seated.items
    same_parts = ap (map shards_of) (sym (same_ports new)) ∙ parts ∙ ap (map shards_of) (same_ports lent ∙ value)

    as_many : length new ≡ vec_len seated
    as_many = sym (length-map new shards_of) ∙ ap length same_parts ∙ length-map seated.items shards_of ∙ ap length (sym value) ∙ len

    same_items : take (vec_len seated) (new ++ drop (length new) seated.items) ≡ new
    same_items = ap (λ n. take n (new ++ drop (length new) seated.items)) (sym as_many) ∙ take-append-le (length new) new (drop (length new) seated.items) (omega arith) ∙ take-length new

    pub each_still : AreIn shards_of shards (take (vec_len seated) (new ++ drop (length new) seated.items))
    each_still = subst (AreIn shards_of shards) (sym same_items) (in_shards shards seated.items new same_parts each)

    pub stored_still : (current : ℕ → Bool) → StoreAs (λ (one : SeatedState). one.table.spec) current (ports_of new) → StoreAs (λ (one : SeatedState). one.table.spec) current (take (vec_len seated) (new ++ drop (length new) seated.items))
    stored_still current had = subst (StoreAs (λ (one : SeatedState). one.table.spec) current) (same_ports new ∙ sym same_items) had

    -- what has passed by the ports has passed by the seats
    pub passed_still : (setup : Setup) (samples : Samples) (conn : Conn RefState) → HasPassedLimits setup samples (ports_of new) conn → HasPassedLimits setup samples (take (vec_len seated) (new ++ drop (length new) seated.items)) conn
    passed_still setup samples conn passed = subst (λ seats. HasPassedLimits setup samples seats conn) (same_ports new ∙ sym same_items) passed

    -- what a port was asked since its seat was
    pub untracked_still : (setup : Setup) (samples : Samples) (conn : Conn RefState) → IsUntrackedSince (ports_of lent) (ports_of new) setup samples conn → IsUntrackedSince seated.items (take (vec_len seated) (new ++ drop (length new) seated.items)) setup samples conn
    untracked_still setup samples conn since =
        subst (λ seats. IsUntrackedSince seats (take (vec_len seated) (new ++ drop (length new) seated.items)) setup samples conn) (same_ports lent ∙ value)
        (subst (λ seats. IsUntrackedSince (ports_of lent) seats setup samples conn) (same_ports new ∙ sym same_items) since)

    pub called_still : (moment : ℕ) → HaveCalledAt moment (ports_of lent) (ports_of new) → HaveCalledAt moment seated.items (take (vec_len seated) (new ++ drop (length new) seated.items))
    called_still moment called =
        subst (λ seats. HaveCalledAt moment seats (take (vec_len seated) (new ++ drop (length new) seated.items))) (same_ports lent ∙ value)
        (subst (HaveCalledAt moment (ports_of lent)) (same_ports new ∙ sym same_items) called)

    pub back_still : (moment : ℕ) (before after : Held RefState) → GivesBack moment (ports_of lent) (ports_of new) before after → GivesBack moment seated.items (take (vec_len seated) (new ++ drop (length new) seated.items)) before after
    back_still moment before after back =
        subst (λ seats. GivesBack moment seats (take (vec_len seated) (new ++ drop (length new) seated.items)) before after) (same_ports lent ∙ value)
        (subst (λ seats. GivesBack moment (ports_of lent) seats before after) (same_ports new ∙ sym same_items) back)

    pub still_passed : HavePassedStill (ports_of lent) (ports_of new) → HavePassedStill seated.items (take (vec_len seated) (new ++ drop (length new) seated.items))
    still_passed still =
        subst (λ seats. HavePassedStill seats (take (vec_len seated) (new ++ drop (length new) seated.items))) (same_ports lent ∙ value)
        (subst (HavePassedStill (ports_of lent)) (same_ports new ∙ sym same_items) still)

    pub visitor_still : (conn : Conn RefState) → IsConnection conn → CanGoOn seated_meaning (ports_of new) conn → IsVisitor tables shards conn
    visitor_still conn living can = visitor tables shards new conn (as_many ∙ count) (in_shards shards seated.items new same_parts each) living (subst (λ ports. CanGoOn seated_meaning ports conn) (same_ports new) can)

-- ---- what it holds, and what becomes of it

-- what it holds by a slot is of a table that is there
pub within : (tables : ℕ) (held : Held RefState) (slot : Slot) (one : Option (ℕ × RefState)) → HoldsOf tables held → one ≡ held_at held slot → IfSome one (λ entry. entry.0 < tables)
within tables held slot None holds is = tt
within tables held slot (Some entry) holds is = holds slot entry (sym is)

-- one that goes on so, and holds no other references, is such a connection
pub goes_on : (tables shards : ℕ) (conn later : Conn RefState) (next : Connection RefState → Connection RefState) → ((connection : Connection RefState) → (next connection).setup ≡ connection.setup)
    → ((connection : Connection RefState) → Stands conn connection → Stands later (next connection)) → is_some (progress_of later).given ≡ false → (progress_of later).held ≡ (progress_of conn).held → IsVisitor tables shards conn → IsVisitor tables shards later
goes_on tables shards conn later next same stands given held is =
    let setup : (connection : Connection RefState) × Stands conn connection → judged_by conn ≡ judged_by later =
    λ found. setup_same conn found.0 found.1 ∙ sym (same found.0) ∙ sym (setup_same later (next found.0) (stands found.0 found.1)) in
    record {
      living = ∥∥₁_map is.living (λ found. (next found.0, stands found.0 found.1));
      count = is.count ∙ ∥∥₁_elim is.living (ℕ_set _ _) (λ found. ap (λ (s : Setup). length s.tables) (setup found));
      each = λ some. is.each some ∙ ∥∥₁_elim is.living (ℕ_set _ _) (λ found. ap (λ (s : Setup). s.shards) (setup found));
      held = subst (λ (h : Held RefState). HoldsOf tables h) (sym held) is.held;
      given = given;
    }
