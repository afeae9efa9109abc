-- What serving is told as.
use Rattle.std.proofs.Common.{◌≡◌, ℕ, Bool, true, false, refl, sym, ap, subst, ◌∙◌, List, Option, Some, None, slice_get, Result, Ok, Err}
use Rattle.std.specs.Prelude.{IfOk, IfErr, option_map}
use Rattle.std.specs.Option.{option_map_or}
use Rattle.std.proofs.lemmas.Option.{slice_get-map}
use Rattle.std.specs.declared.vec.Vec.{Vec}
use Rattle.std.specs.declared.alloc.Global.{Global}
use Rattle.stored_data.specs.Stored.{is_column}
use Rattle.stored_data.specs.declared.datum.Datum.TheVariants.{ConnCur}
use Rattle.stored_data.specs.declared.stored_set.Column.{Column}
use Rattle.rule_model.specs.declared.sections.NamedSpec.{NamedSpec}
use Rattle.rule_model.specs.declared.sections.Setup.{Setup}
use Rattle.shard_locks.specs.Shared.{SharedSeatState}
use Rattle.shard_locks.specs.ShardsState.{ShardsState}
use Rattle.tcp_relay.specs.Seating.{StoreAs, stores_current}
use Rattle.tcp_relay.specs.Serving.{AreLeft, AreSeats, AreTablesOf, IsCause, IsFault, IsFaultOf, IsServed}
use Rattle.tcp_relay.specs.declared.served.FaultKind.{FaultKind}
use Rattle.tcp_relay.specs.declared.served.FaultKind.TheVariants.{Waiting, Thread, NoMemory}
use Rattle.tcp_relay.specs.declared.served.ServeFault.{ServeFault}
use Rattle.tcp_relay.specs.declared.served.Served.{Served}

module _ {J : Type 0} (tables threads most : ℕ) (served : Served J) (is : IsServed tables threads most served) (all failed : Bool) where
  pub told_ok : (result : Result (Served J) (ServeFault J)) → IfOk result (λ kept. (kept ≡ served) × (all ≡ true) × (failed ≡ false)) → IfOk result (IsServed tables threads most)
  told_ok (Ok kept) same = subst (IsServed tables threads most) (sym same.0) is
  told_ok (Err fault) same = tt

  caused : (seats : Vec (Vec SharedSeatState Global) Global) (kind : FaultKind) (kept : Served J) → kept ≡ served → IsCause all failed kind → IsFaultOf tables threads most seats kind kept
  caused seats Waiting kept same cause = subst (IsServed tables threads most) (sym same) is
  caused seats Thread kept same cause = subst (IsServed tables threads most) (sym same) is
  caused seats NoMemory kept same cause = absurd cause

  pub told_err : (seats : Vec (Vec SharedSeatState Global) Global) (result : Result (Served J) (ServeFault J)) → IfErr result (λ fault. (fault.served ≡ served) × IsCause all failed fault.kind) → IfErr result (IsFault tables threads most seats)
  told_err seats (Ok kept) told = tt
  told_err seats (Err fault) told = caused seats fault.kind fault.served told.0 told.1

-- the workers are as many as the threads, of as many tables as there are, and hold as many connections as they may
pub all_served : {J : Type 0} (width tables workers threads held most : ℕ) (served : Served J) → AreSeats width workers served.seats → AreLeft width workers held served.refs → width ≡ tables → workers ≡ threads → held ≡ most → IsServed tables threads most served
all_served width tables workers threads held most served seats refs same all as_many =
    subst (λ m. IsServed tables threads m served) as_many (subst (λ w. IsServed w threads held served) same (subst (λ n. IsServed width n held served) all (seats, refs)))

-- ---- which tables store conn_cur

-- those of the setup
pub setup_current : (setup : Setup) (current : ℕ → Bool) → current ≡ stores_current setup → StoreAs (λ (named : NamedSpec). named.spec) current setup.tables
setup_current setup current is i named at =
    sym (ap (λ (of : ℕ → Bool). of i) is ∙ ap (λ o. option_map_or (λ (it : NamedSpec). is_column it.spec.columns ConnCur) o false) at)

abbrev columns_in : NamedSpec → List Column
columns_in named = named.spec.columns

of_columns : (named : Option NamedSpec) (columns : List Column) → option_map columns_in named ≡ Some columns → is_column columns ConnCur ≡ option_map_or (λ (it : NamedSpec). is_column it.spec.columns ConnCur) named false
of_columns None columns is = cc
of_columns (Some named) columns is =
    let same : columns ≡ named.spec.columns = cc (is) in
    ap (λ them. is_column them ConnCur) same

-- and those that threads share
pub tables_current : (setup : Setup) (tables : List ShardsState) (current : ℕ → Bool) → AreTablesOf setup tables → current ≡ stores_current setup → StoreAs (λ (table : ShardsState). table.spec) current tables
tables_current setup tables current are is i table at =
    let there : option_map columns_in (slice_get setup.tables i) ≡ Some table.spec.columns =
    sym (slice_get-map columns_in setup.tables i) ∙ (ap (λ them. slice_get them i) (sym are.columns) ∙ (slice_get-map (λ (it : ShardsState). it.spec.columns) tables i ∙ ap (option_map (λ (it : ShardsState). it.spec.columns)) at)) in
    of_columns (slice_get setup.tables i) table.spec.columns there ∙ sym (ap (λ (of : ℕ → Bool). of i) is)
