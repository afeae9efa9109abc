-- What serving is given, and what comes back.
use Rattle.std.specs.Prelude.{◌≡◌, ◌≤◌, ◌*◌, ℕ, Bool, true, false, All, List, Some, length, map, slice_get, vec_len}
use Rattle.std.specs.declared.vec.Vec.{Vec}
use Rattle.std.specs.declared.alloc.Global.{Global}
use Rattle.rule_model.specs.declared.sections.NamedSpec.{NamedSpec}
use Rattle.rule_model.specs.declared.sections.Setup.{Setup}
use Rattle.shard_locks.specs.Shared.{SharedSeatState}
use Rattle.shard_locks.specs.ShardsState.{ShardsState}
use Rattle.tcp_relay.specs.declared.served.FaultKind.{FaultKind}
use Rattle.tcp_relay.specs.declared.served.FaultKind.TheVariants.{Waiting, Thread, NoMemory}
use Rattle.tcp_relay.specs.declared.served.ServeFault.{ServeFault}
use Rattle.tcp_relay.specs.declared.served.Served.{Served}

-- one for each table of a setup, in as many shards as the setup has, and each stores what the setup says
pub record AreTablesOf (setup : Setup) (tables : List ShardsState) : Type 0 where
  pub count : length tables ≡ length setup.tables
  pub shards : (i : ℕ) (table : ShardsState) → slice_get tables i ≡ Some table → table.shards ≡ setup.shards
  pub columns : map (λ (table : ShardsState). table.spec.columns) tables ≡ map (λ (named : NamedSpec). named.spec.columns) setup.tables

-- for each of so many tables as many seats as there are threads
abbrev pub AreSeats : {X Z Z' : Type 0} → ℕ → ℕ → Vec (Vec X Z) Z' → Type 0
AreSeats tables threads seats = (length seats.items ≡ tables) × All (λ list. vec_len list ≡ threads) seats.items

-- for each of so many tables at most three references of each connection, of which each thread held so many at most
abbrev pub AreLeft : {X Z Z' : Type 0} → ℕ → ℕ → ℕ → Vec (Vec X Z) Z' → Type 0
AreLeft tables threads most refs = (length refs.items ≡ tables) × All (λ list. vec_len list ≤ threads * (most * 3)) refs.items

-- all seats of so many tables and threads, and what their connections have left
abbrev pub IsServed : {J : Type 0} → ℕ → ℕ → ℕ → Served J → Type 0
IsServed tables threads most served = AreSeats tables threads served.seats × AreLeft tables threads most served.refs

-- ---- faults

-- a thread that can't be started is told before one that can't wait for connections
abbrev pub IsCause : Bool → Bool → FaultKind → Type 0
IsCause all_started has_failed Thread = all_started ≡ false
IsCause all_started has_failed Waiting = (all_started ≡ true) × (has_failed ≡ true)
IsCause all_started has_failed NoMemory = ⊥

-- nothing was served, and the seats are those that were given
abbrev pub IsUnserved : {J : Type 0} → Vec (Vec SharedSeatState Global) Global → Served J → Type 0
IsUnserved seats served = (served.admitted ≡ 0) × (served.rejected ≡ 0) × (served.unaccepted ≡ 0) × (served.seats ≡ seats)

-- without memory nothing was served; else all seats come back, and what the threads have left
abbrev pub IsFaultOf : {J : Type 0} → ℕ → ℕ → ℕ → Vec (Vec SharedSeatState Global) Global → FaultKind → Served J → Type 0
IsFaultOf tables threads most seats NoMemory served = IsUnserved seats served
IsFaultOf tables threads most seats other served = IsServed tables threads most served

abbrev pub IsFault : {J : Type 0} → ℕ → ℕ → ℕ → Vec (Vec SharedSeatState Global) Global → ServeFault J → Type 0
IsFault tables threads most seats fault = IsFaultOf tables threads most seats fault.kind fault.served
