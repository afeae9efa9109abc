-- The tables of a setup, opened one after another.
use Rattle.std.proofs.Common.{◌≡◌, ℕ, suc, ◌+◌, ◌*◌, ◌/◌, ◌%◌, ◌≤◌, ◌<◌, refl, sym, subst, ap, ◌∙◌, Bool, All, List, [], ◌∷◌, ◌++◌, length, map, take, get_or, vec_len, slice_get, Option, Some, None, arith}
use Rattle.std.specs.Global.{Vec}
use Rattle.std.proofs.Math.Nat.{mul-le-mul_left, mul-suc, mul_comm}
use Rattle.std.proofs.lemmas.Grind.{get_or_default_zero}
use Rattle.std.proofs.lemmas.Nat.{div-mul-add, mod-mul-add}
use Rattle.std.proofs.lemmas.List.{length-append, length-map, map-append, map_more}
use Rattle.std.proofs.lemmas.List.Elements.{All-push}
use Rattle.std.proofs.lemmas.List.FromFn.{length-map-range_with_len}
use Rattle.std.proofs.lemmas.Option.{slice_get-map, slice_get_read}
use Rattle.std.specs.Option.{option_map, option_map_or}
use Rattle.stick_model.specs.declared.specification.Spec.{Spec}
use Rattle.rule_model.specs.declared.sections.NamedSpec.{NamedSpec}
use Rattle.rule_model.specs.declared.sections.Setup.{Setup}
use Rattle.tcp_relay.specs.Serving.{AreSeats, AreTablesOf}
use Rattle.shard_record.specs.Dealing.{DealerState, HasLeft}
use Rattle.shard_record.specs.Views.{no_spec}
use Rattle.shard_book.specs.Keeping.{part_of}
use Rattle.shard_book.specs.SeatState.{fresh}
use Rattle.shard_locks.specs.Shared.{AreParts, SharedSeatState, seats_of}
use Rattle.shard_locks.specs.ShardsState.{ShardsState, fresh_seats}
use Rattle.tcp_proxy.specs.Opened.{AreDeclared, book_spec, but_for_seed, declared_table, seeded, table_spec}

-- fresh seats are as many as were asked for
pub seats_counted : (seats : Vec SharedSeatState) (count : ℕ) (keep : Bool) → seats_of seats.items ≡ fresh_seats count keep → vec_len seats ≡ count
seats_counted seats count keep is =
    let counted : length seats.items ≡ count = sym (length-map seats.items (λ (shared : SharedSeatState). shared.seat)) ∙ ap length is ∙ length-map-range_with_len (λ number. fresh number keep) 0 count in
    seats.ok.0 ∙ counted

-- one item more
pub one_more : {X : Type 0} (old new : List X) (x : X) (count : ℕ) → length old ≡ count → new ≡ old ++ x ∷ [] → length new ≡ count + 1
one_more old new x count were more =
    let joined : length new ≡ length old + 1 = ap length more ∙ length-append old (x ∷ []) in
    omega arith

-- and its seats
pub seats_more : (old new : List (Vec SharedSeatState)) (seats : Vec SharedSeatState) (count : ℕ) → All (λ (of_table : Vec SharedSeatState). vec_len of_table ≡ count) old → vec_len seats ≡ count → new ≡ old ++ seats ∷ [] → All (λ (of_table : Vec SharedSeatState). vec_len of_table ≡ count) new
seats_more old new seats count were one more = rw more (All-push (λ (of_table : Vec SharedSeatState). vec_len of_table ≡ count) old seats were one)

-- one table more
pub declared_more : (shards : ℕ) (keep : Bool) (items : List NamedSpec) (i : ℕ) (named : NamedSpec) (old new : List ShardsState) (table : ShardsState) → AreDeclared shards keep (take i items) old → i < length items → named ≡ get_or items i named
    → but_for_seed table ≡ declared_table shards keep named → new ≡ old ++ table ∷ [] → AreDeclared shards keep (take (i + 1) items) new
declared_more shards keep items i named old new table were within is one more =
    let last : but_for_seed table ≡ declared_table shards keep (get_or items i named) = one ∙ ap (declared_table shards keep) is in
    ap (map but_for_seed) more ∙ map-append but_for_seed old (table ∷ []) ∙ (λ k. were k ++ last k ∷ []) ∙ sym (map_more (declared_table shards keep) items i named within)

-- a declared table is in as many shards as was asked for
in_shards : (shards : ℕ) (keep : Bool) (named : Option NamedSpec) (table : ShardsState) → option_map (declared_table shards keep) named ≡ Some (but_for_seed table) → table.shards ≡ shards
in_shards shards keep None table is = cc
in_shards shards keep (Some named) table is =
    let same : declared_table shards keep named ≡ but_for_seed table = cc in
    sym (ap (λ (it : ShardsState). it.shards) same)

-- what each stores is what was declared
stored : (shards : ℕ) (keep : Bool) (named : List NamedSpec) (tables : List ShardsState) → map but_for_seed tables ≡ map (declared_table shards keep) named → map (λ (table : ShardsState). table.spec.columns) tables ≡ map (λ (it : NamedSpec). it.spec.columns) named
stored shards keep [] [] same = cc
stored shards keep [] (table ∷ tables) same = cc
stored shards keep (named ∷ more) [] same = cc
stored shards keep (named ∷ more) (table ∷ tables) same =
    let first : but_for_seed table ≡ declared_table shards keep named = cc (same) in
    let rest : map but_for_seed tables ≡ map (declared_table shards keep) more = cc (same) in
    let here : table.spec.columns ≡ named.spec.columns = ap (λ (it : ShardsState). it.spec.columns) first in
    let there = stored shards keep more tables rest in
    (λ k. here k ∷ there k)

-- the declared tables are those that connections are served by
pub declared_served : (setup : Setup) (keep : Bool) (tables : List ShardsState) → AreDeclared setup.shards keep setup.tables tables → AreTablesOf setup tables
declared_served setup keep tables declared = record {
  count = sym (length-map tables but_for_seed) ∙ ap length declared ∙ length-map setup.tables (declared_table setup.shards keep);
  shards = λ i table at. in_shards setup.shards keep (slice_get setup.tables i) table
      (sym (slice_get-map (declared_table setup.shards keep) setup.tables i) ∙ sym (ap (λ items. slice_get items i) declared) ∙ slice_get-map but_for_seed tables i ∙ ap (option_map but_for_seed) at);
  columns = stored setup.shards keep setup.tables tables declared;
}

-- and so many seats of each go to the threads that serve
pub seated : (setup : Setup) (keep : Bool) (workers : ℕ) (tables : List ShardsState) (seats : Vec (Vec SharedSeatState)) → AreDeclared setup.shards keep setup.tables tables → length seats.items ≡ length setup.tables
    → All (λ (of_table : Vec SharedSeatState). vec_len of_table ≡ workers) seats.items → AreSeats (length tables) workers seats
seated setup keep workers tables seats declared count each = (count ∙ sym ((declared_served setup keep tables declared).count), each)

-- ---- with what the record has the books made

-- the books from the first of a table on are made with the parts of that
pub table_parts : (setup : Setup) (seeds : List ℕ) (specs : ℕ → Spec) (kept i seed : ℕ) (named : NamedSpec) → specs ≡ book_spec setup seeds → kept ≡ setup.shards * i → i < length setup.tables → length seeds ≡ length setup.tables → named ≡ get_or setup.tables i named
    → seed ≡ get_or seeds i seed → AreParts specs kept (seeded seed named) setup.shards
table_parts setup seeds specs kept i seed named is begins within count of_table of_seed = record {
  each = λ shard below.
      let place : kept + shard ≡ i * setup.shards + shard = ap (λ n. n + shard) (begins ∙ mul_comm setup.shards i) in
      let table : (kept + shard) / setup.shards ≡ i = ap (λ n. n / setup.shards) place ∙ div-mul-add i setup.shards shard below in
      let part : (kept + shard) % setup.shards ≡ shard = ap (λ n. n % setup.shards) place ∙ mod-mul-add i setup.shards shard below in
      let drawn : get_or seeds i 0 ≡ seed = sym (get_or_default_zero seeds i seed (omega (arith, within, count))) ∙ sym of_seed in
      let there : slice_get setup.tables i ≡ Some named = slice_get_read setup.tables (length setup.tables) i named refl within of_table in
      let made : table_spec setup.tables seeds i ≡ seeded seed named = (λ k. option_map_or (seeded (drawn k)) (there k) no_spec) in
      ap (λ (of : ℕ → Spec). of (kept + shard)) is ∙ (λ k. part_of (table_spec setup.tables seeds (table k)) setup.shards (part k)) ∙ ap (λ spec. part_of spec setup.shards shard) made;
}

-- ---- what is left of a record

-- where so much is left for each of n tables, there is as much left behind the first i as one more takes
pub one_left : (had each i n all : ℕ) → i < n → had + each * n ≤ all → had + each * i + each ≤ all
one_left had each i n all below fits =
    let next : suc i ≡ i + 1 = omega arith in
    let more : each * suc i ≡ each * i + each = mul-suc each i in
    let within : each * suc i ≤ each * n = mul-le-mul_left each (omega (arith, below, next)) in
    omega (arith, more, within, fits)

-- behind one more it is
pub one_gone : (had each i : ℕ) → had + each * i + each ≡ had + each * (i + 1)
one_gone had each i =
    let next : suc i ≡ i + 1 = omega arith in
    let more : each * (i + 1) ≡ each * i + each = ap (λ n. each * n) (sym next) ∙ mul-suc each i in
    omega (arith, more)

-- a dealer behind so many tables
abbrev behind : DealerState → ℕ → ℕ → ℕ → DealerState
behind dealer shards callers i = record dealer { kept = dealer.kept + shards * i; seated = dealer.seated + callers * i }

pub left_for_one : (dealer now : DealerState) (shards callers i n : ℕ) → i < n → HasLeft dealer (shards * n) (callers * n) → now ≡ behind dealer shards callers i → HasLeft now shards callers
left_for_one dealer now shards callers i n below left is =
    subst (λ (d : DealerState). HasLeft d shards callers) (sym is) (record { books = one_left dealer.kept shards i n dealer.books below left.books; seats = one_left dealer.seated callers i n dealer.seats below left.seats })

pub dealt_more : (dealer now later : DealerState) (shards callers i : ℕ) → now ≡ behind dealer shards callers i → later ≡ record now { kept = now.kept + shards; seated = now.seated + callers } → later ≡ behind dealer shards callers (i + 1)
dealt_more dealer now later shards callers i is next =
    next ∙ (ap (λ (d : DealerState). record d { kept = d.kept + shards; seated = d.seated + callers }) is
    ∙ (λ j. record dealer { kept = one_gone dealer.kept shards i j; seated = one_gone dealer.seated callers i j }))
