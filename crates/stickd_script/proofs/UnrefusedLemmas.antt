-- A script in which nothing is refused has one output.
use Rattle.std.proofs.Common.{◌≡◌, inl, ℕ, refl, sym, ap, subst, ◌∙◌, Bool, true, false, cond, Option, Some, None, option_map, List, [], ◌∷◌, ◌++◌, map}
use Rattle.std.specs.BTreeMap.{insert_entry, is_at}
use Rattle.std.specs.Map.{lookup, remove_entry}
use Rattle.std.specs.Ordering.{is_eq, match_ordering, nat_cmp}
use Rattle.std.specs.declared.cmp.Ordering.TheVariants.{Less, Equal, Greater}
use Rattle.base_lines.specs.Chain.{Chain}
use Rattle.base_lines.specs.Line.{held}
use Rattle.base_lines.specs.Parts.{is_line_end, parts}
use Rattle.base_lines.specs.Service.{Serves as ServesLine}
use Rattle.rule_addresses.specs.Addresses.{address_of}
use Rattle.rule_addresses.specs.declared.address.Address.{Address}
use Rattle.rule_model.specs.declared.sections.Setup.{Setup}
use Rattle.admit_core.specs.Conn.{progress_of}
use Rattle.admit_core.specs.Connection.{Connection, Progress, arrived, closed, closed_of, is_judged, need}
use Rattle.admit_core.specs.Left.{is_still}
use Rattle.admit_core.specs.declared.conn.Conn.{Conn}
use Rattle.admit_core.specs.declared.need.Phase.{Phase}
use Rattle.admit_core.specs.declared.need.Phase.TheVariants.{New, Judging, Admitted, Rejected, Ended}
use Rattle.shard_port.specs.declared.reference.Reference.{Reference}
use Rattle.admit_drive.proofs.BehindLemmas.{as_told, need_told}
use Rattle.admit_drive.proofs.OneMoveLemmas.{IsOne, SameView, view}
use Rattle.admit_drive.proofs.PlainConnectionLemmas.{plain_connection, plain_progress}
use Rattle.admit_drive.proofs.RestOnceLemmas.{Course, course_once, course_told, goes_plain, rests_so, still_plain}
use Rattle.stickd_script.specs.Guests.{Guest, IsOpen, IsServed, ScriptState, guest_of, progress_in, without}
use Rattle.stickd_script.specs.Script.{Commanded, Line, Empty, Bad, Commands, Open, Close, Closes, ClosesAt, LineSays, OpensAt, OpensFrom, admitted, bad_line, line_of, open_text, samples_of}
use Rattle.stickd_script.specs.Start.{start}
use Rattle.stickd_script.specs.Unrefused.{ClosesUnrefused, CommandUnrefused, JudgesUnrefused, LineUnrefused, OneOutputLaw, OpensUnrefused, SaysUnrefused, UnrefusedLaw}
use Rattle.stick_key.specs.KeyText.{ReadsOneKey}
use Rattle.table_cli.specs.Answers.{commands_of}
use Rattle.stickd_script.proofs.CommandsOnceLemmas.{commands_once}
use Rattle.stickd_script.proofs.CommandsSoLemmas.{commands_so}
use Rattle.stickd_script.proofs.KeyLemmas.{AllLie, empty_lie, says_lies, with_books}
use Rattle.stickd_script.proofs.LabelLemmas.{gone_labels, label, labels_by, tables_by, view_by}
use Rattle.stickd_script.proofs.GuestLemmas.{all_at}
use Rattle.stickd_script.proofs.RollLemmas.{map_kept, part_rolled, shards_kept}
use Rattle.stickd_script.proofs.ServedLemmas.{says_served, start_served}
use Rattle.stickd_script.specs.Rolling.{RecordsRoll}
use Rattle.shard_book.proofs.RollLemmas.{length-rolled_first}
use Rattle.admit_drive.specs.Tables.{TableState}
use Rattle.admit_drive.proofs.PlainLemmas.{plain}

-- ---- what is said so is what a line says

opens_so : (source : Option Address) (guest : Option (Conn Reference)) (moment id port : ℕ) (old : ScriptState) (text : List ℕ) (new : ScriptState) → guest_of id old.guests ≡ guest → OpensUnrefused source guest moment id port old text new → OpensFrom source moment id port old text new
opens_so None guest moment id port old text new is opens = opens
opens_so (Some source) (Some guest) moment id port old text new is opens = subst (λ o. OpensAt o moment id source port old text new) (sym is) opens
opens_so (Some source) None moment id port old text new is opens =
    subst (λ o. OpensAt o moment id source port old text new) (sym is)
    (inl (opens.0, opens.1, opens.2, rests_so moment old.tables (arrived old.setup (samples_of old.setup source port)) new.tables opens.1 opens.3, opens.4, opens.5))

closes_so : (guest : Option (Conn Reference)) (moment id bytes_in bytes_out : ℕ) (old : ScriptState) (text : List ℕ) (new : ScriptState) → guest_of id old.guests ≡ guest → ClosesUnrefused guest moment id bytes_in bytes_out old text new → Closes moment id bytes_in bytes_out old text new
closes_so None moment id bytes_in bytes_out old text new is closes = subst (λ o. ClosesAt o moment id bytes_in bytes_out old text new) (sym is) closes
closes_so (Some guest) moment id bytes_in bytes_out old text new is closes =
    subst (λ o. ClosesAt o moment id bytes_in bytes_out old text new) (sym is)
    (closes.0, closes.1, closes.2, rests_so moment old.tables (closed closes.0 bytes_in bytes_out) new.tables closes.1 closes.3, closes.4, closes.5)

line_so : (line : Line) (old : ScriptState) (text : List ℕ) (new : ScriptState) → LineUnrefused line old text new → LineSays line old text new
line_so Empty old text new says = says
line_so Bad old text new says = says
line_so (Commands moment commands) old text new says = (commands_so moment (commands_of commands) old.tables text new.tables says.0, says.1)
line_so (Open moment id address port) old text new says = opens_so (address_of address) (guest_of id old.guests) moment id port old text new refl says
line_so (Close moment id bytes_in bytes_out) old text new says = closes_so (guest_of id old.guests) moment id bytes_in bytes_out old text new refl says

pub unrefused_law : UnrefusedLaw
unrefused_law old line text new says = (says.0, line_so (line_of line) old text says.0 says.1, says.2)

-- ---- two states of a script, without slots

abbrev seen : Guest → ℕ × Progress Reference
seen guest = (guest.0, plain_progress (progress_in guest))

abbrev seen_conn : Conn Reference → Progress Reference
seen_conn conn = plain_progress (progress_of conn)

record AreOne (one other : ScriptState) : Type 0 where
  pub setup : one.setup ≡ other.setup
  pub labels : map label one.tables ≡ map label other.tables
  pub shards : SameView (view one.tables) (view other.tables)
  pub guests : map seen one.guests ≡ map seen other.guests

-- the open connection of an ID, and the others
seen_of : (id : ℕ) (guests : List Guest) → option_map seen_conn (guest_of id guests) ≡ lookup (is_at (nat_cmp id)) (map seen guests)
seen_of id [] = refl
seen_of id (guest ∷ guests) = by (is_eq (nat_cmp id guest.0)) ∙ ap (λ o. cond (is_eq (nat_cmp id guest.0)) (Some (seen_conn guest.1)) o) (seen_of id guests)
  where
    by : (b : Bool) → option_map seen_conn (cond b (Some guest.1) (guest_of id guests)) ≡ cond b (Some (seen_conn guest.1)) (option_map seen_conn (guest_of id guests))
    by true = refl
    by false = refl

seen_without : (id : ℕ) (guests : List Guest) → map seen (without id guests) ≡ remove_entry (is_at (nat_cmp id)) (map seen guests)
seen_without id [] = refl
seen_without id (guest ∷ guests) = by (is_eq (nat_cmp id guest.0)) ∙ ap (λ rest. cond (is_eq (nat_cmp id guest.0)) (map seen guests) (seen guest ∷ rest)) (seen_without id guests)
  where
    by : (b : Bool) → map seen (cond b guests (guest ∷ without id guests)) ≡ cond b (map seen guests) (seen guest ∷ map seen (without id guests))
    by true = refl
    by false = refl

seen_with : (id : ℕ) (conn : Conn Reference) (guests : List Guest) → map seen (insert_entry nat_cmp guests id conn) ≡ insert_entry nat_cmp (map seen guests) id (seen_conn conn)
seen_with id conn [] = refl
seen_with id conn (guest ∷ guests) =
    elim (nat_cmp id guest.0) as (λ o. map seen (match_ordering o ((id, conn) ∷ guest ∷ guests) ((guest.0, conn) ∷ guests) (guest ∷ insert_entry nat_cmp guests id conn))
    ≡ match_ordering o ((id, seen_conn conn) ∷ map seen (guest ∷ guests)) ((guest.0, seen_conn conn) ∷ map seen guests) (seen guest ∷ insert_entry nat_cmp (map seen guests) id (seen_conn conn))) [
      | Less ↦ refl
      | Equal ↦ refl
      | Greater ↦ ap (λ rest. seen guest ∷ rest) (seen_with id conn guests)
    ]

-- one that was admitted
abbrev seen_by : ℕ → Progress Reference → Phase → List (ℕ × Progress Reference) → List (ℕ × Progress Reference)
seen_by id progress Admitted others = insert_entry nat_cmp others id progress
seen_by id progress phase others = others

seen_admitted : (phase : Phase) (id : ℕ) (conn : Conn Reference) (guests : List Guest) → map seen (admitted phase id conn guests) ≡ seen_by id (seen_conn conn) phase (map seen guests)
seen_admitted Admitted id conn guests = seen_with id conn guests
seen_admitted New id conn guests = refl
seen_admitted Judging id conn guests = refl
seen_admitted Rejected id conn guests = refl
seen_admitted Ended id conn guests = refl

-- ---- a line

record IsSaid (one other : List ℕ) (new again : ScriptState) : Type 0 where
  pub text : one ≡ other
  pub states : AreOne new again

unchanged : (old again new later : ScriptState) (one other text : List ℕ) → AreOne old again → one ≡ text → other ≡ text → new ≡ old → later ≡ again → IsSaid one other new later
unchanged old again new later one other text are is also same stays =
    record { text = is ∙ sym also; states = subst (λ s. AreOne s later) (sym same) (subst (AreOne old) (sym stays) are) }

judged_once : (moment id port : ℕ) (source : Address) (old again : ScriptState) (one other : List ℕ) (new later : ScriptState) → AreOne old again → IsServed old → IsServed again
    → JudgesUnrefused moment id (samples_of old.setup source port) old one new → JudgesUnrefused moment id (samples_of again.setup source port) again other later → IsSaid one other new later
judged_once moment id port source old again one other new later are served too a b =
    let first : Connection Reference = arrived old.setup (samples_of old.setup source port) in
    let second : Connection Reference = arrived again.setup (samples_of again.setup source port) in
    let same : plain_connection second ≡ plain_connection first = ap (λ (s : Setup). plain_connection (arrived s (samples_of s source port))) (sym are.setup) in
    let course_a = goes_plain old.setup moment a.3.count old.tables first new.tables a.1 served.tables a.3.goes in
    let course_b = goes_plain again.setup moment b.3.count again.tables second later.tables b.1 too.tables b.3.goes in
    let leads : IsOne (plain_connection a.1) (plain_connection b.1) (view new.tables) (view later.tables) =
    course_once moment a.3.count b.3.count (plain_connection first) (plain_connection a.1) (plain_connection b.1) (view old.tables) (view again.tables) (view new.tables) (view later.tables) are.shards course_a (still_plain a.1 a.3.still)
    (subst (λ (c : Connection Reference). Course moment b.3.count (view again.tables) c (view later.tables) (plain_connection b.1)) same course_b) (still_plain b.1 b.3.still) in
    let phase : a.1.progress.phase ≡ b.1.progress.phase = ap (λ (c : Connection Reference). c.progress.phase) leads.later in
    let progress : plain_progress (progress_of a.0) ≡ plain_progress (progress_of b.0) =
    ap plain_progress a.2.progress ∙ ap (λ (c : Connection Reference). c.progress) leads.later ∙ sym (ap plain_progress b.2.progress) in
    let guests : map seen (admitted a.1.progress.phase id a.0 old.guests) ≡ map seen (admitted b.1.progress.phase id b.0 again.guests) =
    seen_admitted a.1.progress.phase id a.0 old.guests
    ∙ (λ k. seen_by id (progress k) (phase k) (are.guests k))
    ∙ sym (seen_admitted b.1.progress.phase id b.0 again.guests) in
    record {
      text = a.5 ∙ ap (open_text id) phase ∙ sym b.5;
      states = record {
        setup = ap (λ (s : ScriptState). s.setup) a.4 ∙ are.setup ∙ sym (ap (λ (s : ScriptState). s.setup) b.4);
        labels = gone_labels moment a.3.count old.tables new.tables first a.1 a.3.goes ∙ are.labels ∙ sym (gone_labels moment b.3.count again.tables later.tables second b.1 b.3.goes);
        shards = leads.view_is;
        guests = ap (λ (s : ScriptState). map seen s.guests) a.4 ∙ guests ∙ sym (ap (λ (s : ScriptState). map seen s.guests) b.4);
      };
    }

opened_once : (source : Option Address) (found also : Option (Conn Reference)) (moment id port : ℕ) (old again : ScriptState) (one other : List ℕ) (new later : ScriptState) → option_map seen_conn found ≡ option_map seen_conn also → AreOne old again → IsServed old → IsServed again
    → OpensUnrefused source found moment id port old one new → OpensUnrefused source also moment id port again other later → IsSaid one other new later
opened_once None found also moment id port old again one other new later same are served too a b = unchanged old again new later one other bad_line are a.0 b.0 a.1 b.1
opened_once (Some source) (Some guest) (Some it) moment id port old again one other new later same are served too a b = unchanged old again new later one other _ are a.0 b.0 a.1 b.1
opened_once (Some source) None None moment id port old again one other new later same are served too a b = judged_once moment id port source old again one other new later are served too a b
opened_once (Some source) (Some guest) None moment id port old again one other new later same are served too a b = cc
opened_once (Some source) None (Some it) moment id port old again one other new later same are served too a b = cc

seen_same : (a b : Progress Reference) → Some a ≡ Some b → a ≡ b
seen_same a b e = cc

closed_once : (found also : Option (Conn Reference)) (moment id bytes_in bytes_out : ℕ) (old again : ScriptState) (one other : List ℕ) (new later : ScriptState) → guest_of id old.guests ≡ found → guest_of id again.guests ≡ also → option_map seen_conn found ≡ option_map seen_conn also → AreOne old again
    → IsServed old → IsServed again → ClosesUnrefused found moment id bytes_in bytes_out old one new → ClosesUnrefused also moment id bytes_in bytes_out again other later → IsSaid one other new later
closed_once None None moment id bytes_in bytes_out old again one other new later is it same are served too a b = unchanged old again new later one other _ are a.0 b.0 a.1 b.1
closed_once (Some guest) None moment id bytes_in bytes_out old again one other new later is it same are served too a b = cc
closed_once None (Some guest) moment id bytes_in bytes_out old again one other new later is it same are served too a b = cc
closed_once (Some guest) (Some twin) moment id bytes_in bytes_out old again one other new later is it same are served too a b =
    let first : Connection Reference = closed a.0 bytes_in bytes_out in
    let second : Connection Reference = closed b.0 bytes_in bytes_out in
    let progress : plain_progress b.0.progress ≡ plain_progress a.0.progress =
    ap plain_progress (sym b.2.stands.progress) ∙ sym (seen_same (seen_conn guest) (seen_conn twin) same) ∙ ap plain_progress a.2.stands.progress in
    let setup : b.0.setup ≡ a.0.setup = b.2.judged_by ∙ sym are.setup ∙ sym a.2.judged_by in
    let told : as_told a.0.samples a.0.answers (plain_connection second) ≡ plain_connection first =
    (λ k. record { setup = setup k; samples = a.0.samples; answers = a.0.answers; progress = closed_of (progress k) bytes_in bytes_out }) in
    let open_still : IsOpen twin = all_at id IsOpen again.guests twin it too.open_all in
    let behind : is_judged b.0.progress.phase ≡ false = ap (λ (p : Progress Reference). is_judged p.phase) (sym b.2.stands.progress) ∙ ap is_judged open_still.phase in
    let course_a = goes_plain old.setup moment a.3.count old.tables first new.tables a.1 served.tables a.3.goes in
    let course_b = goes_plain again.setup moment b.3.count again.tables second later.tables b.1 too.tables b.3.goes in
    let as_first = course_told a.0.samples a.0.answers moment b.3.count (view again.tables) (plain_connection second) (view later.tables) (plain_connection b.1) behind course_b in
    let still : is_still (need (as_told a.0.samples a.0.answers (plain_connection b.1))) ≡ true = ap is_still (sym (need_told a.0.samples a.0.answers (plain_connection b.1) as_first.1)) ∙ still_plain b.1 b.3.still in
    let leads : IsOne (plain_connection a.1) (as_told a.0.samples a.0.answers (plain_connection b.1)) (view new.tables) (view later.tables) =
    course_once moment a.3.count b.3.count (plain_connection first) (plain_connection a.1) (as_told a.0.samples a.0.answers (plain_connection b.1)) (view old.tables) (view again.tables) (view new.tables) (view later.tables) are.shards course_a (still_plain a.1 a.3.still)
    (subst (λ (c : Connection Reference). Course moment b.3.count (view again.tables) c (view later.tables) (as_told a.0.samples a.0.answers (plain_connection b.1))) told as_first.0) still in
    record {
      text = a.5 ∙ sym b.5;
      states = record {
        setup = ap (λ (s : ScriptState). s.setup) a.4 ∙ are.setup ∙ sym (ap (λ (s : ScriptState). s.setup) b.4);
        labels = gone_labels moment a.3.count old.tables new.tables first a.1 a.3.goes ∙ are.labels ∙ sym (gone_labels moment b.3.count again.tables later.tables second b.1 b.3.goes);
        shards = leads.view_is;
        guests = ap (λ (s : ScriptState). map seen s.guests) a.4 ∙ seen_without id old.guests ∙ ap (remove_entry (is_at (nat_cmp id))) are.guests ∙ sym (seen_without id again.guests)
            ∙ sym (ap (λ (s : ScriptState). map seen s.guests) b.4);
      };
    }

commanded_once : (moment : ℕ) (commands : List (List ℕ)) (old again : ScriptState) (one other : List ℕ) (new later : ScriptState) → ReadsOneKey → AreOne old again → (shards : ℕ) → IsServed old → AllLie shards old
    → Chain (CommandUnrefused moment) old.tables commands one new.tables → Commanded old new → Chain (CommandUnrefused moment) again.tables commands other later.tables → Commanded again later → IsSaid one other new later
commanded_once moment commands old again one other new later one_key are shards served lie a stays b stay =
    let same = tables_by old.tables again.tables are.labels are.shards in
    let answered = commands_once one_key shards moment commands old.tables again.tables one other new.tables later.tables same
    (with_books shards old.tables (λ i table at. (served.tables.each i table at).2.books) lie.1) a b in
    record {
      text = answered.text;
      states = record {
        setup = ap (λ (s : ScriptState). s.setup) stays ∙ are.setup ∙ sym (ap (λ (s : ScriptState). s.setup) stay);
        labels = labels_by new.tables later.tables answered.tables;
        shards = view_by new.tables later.tables answered.tables;
        guests = ap (λ (s : ScriptState). map seen s.guests) stays ∙ are.guests ∙ sym (ap (λ (s : ScriptState). map seen s.guests) stay);
      };
    }

line_once : ReadsOneKey → (shards : ℕ) (line : Line) (old again : ScriptState) (one other : List ℕ) (new later : ScriptState) → AreOne old again → IsServed old → AllLie shards old → IsServed again → LineUnrefused line old one new → LineUnrefused line again other later → IsSaid one other new later
line_once one_key shards Empty old again one other new later are served lie too a b = unchanged old again new later one other [] are a.0 b.0 a.1 b.1
line_once one_key shards Bad old again one other new later are served lie too a b = unchanged old again new later one other bad_line are a.0 b.0 a.1 b.1
line_once one_key shards (Commands moment commands) old again one other new later are served lie too a b = commanded_once moment (commands_of commands) old again one other new later one_key are shards served lie a.0 a.1 b.0 b.1
line_once one_key shards (Open moment id address port) old again one other new later are served lie too a b =
    opened_once (address_of address) (guest_of id old.guests) (guest_of id again.guests) moment id port old again one other new later (seen_of id old.guests ∙ ap (lookup (is_at (nat_cmp id))) are.guests ∙ sym (seen_of id again.guests)) are served too a b
line_once one_key shards (Close moment id bytes_in bytes_out) old again one other new later are served lie too a b =
    closed_once (guest_of id old.guests) (guest_of id again.guests) moment id bytes_in bytes_out old again one other new later refl refl (seen_of id old.guests ∙ ap (lookup (is_at (nat_cmp id))) are.guests ∙ sym (seen_of id again.guests)) are served too a b

-- ---- all lines

served_so : (line : Option (List ℕ)) (old : ScriptState) (text : List ℕ) (new : ScriptState) → SaysUnrefused old line text new → IsServed old → IsServed new
served_so line old text new says are = says_served line old text new (unrefused_law old line text new says) are

roll_label : (count : ℕ) (table : TableState) → label (part_rolled count table) ≡ label table
roll_label count table = ap (λ n. record { name = table.name; spec = table.spec; shards = table.shards; books = n }) (length-rolled_first count table.state.books)

-- whether or not tables roll
rolled_one : (said new : ScriptState) (again : ScriptState) → RecordsRoll said new → AreOne said again → AreOne new again
rolled_one said new again rolls are = record {
  setup = ap (λ (s : ScriptState). s.setup) rolls.others ∙ are.setup;
  labels = map_kept label roll_label said.tables new.tables rolls.tables ∙ are.labels;
  shards = λ table part. ap (option_map plain) (shards_kept said.tables new.tables rolls.tables table part) ∙ are.shards table part;
  guests = ap (λ (s : ScriptState). map seen s.guests) rolls.others ∙ are.guests;
}

turned : (one other : ScriptState) → AreOne one other → AreOne other one
turned one other are = record { setup = sym are.setup; labels = sym are.labels; shards = λ table part. sym (are.shards table part); guests = sym are.guests }

rolled_both : (said new again later : ScriptState) → RecordsRoll said new → RecordsRoll again later → AreOne said again → AreOne new later
rolled_both said new again later rolls also are = rolled_one said new later rolls (turned later said (rolled_one again later said also (turned said again are)))

lines_once : ReadsOneKey → (shards : ℕ) (lines : List (List ℕ)) (old again : ScriptState) (one other : List ℕ) (new later : ScriptState) → AreOne old again → IsServed old → AllLie shards old → IsServed again → Chain (ServesLine SaysUnrefused) old lines one new → Chain (ServesLine SaysUnrefused) again lines other later → one ≡ other
lines_once one_key shards [] old again one other new later are served lie too a b = a.0 ∙ sym b.0
lines_once one_key shards (line ∷ lines) old again one other new later are served lie too a b =
    let said = line_once one_key shards (line_of (held line)) old again a.0 b.0 a.3.0 b.3.0 are served lie too a.3.1 b.3.1 in
    let rest : a.2 ≡ b.2 = lines_once one_key shards lines a.1 b.1 a.2 b.2 new later (rolled_both a.3.0 a.1 b.3.0 b.1 a.3.2 b.3.2 said.states) (served_so (held line) old a.0 a.1 a.3 served)
    (says_lies shards (held line) old a.0 a.1 (unrefused_law old (held line) a.0 a.1 a.3) served lie) (served_so (held line) again b.0 b.1 b.3 too) a.4 b.4 in
    a.5 ∙ (λ k. said.text k ++ rest k) ∙ sym b.5

pub one_output_law : ReadsOneKey → OneOutputLaw
one_output_law one_key setup script output other new again can a b =
    let served = start_served setup can in
    let same : AreOne (start setup) (start setup) = record { setup = refl; labels = refl; shards = λ table part. refl; guests = refl } in
    lines_once one_key setup.shards (parts is_line_end script) (start setup) (start setup) output other new again same served (refl, empty_lie setup.shards setup.tables) served a b
