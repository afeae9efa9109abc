-- What stands before a script's lines stands behind what is loaded before them.
use Rattle.std.proofs.Common.{◌≡◌, ℕ, ◌+◌, refl, sym, ap, subst, Option, Some, List, [], ◌∷◌, ◌++◌, inl, inr}
use Rattle.rule_model.specs.declared.sections.Setup.{Setup}
use Rattle.admit_drive.specs.Tables.{CanOpen, TableState}
use Rattle.table_texts.specs.Form.{form_of}
use Rattle.table_texts.specs.Seen.{words_of}
use Rattle.table_cli.specs.SavedLines.{Fault, FaultAt, NoMemory, Line, Passed, Makes, Wrong, line_of}
use Rattle.table_cli.specs.Loading.{Commands as Made, IsAnswered, IsLoaded as IsLoadedAll, IsPassed, IsRefused, Loads, LoadsAll, MakesIn, lines_of, moment_of, noted}
use Rattle.table_cli.specs.declared.misfits.Misfits.{Misfits}
use Rattle.table_cli.specs.declared.misfits.Misfits.TheVariants.{Refused, Skipped}
use Rattle.table_cli.specs.declared.room.Room.{Room}
use Rattle.table_cli.specs.declared.room.Room.TheVariants.{Free, Taken, Unknown}
use Rattle.stickd_script.specs.BadLines.{Noting, beginning, noting_at}
use Rattle.stickd_script.specs.Guests.{IsServed, ScriptState}
use Rattle.stickd_script.specs.Loaded.{Begins, IsLoaded, IsUnloaded, with_tables}
use Rattle.stickd_script.specs.Script.{Commands, LineSays, answering, refusing}
use Rattle.stickd_script.specs.Start.{start}
use Rattle.stickd_script.proofs.LookLemmas.{look_served}
use Rattle.stickd_script.proofs.ServedLemmas.{commands_served, start_served}

-- ---- what a line leaves

same_tables : (state : ScriptState) (tables : List TableState) → tables ≡ state.tables → IsServed state → IsServed (record state { tables = tables })
same_tables state tables same are = subst (λ (ts : List TableState). IsServed (record state { tables = ts })) (sym same) are

said : (moment : ℕ) (command text : List ℕ) (state : ScriptState) (tables : List TableState) → IsAnswered answering refusing moment state.tables command text tables
    → LineSays (Commands moment command) state text (record state { tables = tables })
said moment command text state tables answered = (answered, refl)

answered_served : (moment : ℕ) (command text : List ℕ) (state : ScriptState) (tables : List TableState) → IsAnswered answering refusing moment state.tables command text tables → IsServed state → IsServed (record state { tables = tables })
answered_served moment command text state tables answered are = commands_served moment command state text (record state { tables = tables }) (said moment command text state tables answered) are

-- a line that is skipped wasn't short of memory
not_short : {X : Type 0} (misfits : Misfits) (end : Option Fault) → IsPassed misfits end → end ≡ Some NoMemory → X
not_short misfits end passed short = none_passes misfits (subst (IsPassed misfits) short passed)
  where
    none_passes : {X : Type 0} (misfits : Misfits) → IsPassed misfits (Some NoMemory) → X
    none_passes Refused passed = cc
    none_passes Skipped passed = cc

made_served : (misfits : Misfits) (moment : ℕ) (command : List ℕ) (end : Option Fault) (state : ScriptState) (tables : List TableState) → Made answering refusing moment state.tables command end tables → IsPassed misfits end
    → IsServed state → IsServed (record state { tables = tables })
made_served misfits moment command end state tables made passed are = elim made [
  | inl answered ↦ answered_served moment command answered.0 state tables answered.1 are
  | inr stopped ↦ not_short misfits end passed stopped.1
]

room_served : (misfits : Misfits) (room : Room) (name : List ℕ) (moment : ℕ) (command : List ℕ) (end : Option Fault) (state : ScriptState) (tables : List TableState) → MakesIn answering refusing room name moment state.tables command end tables
    → IsPassed misfits end → IsServed state → IsServed (record state { tables = tables })
room_served misfits Free name moment command end state tables makes passed are = made_served misfits moment command end state tables makes passed are
room_served misfits Taken name moment command end state tables makes passed are = same_tables state tables makes.1 are
room_served misfits Unknown name moment command end state tables makes passed are = same_tables state tables makes.1 are

line_loaded : (misfits : Misfits) (line : Line) (end : Option Fault) (state : ScriptState) (tables : List TableState) → Loads answering refusing state.tables line end tables → IsPassed misfits end → IsServed state
    → IsServed (record state { tables = tables })
line_loaded misfits Passed end state tables loads passed are = same_tables state tables loads.1 are
line_loaded misfits (Wrong fault) end state tables loads passed are = same_tables state tables loads.1 are
line_loaded misfits (Makes left name command) end state tables loads passed are =
    let moment = moment_of left name state.tables in
    let looked : IsServed (record state { tables = loads.1 }) = look_served moment (form_of (words_of command)) state loads.0 loads.1 loads.2 are in
    room_served misfits loads.0 name moment command end (record state { tables = loads.1 }) tables loads.3 passed looked

all_loaded : (misfits : Misfits) (number : ℕ) (before : List FaultAt) (lines : List (List ℕ)) (skipped : List FaultAt) (state : ScriptState) (tables : List TableState)
    → LoadsAll answering refusing misfits number state.tables before lines skipped tables → IsServed state → IsServed (record state { tables = tables })
all_loaded misfits number before [] skipped state tables loads are = same_tables state tables loads.1 are
all_loaded misfits number before (line ∷ lines) skipped state tables loads are =
    all_loaded misfits (number + 1) (before ++ noted number loads.1) lines skipped (record state { tables = loads.0 }) tables loads.4 (line_loaded misfits (line_of line) loads.1 state loads.0 loads.2 loads.3 are)

-- ---- where a script begins

loaded_served : (setup : Setup) (misfits : Misfits) (saved : List ℕ) (skipped : List FaultAt) (tables : List TableState) → CanOpen setup → Begins setup misfits saved skipped tables → IsServed (with_tables setup tables)
loaded_served setup misfits saved skipped tables can begins = all_loaded misfits 1 [] (lines_of saved) skipped (start setup) tables begins.loads.lines (start_served setup can)

module _ (setup : Setup) (noting : Noting) (misfits : Misfits) (saved : List ℕ) (tables : List TableState) (is : noting ≡ beginning setup) where
  pub begins_loaded : (skipped : List FaultAt) → IsLoaded misfits noting.script.tables saved skipped tables → Begins setup misfits saved skipped tables
  begins_loaded skipped loaded = subst (λ (n : Noting). IsLoaded misfits n.script.tables saved skipped tables) is loaded

  pub begins_served : (skipped : List FaultAt) → CanOpen setup → IsLoaded misfits noting.script.tables saved skipped tables → IsServed (record noting.script { tables = tables })
  begins_served skipped can loaded = subst (λ (n : Noting). IsServed (record n.script { tables = tables })) (sym is) (loaded_served setup misfits saved skipped tables can (begins_loaded skipped loaded))

  pub begins_at : record noting { script = record noting.script { tables = tables } } ≡ noting_at (with_tables setup tables)
  begins_at = ap (λ (n : Noting). record n { script = record n.script { tables = tables } }) is

  pub begins_unloaded : (found : FaultAt) → IsUnloaded misfits noting.script.tables saved found tables → IsUnloaded misfits (start setup).tables saved found tables
  begins_unloaded found unloaded = subst (λ (n : Noting). IsUnloaded misfits n.script.tables saved found tables) is unloaded

-- ---- tables in a vector

module _ (misfits : Misfits) (old seen new refilled : List TableState) (saved : List ℕ) (was : seen ≡ old) (now : refilled ≡ new) where
  pub loaded_so : (skipped : List FaultAt) → IsLoadedAll answering refusing misfits seen saved skipped new → IsLoaded misfits old saved skipped refilled
  loaded_so skipped loads = subst (λ ts. IsLoaded misfits ts saved skipped refilled) was (subst (λ ts. IsLoaded misfits seen saved skipped ts) (sym now) (record { loads = loads }))

  pub unloaded_so : (found : FaultAt) → IsRefused answering refusing misfits seen saved found new → IsUnloaded misfits old saved found refilled
  unloaded_so found fails = subst (λ ts. IsUnloaded misfits ts saved found refilled) was (subst (λ ts. IsUnloaded misfits seen saved found ts) (sym now) (record { fails = fails }))
