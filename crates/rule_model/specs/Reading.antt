-- What a reader answers, against what its text gives.
use Rattle.std.specs.Prelude.{◌≡◌, Bool, true, false, Result, Ok, Err}
use Rattle.rule_model.specs.declared.faults.Fault.{Fault}
use Rattle.rule_model.specs.declared.faults.ReadError.{ReadError}
use Rattle.rule_model.specs.declared.faults.ReadError.TheVariants.{OutOfMemory, Wrong}

-- a reading, and what follows from it; the first fault is the fault of the whole
infixl 10 ◌>>=◌
abbrev pub ◌>>=◌ : {A B E : Type 0} → Result A E → (A → Result B E) → Result B E
(Ok x) >>= f = f x
(Err e) >>= f = Err e

-- a fault where the test fails
abbrev pub demand : Bool → Fault → Result (Unit {0}) Fault
demand true fault = Ok tt
demand false fault = Err fault

-- the fault that reading gives, or want of memory
abbrev pub Fails : {X : Type 0} → ReadError → Result X Fault → Type 0
Fails OutOfMemory read = Unit {0}
Fails (Wrong fault) read = read ≡ Err fault

-- what is answered is what reading gives, unless a growth was refused
abbrev pub Gives : {X : Type 0} → Result X ReadError → Result X Fault → Type 0
Gives (Ok x) read = read ≡ Ok x
Gives (Err error) read = Fails error read

-- the same where the value is left in place
abbrev pub Leaves : {X Y : Type 0} → Result Y ReadError → X → Result X Fault → Type 0
Leaves (Ok _) new read = read ≡ Ok new
Leaves (Err error) new read = Fails error read
