-- What the code of a connection stands for, and what it is told of memory.
use Rattle.std.proofs.Common.{◌≡◌, refl, sym, subst, Bool, true, false, Option, Some, None, is_some, Result, Err}
use Rattle.std.specs.Prelude.{IsOk}
use Rattle.std.proofs.lemmas.Bool.{false≢true}
use Rattle.rule_model.specs.declared.sections.Setup.{Setup}
use Rattle.admit_core.specs.Conn.{Judges, judged_by, needed, Stands}
use Rattle.admit_core.specs.Connection.{Connection, is_release, need, need_of, need_takes_memory}
use Rattle.admit_core.specs.declared.conn.Conn.{Conn}
use Rattle.admit_core.specs.declared.need.Need.{Need}
use Rattle.admit_core.specs.declared.need.Need.TheVariants as needs
use Rattle.admit_core.proofs.ConnLemmas.{wanted_asks}

pub setup_same : {R : Type 0} (conn : Conn R) (connection : Connection R) → Stands conn connection → judged_by conn ≡ connection.setup
unfolding judged_by Judges
setup_same conn connection stands = stands.judges.judges

pub need_same : {R : Type 0} (conn : Conn R) (connection : Connection R) → Stands conn connection → needed conn ≡ need connection
need_same conn connection stands = (λ k. need_of (wanted_asks conn connection stands k) (stands.progress k))

pub none_out : {X : Type 0} (given : Option X) → is_some given ≡ false → given ≡ None
none_out None none = refl
none_out (Some x) none = absurd (false≢true (sym none))

-- ---- memory

-- where there was no memory for what is wanted, it takes some
pub wanted_memory : {X E : Type 0} (setup : Setup) (wants_it : Need) (result : Result X E) (error : E) → result ≡ Err error → (need_takes_memory setup wants_it ≡ false → IsOk result) → need_takes_memory setup wants_it ≡ true
wanted_memory {X = X} {E = E} setup wants_it result error is memory = by (need_takes_memory setup wants_it) refl
  where
    by : (b : Bool) → need_takes_memory setup wants_it ≡ b → need_takes_memory setup wants_it ≡ true
    by true takes = takes
    by false takes = absurd (false≢true (subst (λ r. IsOk r) is (memory takes)))

-- and what takes memory is no release
pub memory_bare : (setup : Setup) (wants_it : Need) → need_takes_memory setup wants_it ≡ true → is_release wants_it ≡ false
memory_bare setup (needs.Release s) takes = absurd (false≢true takes)
memory_bare setup (needs.Get t k) takes = refl
memory_bare setup (needs.Track s t k) takes = refl
memory_bare setup (needs.Look s) takes = refl
memory_bare setup (needs.Count s a) takes = refl
memory_bare setup needs.Rest takes = refl
memory_bare setup needs.Turn takes = refl
memory_bare setup needs.Finished takes = refl
