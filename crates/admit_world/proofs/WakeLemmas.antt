-- A connection that rests is closed, and any other stays.
use Rattle.std.proofs.Common.{◌≡◌, refl, sym, ap, subst, ◌∙◌, true, false}
use Rattle.std.proofs.lemmas.Bool.{false≢true}
use Rattle.admit_core.specs.Conn.{needed, Stands}
use Rattle.admit_core.specs.Connection.{Connection, closed, need}
use Rattle.admit_core.specs.Left.{is_rest}
use Rattle.admit_core.specs.declared.conn.Conn.{Conn}
use Rattle.admit_core.specs.declared.need.Need.{Need}
use Rattle.admit_core.specs.declared.need.Need.TheVariants as needs
use Rattle.admit_world.specs.World.{unless_resting, woken}
use Rattle.shard_port.specs.declared.reference.Reference.{Reference}
use Rattle.admit_world.specs.declared.visit.Visit.{Visit}
use Rattle.admit_port.proofs.CommonLemmas.{need_same}

pub rest_is : (wanted : Need) → is_rest wanted ≡ true → wanted ≡ needs.Rest
rest_is needs.Rest is = refl
rest_is (needs.Get t k) is = absurd (false≢true is)
rest_is (needs.Track s t k) is = absurd (false≢true is)
rest_is (needs.Look s) is = absurd (false≢true is)
rest_is (needs.Count s a) is = absurd (false≢true is)
rest_is (needs.Release s) is = absurd (false≢true is)
rest_is needs.Turn is = absurd (false≢true is)
rest_is needs.Finished is = absurd (false≢true is)

other_stays : (visit : Visit) (connection : Connection Reference) (wanted : Need) → is_rest wanted ≡ false → unless_resting visit connection wanted ≡ connection
other_stays visit connection needs.Rest is = absurd (false≢true (sym is))
other_stays visit connection (needs.Get t k) is = refl
other_stays visit connection (needs.Track s t k) is = refl
other_stays visit connection (needs.Look s) is = refl
other_stays visit connection (needs.Count s a) is = refl
other_stays visit connection (needs.Release s) is = refl
other_stays visit connection needs.Turn is = refl
other_stays visit connection needs.Finished is = refl

pub woken_closed : (conn later : Conn Reference) (visit : Visit) (connection : Connection Reference) → is_rest (needed conn) ≡ true → Stands conn connection → Stands later (closed connection visit.bytes_in visit.bytes_out) → Stands later (woken visit connection)
woken_closed conn later visit connection rests stands closed_stands =
    let rest : need connection ≡ needs.Rest = sym (need_same conn connection stands) ∙ rest_is (needed conn) rests in
    subst (Stands later) (sym (ap (unless_resting visit connection) rest)) closed_stands

pub woken_same : (conn : Conn Reference) (visit : Visit) (connection : Connection Reference) → is_rest (needed conn) ≡ false → Stands conn connection → Stands conn (woken visit connection)
woken_same conn visit connection awake stands =
    subst (Stands conn) (sym (other_stays visit connection (need connection) (sym (ap is_rest (need_same conn connection stands)) ∙ awake))) stands
