-- What the code of a connection that comes or goes tells of a script.
use Rattle.std.proofs.Common.{◌≡◌, ℕ, refl, sym, ap, subst, ◌∙◌, false, Option, Some, None, is_some, List, inl}
use Rattle.std.specs.BTreeMap.{insert_entry}
use Rattle.std.specs.Ordering.{nat_cmp}
use Rattle.rule_addresses.specs.declared.address.Address.{Address}
use Rattle.admit_core.specs.Conn.{Stands}
use Rattle.admit_core.specs.Connection.{Connection, arrived, closed}
use Rattle.admit_core.specs.declared.conn.Conn.{Conn}
use Rattle.admit_core.specs.declared.need.Phase.{Phase}
use Rattle.admit_core.specs.declared.need.Phase.TheVariants.{New, Judging, Admitted, Rejected, Ended}
use Rattle.admit_drive.specs.Moves.{ComesToRest}
use Rattle.admit_drive.specs.Tables.{TableState}
use Rattle.shard_port.specs.declared.reference.Reference.{Reference}
use Rattle.stickd_script.specs.Guests.{Guest, MayBe, ScriptState, guest_of, without}
use Rattle.stickd_script.specs.Script.{Closes, ClosesAt, OpensAt, admitted, close_text, open_text, samples_of}

pub none_of : {X : Type 0} (o : Option X) → is_some o ≡ false → o ≡ None
none_of None is = refl
none_of (Some x) is = cc

module _ (moment id : ℕ) (old : ScriptState) (tables : List TableState) where
  -- it was admitted, and is open
  pub opened_admitted : (source : Address) (port : ℕ) (text : List ℕ) (guests : List Guest) (conn : Conn Reference) (after : Connection Reference) → guest_of id old.guests ≡ None → Stands conn after
      → ComesToRest moment old.tables (arrived old.setup (samples_of old.setup source port)) tables after → after.progress.phase ≡ Admitted → guests ≡ insert_entry nat_cmp old.guests id conn → text ≡ open_text id Admitted
      → OpensAt (guest_of id old.guests) moment id source port old text (record old { tables = tables; guests = guests })
  opened_admitted source port text guests conn after free stands comes phase more said =
      let its : guests ≡ admitted after.progress.phase id conn old.guests = more ∙ ap (λ p. admitted p id conn old.guests) (sym phase) in
      subst (λ found. OpensAt found moment id source port old text (record old { tables = tables; guests = guests })) (sym free)
      (inl (conn, after, stands, comes, ap (λ gs. record old { tables = tables; guests = gs }) its, said ∙ ap (open_text id) (sym phase)))

  -- it wasn't
  pub opened_rejected : (source : Address) (port : ℕ) (text : List ℕ) (guests : List Guest) (conn : Conn Reference) (after : Connection Reference) (phase : Phase) → guest_of id old.guests ≡ None → Stands conn after
      → ComesToRest moment old.tables (arrived old.setup (samples_of old.setup source port)) tables after → after.progress.phase ≡ phase → (phase ≡ Admitted → ⊥) → guests ≡ old.guests → text ≡ open_text id phase
      → OpensAt (guest_of id old.guests) moment id source port old text (record old { tables = tables; guests = guests })
  opened_rejected source port text guests conn after phase free stands comes is not same said =
      let its : guests ≡ admitted after.progress.phase id conn old.guests = same ∙ sym (stays phase not) ∙ ap (λ p. admitted p id conn old.guests) (sym is) in
      subst (λ found. OpensAt found moment id source port old text (record old { tables = tables; guests = guests })) (sym free)
      (inl (conn, after, stands, comes, ap (λ gs. record old { tables = tables; guests = gs }) its, said ∙ ap (open_text id) (sym is)))
    where
      stays : (phase : Phase) → (phase ≡ Admitted → ⊥) → admitted phase id conn old.guests ≡ old.guests
      stays New not = refl
      stays Judging not = refl
      stays Admitted not = absurd (not refl)
      stays Rejected not = refl
      stays Ended not = refl

  -- an open connection went
  pub closed_guest : (bytes_in bytes_out : ℕ) (text : List ℕ) (guests : List Guest) (guest : Conn Reference) (connection after : Connection Reference) → guest_of id old.guests ≡ Some guest → MayBe old.setup guest connection
      → ComesToRest moment old.tables (closed connection bytes_in bytes_out) tables after → guests ≡ without id old.guests → text ≡ close_text id
      → Closes moment id bytes_in bytes_out old text (record old { tables = tables; guests = guests })
  closed_guest bytes_in bytes_out text guests guest connection after found may comes others said =
      subst (λ o. ClosesAt o moment id bytes_in bytes_out old text (record old { tables = tables; guests = guests })) (sym found)
      (connection, after, may, comes, ap (λ gs. record old { tables = tables; guests = gs }) others, said)
