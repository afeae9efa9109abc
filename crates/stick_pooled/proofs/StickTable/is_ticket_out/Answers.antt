use Rattle.std.proofs.Common.{◌≡◌, Option, Some, None, is_some, refl, sym, ap, ◌∙◌}
use Rattle.std.specs.Option.{option_map}
use Rattle.stick_pooled.specs.Stock.{held_at, key_in}
use Rattle.stick_model.specs.State.{State, key_of, same_ticket}
use Rattle.stick_pooled.proofs.CountLemmas.{lookup-keys}
use Rattle.stick_pooled.proofs.StatesLemmas.{now_is}
use Rattle.stick_pooled.proofs.StickTable.is_ticket_out.Goals as goal

some-shown : {X Y : Type 0} (f : X → Y) (o : Option X) → is_some (option_map f o) ≡ is_some o
some-shown f None = refl
some-shown f (Some x) = refl

pub returns : goal.returns
returns c =
    let t = c.self.inside in
    c.is_some.ensures ∙ ap is_some c.find.ensures
    ∙ sym (ap is_some (lookup-keys t.store (same_ticket c.args.ticket) t.book.tickets) ∙ some-shown (λ slot. key_in (held_at t.store slot)) _)
    ∙ ap (λ (s : State). is_some (key_of c.args.ticket s.tickets)) (now_is c.self.view_is)
