-- What a turn leaves where only what is told and known changes.
use Rattle.std.proofs.Common.{◌≡◌, ap, ◌∙◌, sym, refl, subst, Bool, true, false, ◌&&◌, ◌||◌}
use Rattle.tcp_link.specs.Links.{AdvancesIfItWaited, HandsOn, KeepsButAccepted, LinkState, has_passed, owes_client, owes_server, untold, way_from, way_to}
use Rattle.tcp_link.specs.Ways.{Advances}
use Rattle.tcp_link.specs.declared.end.Side.{Side}
use Rattle.tcp_link.specs.declared.end.Side.TheVariants.{Client, Server}
use Rattle.tcp_link.specs.declared.way.Way.{Way}

-- the directions to and from an end, where both directions are as before
way_to_same : (side : Side) (old new : LinkState) → new.there ≡ old.there → new.back ≡ old.back → way_to side old ≡ way_to side new
way_to_same Client old new there back = sym back
way_to_same Server old new there back = sym there

way_from_same : (side : Side) (old new : LinkState) → new.there ≡ old.there → new.back ≡ old.back → way_from side old ≡ way_from side new
way_from_same Client old new there back = sym there
way_from_same Server old new there back = sym back

-- what a direction did is the same after a step that moves nothing
pub to_since : (side : Side) (way : Way) (old new : LinkState) → new.there ≡ old.there → new.back ≡ old.back
    → AdvancesIfItWaited way (way_to side old) → AdvancesIfItWaited way (way_to side new)
to_since side way old new there back = subst (λ now. AdvancesIfItWaited way now) (way_to_same side old new there back)

pub from_since : (side : Side) (way : Way) (old new : LinkState) → new.there ≡ old.there → new.back ≡ old.back
    → Advances way (way_from side old) → Advances way (way_from side new)
from_since side way old new there back = subst (λ now. Advances way now) (way_from_same side old new there back)

or_right : (a b : Bool) → b ≡ true → (a || b) ≡ true
or_right true b is = refl
or_right false b is = is

-- what holds stays so, where its first part does
still_either : (a b p q : Bool) → (a ≡ true → b ≡ true) → p ≡ q → (a || p) ≡ true → (b || q) ≡ true
still_either true b p q stays same is = ap (λ x. x || q) (stays refl)
still_either false b p q stays same is = or_right b q (sym same ∙ is)

-- the end owed to the server is the same where each was told the same
owes_server_same : (old mid new : LinkState) → mid.client_told ≡ old.client_told → mid.server_told ≡ old.server_told
    → owes_server (untold mid new) ≡ owes_server (untold old new)
owes_server_same old mid new client server =
    ap (λ told. owes_server (record new { accepted = old.accepted; client_told = told; server_told = mid.server_told })) client
    ∙ ap (λ told. owes_server (record new { accepted = old.accepted; client_told = old.client_told; server_told = told })) server

-- what is told after a step that tells nothing is told since before it
hands_on_since : (fails : Bool) (old mid new : LinkState) → mid.client_told ≡ old.client_told → mid.server_told ≡ old.server_told
    → (old.accepted ≡ true → mid.accepted ≡ true) → (fails ≡ false → mid.accepted ≡ old.accepted) → HandsOn fails mid new → HandsOn fails old new
hands_on_since fails old mid new client server stays asked ends = record {
  client = ends.client ∙ ap (λ told. told || owes_client (record new { accepted = old.accepted; client_told = told; server_told = old.server_told })) client;
  server = ends.server ∙ ap (λ owes. mid.server_told || (owes && new.accepted)) (owes_server_same old mid new client server)
      ∙ ap (λ told. told || (owes_server (untold old new) && new.accepted)) server;
  asked = λ none owes. ends.asked none (owes_server_same old mid new client server ∙ owes) ∙ asked none;
  known = λ owes must. ends.known (owes_server_same old mid new client server ∙ owes)
      (still_either old.accepted mid.accepted _ _ stays (ap (λ told. has_passed (record new { client_told = told })) (sym client)) must);
}

pub hands_on_turn : (fails : Bool) (old mid new : LinkState) → KeepsButAccepted fails old mid → HandsOn fails mid new → HandsOn fails old new
hands_on_turn fails old mid new kept ends =
    hands_on_since fails old mid new (ap (λ link. link.client_told) kept.0) (ap (λ link. link.server_told) kept.0) kept.1 kept.2 ends

-- what is watched changes nothing of what was told
pub hands_on_watched : (fails : Bool) (old mid new : LinkState) → new ≡ record mid { client_watched = new.client_watched; server_watched = new.server_watched }
    → HandsOn fails old mid → HandsOn fails old new
hands_on_watched fails old mid new same ends =
    subst (λ link. HandsOn fails old link) (sym same) (record { client = ends.client; server = ends.server; asked = ends.asked; known = ends.known })
