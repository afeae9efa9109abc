-- What the texts of endpoints give.
use Rattle.std.proofs.Common.{◌≡◌, ℕ, ◌<◌, ◌≤◌, ◌==◌, ◌&&◌, ◌||◌, List, [], ◌∷◌, length, arith, refl, sym, ◌∙◌, ap, Bool, true, false, subst, inl, inr}
use Rattle.std.proofs.lemmas.Bool.{and_parts, cases_Bool, eqb-true, ltb-true, or_cases}
use Rattle.std.proofs.lemmas.Option.{cond_some, none-some, option_and_then_some}
use Rattle.std.specs.Cmp.Lexicographic.{pointwise, same_text}
use Rattle.std.specs.List.{after_last, before_last, list_any}
use Rattle.std.specs.Prelude.{Option, Some, None, codes, if◌then◌else◌, nat_eq, nat_lt}
use Rattle.base_lines.specs.Number.{number_of}
use Rattle.base_lines.specs.Parts.{is_byte}
use Rattle.stick_key.specs.AddressOf.{dotted_of, ◌>>=◌}
use Rattle.rule_addresses.specs.Addresses.{bind_host_of, bind_of, endpoint_of, host_of, port_of, server_of}
use Rattle.rule_addresses.specs.Laws.{PortsAreSome, ServersReadAsBinds}
use Rattle.rule_addresses.specs.declared.address.Address.{Address}
use Rattle.rule_addresses.specs.declared.address.Endpoint.{Endpoint}

-- the host and the port of a text
record HasParts (host : List ℕ → Option Address) (text : List ℕ) (endpoint : Endpoint) : Type 0 where
  colon : list_any (is_byte 58) text ≡ true
  host_is : host (before_last (is_byte 58) text) ≡ Some endpoint.address
  port_is : port_of (after_last (is_byte 58) text) ≡ Some endpoint.port

given : {A : Type 0} (test : Bool) (found : Option A) (x : A) → (if test then found else None) ≡ Some x → (test ≡ true) × (found ≡ Some x)
given true found x gives = (refl, gives)
given false found x gives = absurd (none-some x gives)

made_of : (host : List ℕ → Option Address) (text : List ℕ) (endpoint : Endpoint) (address : Address) (port : ℕ) → list_any (is_byte 58) text ≡ true →
    host (before_last (is_byte 58) text) ≡ Some address → port_of (after_last (is_byte 58) text) ≡ Some port →
    ◌≡◌ {A = Option Endpoint} (Some (record { address = address; port = port })) (Some endpoint) → HasParts host text endpoint
made_of host text endpoint address port colon prefix back made =
    let whole : Endpoint = record { address = address; port = port } in
    let same : whole ≡ endpoint = cc in
    subst (HasParts host text) same (record { colon = colon; host_is = prefix; port_is = back })

parts_of : (host : List ℕ → Option Address) (text : List ℕ) (endpoint : Endpoint) → endpoint_of host text ≡ Some endpoint → HasParts host text endpoint
parts_of host text endpoint gives =
    let known = given (list_any (is_byte 58) text) (host (before_last (is_byte 58) text) >>= (λ address. port_of (after_last (is_byte 58) text) >>= (λ port. Some (record { address = address; port = port })))) endpoint gives in
    option_and_then_some (λ address. port_of (after_last (is_byte 58) text) >>= (λ port. Some (record { address = address; port = port }))) (host (before_last (is_byte 58) text)) endpoint known.1 (λ address prefix rest.
    option_and_then_some (λ port. Some (record { address = address; port = port })) (port_of (after_last (is_byte 58) text)) endpoint rest (λ port back made.
    made_of host text endpoint address port known.0 prefix back made))

with_parts : (host : List ℕ → Option Address) (text : List ℕ) (endpoint : Endpoint) → HasParts host text endpoint → endpoint_of host text ≡ Some endpoint
with_parts host text endpoint known = rw (known.colon, known.host_is, known.port_is) refl

-- a host that a server's text may have is one of a listener's
star_alone : host_of (codes "*") ≡ None
unfolding dotted_of
star_alone = refl

not_star : (text : List ℕ) → ((length text == 0) || pointwise nat_eq text (codes "*")) ≡ true → host_of text ≡ None
unfolding dotted_of
not_star [] test = refl
not_star (c ∷ text) test = elim (or_cases (length (c ∷ text) == 0) (pointwise nat_eq (c ∷ text) (codes "*")) test) [
  | inl none ↦ absurd (omega (arith, eqb-true (length (c ∷ text)) 0 none))
  | inr star ↦ ap host_of (same_text (c ∷ text) (codes "*") (sym star)) ∙ star_alone
]

bind_host : (text : List ℕ) (address : Address) → host_of text ≡ Some address → bind_host_of text ≡ Some address
bind_host text address gives = elim (cases_Bool ((length text == 0) || pointwise nat_eq text (codes "*"))) [
  | inl star ↦ absurd (none-some address (sym (not_star text star) ∙ gives))
  | inr other ↦ rw other gives
]

pub servers_read_as_binds : ServersReadAsBinds
unfolding server_of bind_of
servers_read_as_binds text endpoint gives =
    let known = parts_of host_of text endpoint gives in
    with_parts bind_host_of text endpoint (record { colon = known.colon; host_is = bind_host (before_last (is_byte 58) text) endpoint.address known.host_is; port_is = known.port_is })

port_some : (text : List ℕ) (port : ℕ) → port_of text ≡ Some port → (1 ≤ port) × (port < 65536)
port_some text port gives =
    option_and_then_some (λ n. if nat_lt 0 n && nat_lt n 65536 then Some n else None) (number_of text) port gives (λ n found rest.
    let known = cond_some (nat_lt 0 n && nat_lt n 65536) n port rest in
    let parts = and_parts (nat_lt 0 n) (nat_lt n 65536) known.0 in
    (omega (arith, known.1, ltb-true 0 n parts.0), omega (arith, known.1, ltb-true n 65536 parts.1)))

pub ports_are_some : PortsAreSome
unfolding bind_of
ports_are_some text endpoint gives = port_some (after_last (is_byte 58) text) endpoint.port (parts_of bind_host_of text endpoint gives).port_is
