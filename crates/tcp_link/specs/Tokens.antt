-- By what the system names the sockets of a connection.
use Rattle.std.specs.Prelude.{◌≡◌, ℕ, ◌+◌, ◌*◌, ◌/◌, ◌%◌, ◌^◌, ◌<◌, ◌==◌, if◌then◌else◌}
use Rattle.mio.specs.declared.token.Token.{Token}
use Rattle.tcp_link.specs.declared.end.Side.{Side}
use Rattle.tcp_link.specs.declared.end.Side.TheVariants.{Client, Server}

-- twice the connection's number, and one more for its server
abbrev pub token : Side → ℕ → Token
token Client number = record { 0 = (number * 2) % 2 ^ 64 }
token Server number = record { 0 = ((number * 2) % 2 ^ 64 + 1) % 2 ^ 64 }

-- whose socket a token names: the client's where it is even
abbrev pub side_of : Token → Side
side_of name = if name.0 % 2 == 0 then Client else Server

-- the socket of which connection
abbrev pub number_of : Token → ℕ
number_of name = name.0 / 2

-- where a token was made for an end of a connection, it tells of no other
abbrev pub Tells : Token → ℕ → Side → Type 0
Tells name number side = (of : Side) (which : ℕ) → which < 2 ^ 63 → name ≡ token of which → (number ≡ which) × (side ≡ of)
