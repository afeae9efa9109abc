-- What is gathered for a sink.
use Rattle.std.specs.Prelude.{ℕ, List, drop}

-- of the bytes that are held, those that were not sent
abbrev pub gathered : List ℕ → ℕ → List ℕ
gathered held sent = drop sent held
