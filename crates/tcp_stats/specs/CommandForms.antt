-- What a command of the stats socket asks.
use Rattle.std.specs.Prelude.{ℕ, Option, List}
use Rattle.tcp_stats.specs.declared.typed.Format.{Format}
use Rattle.tcp_stats.specs.declared.stat_query.Bound.{Bound}

-- which rows of show stat: those of a proxy, by its number or name, of kinds, as the sum of their numbers, and of a server, by its number
pub record Query : Type 0 where
  pub proxy : List ℕ
  pub kinds : Bound
  pub server : Bound
  pub format : Format

-- what a command asks: shutdown names a frontend, by no bytes where no name was given; help has words
pub data Command : Type 0 where
  ShowInfo : Format → Command
  ShowStat : Query → Command
  ShowErrors : Command
  Help : List (List ℕ) → Command
  Prompt : Command
  Quit : Command
  ShutdownFrontend : List ℕ → Command
  Stop : Option ℕ → Command
  Reload : Command
  OldestFirst : List ℕ → Command
  Table : Command
  Empty : Command
  Unknown : Command
