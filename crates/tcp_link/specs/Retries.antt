-- When a server refuses a connection, and when it is tried again.
use Rattle.std.specs.Prelude.{◌≡◌, ℕ, ◌-◌, Bool, true, false, ◌&&◌, ◌||◌, not, nat_eq, nat_lt, Option, Some, None, if◌then◌else◌}
use Rattle.tcp_link.specs.Closing.{reader_failed}
use Rattle.tcp_link.specs.Links.{LinkState, is_failure, must_be_accepted, waits}
use Rattle.tcp_link.specs.Losses.{no_loss}
use Rattle.tcp_link.specs.Silence.{is_silent}
use Rattle.tcp_link.specs.Ways.{told_also, unbegun_way}
use Rattle.tcp_link.specs.declared.ahead.Ahead.{Ahead}
use Rattle.tcp_link.specs.declared.end.Side.{Side}
use Rattle.tcp_link.specs.declared.end.Side.TheVariants.{Client, Server}
use Rattle.tcp_link.specs.declared.way.Way.{Way}

-- how many ms pass before a server that refused is tried again
abbrev pub pause : ℕ
pause = 1000

-- whether so much has passed since it refused
abbrev pub is_due_since : Option ℕ → ℕ → Bool
is_due_since None moment = false
is_due_since (Some refused) moment = is_silent refused moment (Some pause)

-- whether a connection waits, and its server is to be tried again at this moment
abbrev pub is_due : LinkState → ℕ → Bool
is_due link moment = is_due_since link.refused moment

-- whether a server that refuses is tried again: tries are left, nothing tells that it has accepted, and the direction to it has not failed
abbrev pub may_retry : LinkState → Bool
may_retry link = nat_lt 0 link.tries && not (must_be_accepted link) && not (is_failure link.there.step)

-- whether a report may be that of a refusal after which the server is tried again: its socket has failed
abbrev pub tells_refusal : LinkState → Side → Bool → Bool
tells_refusal link Client fails = false
tells_refusal link Server fails = fails && may_retry link

-- whether a read has failed before any gave a byte
abbrev pub fails_unread : Way → Bool
fails_unread way = reader_failed way.step && nat_eq way.direction.passage.read 0

-- its server refuses it at a moment: one try fewer is left, and the direction back begins anew. What was read of the client, and isn't written, stays
abbrev pub refused_at : ℕ → LinkState → LinkState
refused_at moment link = record link { back = unbegun_way; tries = link.tries - 1; refused = Some moment }

-- a turn found that the server refuses it
pub record IsRefused (side : Side) (fails : Bool) (moment : ℕ) (old new : LinkState) : Type 0 where
  pub tells : tells_refusal old side fails ≡ true
  pub is : new ≡ refused_at moment old

-- what a report makes of a connection that waits: what it tells of the client is kept for the next try, unless it has failed; and of the server it tells nothing
abbrev pub noted : Side → Ahead → Bool → LinkState → LinkState
noted Client ahead fails link = record link { there = told_also link.there ahead; gone = link.gone || fails }
noted Server ahead fails link = link

-- its server is tried again at a moment, by another socket: that one isn't known to be accepted, is told nothing and isn't watched for room yet
abbrev pub retried_at : ℕ → LinkState → LinkState
retried_at moment link = record link { server = moment; accepted = false; server_told = false; server_watched = false; server_wrote = None; server_loss = no_loss; refused = None }

-- the same, where the system refuses it at once: it waits once more, or stays as it is where no more is tried
abbrev pub refused_again : ℕ → LinkState → LinkState
refused_again moment link = if may_retry link then refused_at moment link else link

-- P, if it neither waited nor waits now
abbrev pub IfTried : LinkState → LinkState → Type 0 → Type 0
IfTried old new P = waits old ≡ false → waits new ≡ false → P

-- P, if it waited and its server was tried again
abbrev pub IfRetried : LinkState → LinkState → Type 0 → Type 0
IfRetried old new P = waits old ≡ true → waits new ≡ false → P
