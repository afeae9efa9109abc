use Rattle.std.proofs.Common.{length}
use Rattle.tcp_relay.specs.Accepting.{most_of}
use Rattle.tcp_relay.specs.Arrivals.{trust_of}
use Rattle.tcp_relay.specs.Seating.{stores_current}
use Rattle.tcp_relay.proofs.serving.serve.Given as goal

-- as many tables as there are, in as many shards and storing what the setup says, which judges, and as many connections of a worker as its share is at most
abbrev pub ghosts-serve_wide : goal.ghosts-serve_wide
ghosts-serve_wide g a = record { tables = length a.tables.now; shards = a.setup.now.shards; current = stores_current a.setup.now; most = most_of a.limits.connections a.threads; setup = a.setup.now; trust = trust_of a.limits.proxies }
