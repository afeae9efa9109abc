use Rattle.std.proofs.Common.{◌≡◌, ◌+◌, ◌*◌, All, length, take, vec_len}
use Rattle.tcp_proxy.specs.Opened.{AreDeclared}
use Rattle.tcp_proxy.proofs.opening.open_tables.Given as goal

abbrev pub invariant-loop-table : goal.invariant-loop-table
invariant-loop-table g l =
    AreDeclared l.setup.shards l.keep (take l.table l.setup.tables) l.opened.tables.items
    × (length l.opened.workers.items ≡ l.table)
    × All (λ seats. vec_len seats ≡ l.workers) l.opened.workers.items
    × (length l.opened.commands.items ≡ l.table)
    × All (λ seats. vec_len seats ≡ l.clients) l.opened.commands.items
    × (length l.opened.keepers.items ≡ l.table)
    × (l.dealer ≡ record l.fn.dealer { kept = l.fn.dealer.kept + l.setup.shards * l.table; seated = l.fn.dealer.seated + (l.workers + l.clients + 1) * l.table })
