use Rattle.stick_model.specs.Room.{is_purged}
use Rattle.stick_table.specs.Purging.{purge_limit}
use Rattle.std.proofs.Common.{◌≡◌, drop, fold, max, unwrap_or, Some}
use Rattle.std.specs.Prelude.{if◌then◌else◌}
use Rattle.stick_table.proofs.contents.room.purge_limit.Given as goal

abbrev pub invariant-loop-entry : goal.invariant-loop-entry
invariant-loop-entry l =
    fold (λ limit entry. if is_purged l.purge l.tickets l.records entry then Some (max (unwrap_or limit 0) entry.1.stamp) else limit) l.limit (drop l.entry-index l.records)
    ≡ purge_limit l.purge l.tickets l.records
