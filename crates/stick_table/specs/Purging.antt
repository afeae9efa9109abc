-- The records that are purged, by the greatest of their stamps.
use Rattle.std.specs.Prelude.{ℕ, Option, Some, None, List, fold, max, unwrap_or, if◌then◌else◌}
use Rattle.stick_model.specs.Key.{Key}
use Rattle.stick_model.specs.Room.{is_purged}
use Rattle.stick_model.specs.declared.rows.Ticket.{Ticket}
use Rattle.stick_model.specs.declared.rows.Record.{Record}

-- the greatest stamp among the records that are purged
abbrev pub purge_limit : ℕ → List (Ticket × Key) → List (Key × Record) → Option ℕ
purge_limit purge tickets records =
    fold (λ limit (entry : Key × Record). if is_purged purge tickets records entry then Some (max (unwrap_or limit 0) entry.1.stamp) else limit) None records
