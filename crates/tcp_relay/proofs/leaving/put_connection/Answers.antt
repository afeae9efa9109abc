use Rattle.std.proofs.Common.{◌+◌, ◌<◌, ℕ, sym, subst, ◌∙◌, arith, length}
use Rattle.std.specs.Prelude.{IfSome}
use Rattle.shard_book.specs.SeatState.{RefState}
use Rattle.rule_model.specs.declared.actions.Slot.TheVariants.{Sc0, Sc1, Sc2}
use Rattle.admit_core.specs.Conn.{progress_of}
use Rattle.tcp_relay.specs.Seating.{HaveFew, HaveRoom}
use Rattle.tcp_relay.proofs.SeatingLemmas.{room_less}
use Rattle.tcp_relay.proofs.ConnectionLemmas.{within}
use Rattle.tcp_relay.proofs.leaving.put_connection.Goals as goal

pub put_held-requires-clause-table : goal.put_held-requires-clause-table
put_held-requires-clause-table g c =
    subst (λ n. IfSome c.end-first.result.0 (λ (entry : ℕ × RefState). entry.0 < n)) (sym c.requires.tables)
    (within g.W.Width.tables (progress_of c.args.connection.conn).held Sc0 c.end-first.result.0 c.args.connection.is.held c.end-first.ensures.sc0)

pub put_held-requires-2-clause-table : goal.put_held-requires-2-clause-table
put_held-requires-2-clause-table g c =
    subst (λ n. IfSome c.end-first.result.1 (λ (entry : ℕ × RefState). entry.0 < n)) (sym (c.put_held.ensures.tables ∙ c.requires.tables))
    (within g.W.Width.tables (progress_of c.args.connection.conn).held Sc1 c.end-first.result.1 c.args.connection.is.held c.end-first.ensures.sc1)

pub put_held-requires-2-clause-room : goal.put_held-requires-2-clause-room
put_held-requires-2-clause-room g c = room_less 1 2 c.put_held.new.refs.items (omega (arith)) (c.put_held.ensures.room 2 c.requires.room)

pub put_held-requires-3-clause-table : goal.put_held-requires-3-clause-table
put_held-requires-3-clause-table g c =
    subst (λ n. IfSome c.end-first.result.2 (λ (entry : ℕ × RefState). entry.0 < n)) (sym (c.put_held-2.ensures.tables ∙ c.put_held.ensures.tables ∙ c.requires.tables))
    (within g.W.Width.tables (progress_of c.args.connection.conn).held Sc2 c.end-first.result.2 c.args.connection.is.held c.end-first.ensures.sc2)

pub put_held-requires-3-clause-room : goal.put_held-requires-3-clause-room
put_held-requires-3-clause-room g c = c.put_held-2.ensures.room 1 (c.put_held.ensures.room 2 c.requires.room)

pub returns-clause-more : goal.returns-clause-more
returns-clause-more g c most places few =
    subst (λ n. HaveFew n places c.put_held-3.new.refs.items) (omega (arith))
    (c.put_held-3.ensures.more (most + 1 + 1) places (c.put_held-2.ensures.more (most + 1) places (c.put_held.ensures.more most places few)))

pub returns-clause-room : goal.returns-clause-room
returns-clause-room g c spare has =
    c.put_held-3.ensures.room spare (c.put_held-2.ensures.room (spare + 1) (c.put_held.ensures.room (spare + 1 + 1)
    (subst (λ n. HaveRoom n c.args.refs.now.items) (omega (arith)) has)))
