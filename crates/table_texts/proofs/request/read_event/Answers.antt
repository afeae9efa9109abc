use Rattle.std.proofs.Common.{sym, subst}
use Rattle.table_texts.specs.declared.form.Request.{Request}
use Rattle.table_texts.specs.Request.{Asks}
use Rattle.table_texts.specs.Seen.{seen_request}
use Rattle.table_texts.proofs.request.read_event.Goals as goal

pub returns-in-Clear-clause-asks : goal.returns-in-Clear-clause-asks
returns-in-Clear-clause-asks c =
    subst (λ (request : Request). Asks c.args.kind c.args.moment (seen_request request) c.read_clear.result) (sym c.in-Clear.is) c.read_clear.ensures.clear
