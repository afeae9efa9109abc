use Rattle.std.proofs.Common.{◌≡◌, ◌++◌, ℕ, true, List, [], filter, length, ap, refl, sym, subst, append-nil, rules, arith, ◌∙◌}
use Rattle.byte_ports.proofs.Pieces.{grown_twice}
use Rattle.base_lines.specs.Parts.{parts, is_byte}
use Rattle.base_lines.proofs.ChainLemmas.{does_none, does_more, does_stop}
use Rattle.table_cli.specs.Answers.{Answers, has_words}
use Rattle.shard_book.specs.NamedTables.{states_of}
use Rattle.table_cli.specs.States.{CommandState}
use Rattle.table_cli.proofs.TableLemmas.{filter_first, length-without_cr}
use Rattle.table_cli.proofs.serve.answer.Goals as goal

pub loop-command-init : goal.loop-command-init
loop-command-init g c = record {
  answered = (
    [],
    does_none (Answers g.K.Keeper.answers g.K.Keeper.refuses g.C.Clock.shows) _ _ _ (ap (filter has_words) (c.new-commands.ensures.parts ∙ ap (λ line. parts (is_byte 59) line) c.without_cr.ensures)),
    λ shown. sym (append-nil _),
  );
  bound = omega (arith, c.new-commands.ensures.few, ap length c.without_cr.ensures, length-without_cr c.args.line.now);
  failures = refl;
}

pub loop-command-preserved : goal.loop-command-preserved
loop-command-preserved g c =
    let so_far = c.loop-command.invariant.answered in
    let here = c.in-Ok.ensures.answer in
    let worded : has_words c.in-Some.command.now ≡ true = sym c.has_words.ensures ∙ c.if-not-has_words.false in
    record {
      answered = (
        so_far.0 ++ here.0,
        does_more (Answers g.K.Keeper.answers g.K.Keeper.refuses g.C.Clock.shows) _ _ _ _ _ _ _ _ _ _ (filter_first has_words _ _ _ c.in-Some.ensures worded) so_far.1 here.1,
        grown_twice _ _ _ _ _ _ so_far.2 here.2,
      );
      bound = omega (arith, ap length c.in-Some.ensures, c.loop-command.invariant.bound);
      failures = search rules;
    }

pub returns-in-Err-clause-part : goal.returns-in-Err-clause-part
returns-in-Err-clause-part g c =
    let K = g.K.Keeper in
    let C = g.C.Clock in
    let so_far = c.loop-command.invariant.answered in
    let here = c.in-Err.ensures.answer in
    let prefix = here.2 in
    let worded : has_words c.in-Some.command.now ≡ true = sym c.has_words.ensures ∙ c.if-not-has_words.false in
    let before : CommandState K.State C.State = record { tables = states_of K.table K.parts K.state c.loop-command.tables; clock = C.state c.loop-command.clock } in
    let after : CommandState K.State C.State = record { tables = states_of K.table K.parts K.state c.answer_command.new.tables; clock = C.state c.answer_command.new.clock } in
    let could = subst (λ (text : List ℕ). Answers K.answers K.refuses C.shows before c.in-Some.command.now text after) prefix.1.1 here.1 in (
      so_far.0 ++ prefix.0,
      does_stop (Answers K.answers K.refuses C.shows) _ _ _ _ _ _ _ _ _ _ _ (filter_first has_words _ _ _ c.in-Some.ensures worded) so_far.1 could,
      grown_twice _ _ _ _ _ _ so_far.2 prefix.2,
    )
