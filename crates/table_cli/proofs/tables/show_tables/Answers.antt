use Rattle.std.proofs.Common.{◌≡◌, ◌<◌, ℕ, length, get_or, refl, ap, subst, inl, inr, arith, rules}
use Rattle.std.proofs.lemmas.List.{length-map}
use Rattle.table_cli.specs.Answers.{HeadsOf}
use Rattle.shard_book.specs.NamedTables.{state_of, states_of}
use Rattle.table_cli.proofs.TableLemmas.{ends_head, head_at, heads_more, says_head}
use Rattle.table_cli.proofs.tables.show_tables.Goals as goal

pub returns-in-Err : goal.returns-in-Err
returns-in-Err g c =
    let K = g.K.Keeper in
    let here = c.loop-place.invariant in
    let tables = c.loop-place.tables in
    let at = c.index-tables-place in
    let asked = c.in-Err.ensures.asks in
    let within : c.loop-place.place < length tables = omega (arith, here.size, c.loop-place-test.true) in
    let below : c.loop-place.place < length (states_of K.table K.parts K.state c.args.tables.now) = omega (arith, length-map c.args.tables.now (state_of K.table K.parts K.state), here.size, within) in
    inr (
      c.loop-place.place,
      c.loop-place.text.items,
      states_of K.table K.parts K.state tables,
      c.in-Err.message,
      below,
      here.heads,
      head_at K.answers K.refuses K.table K.parts K.state c.args.moment tables c.loop-place.place (get_or tables c.loop-place.place at.result) c.push_head.new.named asked.0 asked.1 _
          within (ap (λ d. get_or tables c.loop-place.place d) at.is) c.push_head.ensures.name c.push_head.ensures.table c.push_head.ensures.parts asked.2 (ends_head (state_of K.table K.parts K.state (get_or tables c.loop-place.place at.result)) asked.0 asked.1 _ asked.3),
      refl,
    )

pub loop-place-preserved : goal.loop-place-preserved
loop-place-preserved g c =
    let K = g.K.Keeper in
    let here = c.loop-place.invariant in
    let tables = c.loop-place.tables in
    let at = c.index-tables-place in
    let asked = c.in-Ok.ensures.asks in
    let within : c.loop-place.place < length tables = omega (arith, here.size, c.loop-place-test.true) in
    let head = head_at K.answers K.refuses K.table K.parts K.state c.args.moment tables c.loop-place.place (get_or tables c.loop-place.place at.result) c.push_head.new.named asked.0 asked.1 _
    within (ap (λ d. get_or tables c.loop-place.place d) at.is) c.push_head.ensures.name c.push_head.ensures.table c.push_head.ensures.parts asked.2 (says_head (state_of K.table K.parts K.state (get_or tables c.loop-place.place at.result)) asked.0 asked.1 asked.3.0) in
    record {
      heads = rw asked.3.1 (heads_more K.answers K.refuses c.args.moment c.loop-place.place _ _ _ _ _ here.heads head);
      size = search rules;
      within = omega (arith, c.loop-place-test.true);
      end = refl;
    }

pub returns-in-Ok-extend_from_slice : goal.returns-in-Ok-extend_from_slice
returns-in-Ok-extend_from_slice g c =
    let K = g.K.Keeper in
    let here = c.loop-place.invariant in
    let before = states_of K.table K.parts K.state c.args.tables.now in
    let all : c.loop-place.place ≡ length before = omega (arith, length-map c.args.tables.now (state_of K.table K.parts K.state), here.within, c.loop-place-test.false) in
    inl (
      c.loop-place.text.items,
      subst (λ (n : ℕ). HeadsOf K.answers K.refuses c.args.moment n before c.loop-place.text.items (states_of K.table K.parts K.state c.loop-place.tables)) all here.heads,
      inl c.in-Ok-extend_from_slice.ensures.items,
    )

pub returns-in-Err-extend_from_slice : goal.returns-in-Err-extend_from_slice
returns-in-Err-extend_from_slice g c =
    let K = g.K.Keeper in
    let here = c.loop-place.invariant in
    let before = states_of K.table K.parts K.state c.args.tables.now in
    let all : c.loop-place.place ≡ length before = omega (arith, length-map c.args.tables.now (state_of K.table K.parts K.state), here.within, c.loop-place-test.false) in
    inl (
      c.loop-place.text.items,
      subst (λ (n : ℕ). HeadsOf K.answers K.refuses c.args.moment n before c.loop-place.text.items (states_of K.table K.parts K.state c.loop-place.tables)) all here.heads,
      inr refl,
    )
