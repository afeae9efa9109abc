use Rattle.std.proofs.Common.{◌≡◌, ◌^◌, ◌∷◌, All, length, List, sym, ◌∙◌, ap, subst, arith}
use Rattle.std.proofs.lemmas.List.Elements.{All-head, All-tail}
use Rattle.stick_model.specs.declared.replies.Reply.{Reply}
use Rattle.shard_book.specs.Total.{IsCounted}
use Rattle.shard_book.proofs.TotalLemmas.{so_far_counted-more, total_from-more}
use Rattle.shard_book.proofs.joining.total_of.Goals as goal

pub loop-reply-preserved : goal.loop-reply-preserved
loop-reply-preserved c =
    let here = c.loop-reply.invariant in
    let rest : List Reply = c.loop-reply.reply-iterator.rest.items in
    let left : List Reply = c.next.new.self.rest.items in
    let reply : Reply = c.in-Some.reply in
    let all : Reply = c.in_ok-added.field-0 in
    let steps : rest ≡ reply ∷ left = c.in-Some.ensures.steps.0 in
    let counted = subst (All (IsCounted (2 ^ 30))) steps here.counted in
    record {
      total = sym (total_from-more c.loop-reply.so_far reply all rest left steps c.in_ok-added.ensures.added) ∙ here.total;
      so_far = so_far_counted-more c.loop-reply.so_far reply all rest left (length c.args.replies.items) steps c.in_ok-added.ensures.added here.few here.so_far (All-head (IsCounted (2 ^ 30)) reply left counted);
      counted = All-tail (IsCounted (2 ^ 30)) reply left counted;
      few = omega (arith, ap length steps, here.few);
    }
