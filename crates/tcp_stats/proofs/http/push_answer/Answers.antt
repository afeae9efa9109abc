use Rattle.std.proofs.Common.{◌≡◌, ◌++◌, rules, length}
use Rattle.tcp_stats.specs.Http.{allowed, length_text, sent, start_text}
use Rattle.tcp_stats.proofs.Joins.{joined}
use Rattle.tcp_stats.proofs.http.push_answer.Goals as goal

pub returns : goal.returns
returns c =
    let sized : c.push_length.new.text.items ≡ c.args.text.now.items ++ (start_text c.args.request ++ length_text (length c.args.body.now)) =
    joined _ _ _ c.in_ok-push_start.ensures c.in_ok-push_length.ensures in
    let allowing : c.extend_from_slice.new.self.items ≡ c.push_length.new.text.items ++ allowed c.args.request = search rules in
    let sending : c.extend_from_slice-3.new.self.items ≡ c.extend_from_slice-2.new.self.items ++ sent c.args.request c.args.body.now = search rules in
    joined _ _ _ (joined _ _ _ (joined _ _ _ sized allowing) c.in_ok-extend_from_slice-2.ensures.items) sending
