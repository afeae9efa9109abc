use Rattle.std.proofs.Common.{codes, decimal}
use Rattle.proxy_header.specs.Written.{text_of}
use Rattle.proxy_header.proofs.TextLemmas.{words_written}
use Rattle.proxy_header.proofs.line_written.push_ends.Goals as goal

pub returns : goal.returns
returns c =
    words_written c.args.text.now (text_of c.args.ends.now.source) (text_of c.args.ends.now.destination)
    (decimal c.args.ends.now.source_port) (decimal c.args.ends.now.destination_port) (codes "\r\n") _ _ _ _ _ _ _ _
    c.push_address.ensures.text c.push.ensures c.push_address-2.ensures.text c.push-2.ensures c.push_port.ensures.text c.push-3.ensures
    c.push_port-2.ensures.text c.push-4.ensures
