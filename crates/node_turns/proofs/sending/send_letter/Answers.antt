use Rattle.std.proofs.Common.{take, ◌∙◌}
use Rattle.node_turns.specs.Letters.{link_seen}
use Rattle.node_turns.proofs.Sent.{letter-sent, sealed-so, sent-so, shares-key}
use Rattle.node_turns.proofs.sending.send_letter.Goals as goal

pub seal_into-len-requires-clause-shared : goal.seal_into-len-requires-clause-shared
seal_into-len-requires-clause-shared g c = shares-key c.args.speaker.now.kit.now c.args.speaker.now.me c.args.to c.args.speaker.now.keys.now
    c.args.speaker.now.knows c.requires.sealable.shared

pub returns : goal.returns
returns g c = λ version.
    let k = link_seen g.L.Link.sent g.L.Link.coming g.L.Link.faults c.args.link.now in
    let l = link_seen g.L.Link.sent g.L.Link.coming g.L.Link.faults c.send.new.self in
    let bytes = c.split_at.result.0.now in
    letter-sent c.args.speaker.now.kit.now version c.args.speaker.now.me c.args.to c.args.frame.now bytes c.port.result c.send.result k l
    c.port.ensures
    (c.split_at.ensures.front ∙ sealed-so c.args.speaker.now.kit.now c.args.speaker.now.me c.args.to c.args.frame.now
    (take c.seal_into-len.result c.seal_into-len.new.out) c.args.speaker.now.keys.now
    c.args.speaker.now.knows c.requires.sealable.shared c.seal_into-len.ensures.sealed)
    (sent-so c.send.result k l c.port.result bytes c.send.ensures.ok c.send.ensures.err c.send.ensures.cause)
