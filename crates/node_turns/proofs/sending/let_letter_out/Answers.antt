use Rattle.std.proofs.Common.{[], ◌∷◌, refl}
use Rattle.std.proofs.lemmas.Result.{on_ok_weaker}
use Rattle.node_defs.specs.Casts.{cast_of}
use Rattle.node_defs.specs.Lines.{fault_line}
use Rattle.letting_laws.specs.Letting.{edge}
use Rattle.node_turns.specs.Letters.{link_seen, sends_of}
use Rattle.letting_laws.proofs.Joined.{begun-with, failed-one, sent-one}
use Rattle.node_turns.proofs.Sent.{on-err}
use Rattle.node_turns.proofs.sending.let_letter_out.Goals as goal

pub returns-in-Ok-clause-out : goal.returns-in-Ok-clause-out
returns-in-Ok-clause-out g c = λ version at h.
    sent-one (cast_of c.args.speaker.now.kit.now version) at c.args.speaker.now.me c.args.to c.args.frame.now
    (link_seen g.L.Link.sent g.L.Link.coming g.L.Link.faults c.args.link.now)
    (link_seen g.L.Link.sent g.L.Link.coming g.L.Link.faults c.send_letter.new.link) [] c.args.late.now.items h (c.in-Ok.ensures version)

pub returns-in-Err-clause-out : goal.returns-in-Err-clause-out
returns-in-Err-clause-out g c = λ version at h. on_ok_weaker c.push_fault.result (λ pushed.
    failed-one (cast_of c.args.speaker.now.kit.now version) at c.args.speaker.now.me c.args.to c.args.frame.now
    (link_seen g.L.Link.sent g.L.Link.coming g.L.Link.faults c.args.link.now)
    (link_seen g.L.Link.sent g.L.Link.coming g.L.Link.faults c.send_letter.new.link) [] c.args.late.now.items c.push_fault.new.out.items h
    (c.in-Err.ensures version) pushed) c.push_fault.ensures.pushed

pub returns-in-Err-clause-begun : goal.returns-in-Err-clause-begun
returns-in-Err-clause-begun g c = λ version at h.
    let cast = cast_of c.args.speaker.now.kit.now version in
    let me = c.args.speaker.now.me in
    let k = link_seen g.L.Link.sent g.L.Link.coming g.L.Link.faults c.args.link.now in
    let l = link_seen g.L.Link.sent g.L.Link.coming g.L.Link.faults c.send_letter.new.link in
    on-err c.push_fault.result
    (begun-with cast at (sends_of me ((c.args.to, c.args.frame.now) ∷ [])) (edge k [] [] h) (edge l [] (fault_line me) h)
    (failed-one cast at me c.args.to c.args.frame.now k l [] [] (fault_line me) h (c.in-Err.ensures version) refl))
