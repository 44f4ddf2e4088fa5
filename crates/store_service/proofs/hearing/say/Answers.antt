use Rattle.std.proofs.Common.{◌≡◌, ◌∙◌}
use Rattle.std.specs.Prelude.{◌==◌}
use Rattle.std.specs.List.{position_from}
use Rattle.node_service.specs.Histories.{cast_of}
use Rattle.store_server.specs.Places.{payloads_of}
use Rattle.store_service.specs.Served.{whose}
use Rattle.store_service.proofs.Hosted.{me-so}
use Rattle.store_service.proofs.Worded.{no-server}
use Rattle.store_service.proofs.hearing.say.Goals as goal

pub returns-in-Some : goal.returns-in-Some
returns-in-Some c = λ version p now xs is are.
    let me : c.me.result ≡ p = me-so c.args.process.now c.core.result.now c.core.ensures (cast_of c.args.kit.now version) p now is c.me.result
    (λ s q at. c.me.ensures.process s q at) in
    c.say_at.ensures version p now xs is
    (c.in-Some.ensures.place ∙ (λ i. position_from (λ x. whose x == me i) 0 (c.deref.ensures.value i))) are

pub returns-in-None : goal.returns-in-None
returns-in-None c = λ version p now xs is are.
    let me : c.me.result ≡ p = me-so c.args.process.now c.core.result.now c.core.ensures (cast_of c.args.kit.now version) p now is c.me.result
    (λ s q at. c.me.ensures.process s q at) in
    no-server (cast_of c.args.kit.now version) (payloads_of now.delivered) p c.args.line.now xs c.args.servers.now.items are
    (c.in-None.ensures.place ∙ (λ i. position_from (λ x. whose x == me i) 0 (c.deref.ensures.value i)))
