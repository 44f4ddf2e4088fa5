use Rattle.std.proofs.Common.{refl}
use Rattle.std.proofs.lemmas.Str.{IsUtf8-from_is_utf8}
use Rattle.node_defs.specs.Casts.{cast_of}
use Rattle.node_receiving.proofs.Handed.{host-is, not-missing}
use Rattle.node_serving.proofs.Heard.{can-all, none-so, says-all}
use Rattle.node_serving.proofs.serving.hear.Goals as goal

pub unreachable-requires : goal.unreachable-requires
unreachable-requires g c = c.in_default.ensures.cases.0 (IsUtf8-from_is_utf8 c.args.line.now c.requires.text)

pub unreachable-requires-in_default-host : goal.unreachable-requires-in_default-host
unreachable-requires-in_default-host g c = not-missing c.args.running.now.kit.now c.args.running.now.hosts c.args.me c.requires.hosts
    c.requires.hosted (λ k kit now out are other. c.in_default-host.ensures k kit now out are other)

pub returns-in-Ok-true-clause-says : goal.returns-in-Ok-true-clause-says
returns-in-Ok-true-clause-says g c = λ version now h has are.
    let kit = c.args.running.now.kit.now in
    let host = host-is (cast_of kit version) kit now c.args.running.now.hosts c.args.me c.in-Some.host.now are
    (λ k kit now out are other. c.in-Some.ensures k kit now out are other) in
    says-all g.V.Service.heard c.word.new.self h (cast_of kit version) c.args.me (now c.args.me) c.args.line.now _ _ _ _ _
    c.in-Ok.ensures.cases.0 c.new-said.ensures.items c.new-sends.ensures.items
    (rw c.in-Ok-true.field-0-test at c.in-Ok-true.ensures.answers version c.args.me (now c.args.me) h has host.process)

pub returns-in-Ok-true-clause-can : goal.returns-in-Ok-true-clause-can
returns-in-Ok-true-clause-can g c = λ version now are.
    let kit = c.args.running.now.kit.now in
    let begun = g.V.Service.begun c.args.service.now in
    let host = host-is (cast_of kit version) kit now c.args.running.now.hosts c.args.me c.in-Some.host.now are
    (λ k kit now out are other. c.in-Some.ensures k kit now out are other) in
    can-all g.V.Service.heard c.word.new.self begun.history (cast_of kit version) c.args.me (now c.args.me) c.args.line.now _ _ _ _ _
    c.in-Ok.ensures.cases.0 c.new-said.ensures.items c.new-sends.ensures.items
    (rw c.in-Ok-true.field-0-test at c.in-Ok-true.ensures.answers version c.args.me (now c.args.me) begun.history begun.has host.process)

pub returns-in-Ok-false-clause-none : goal.returns-in-Ok-false-clause-none
returns-in-Ok-false-clause-none g c = λ version now h has are.
    let kit = c.args.running.now.kit.now in
    let host = host-is (cast_of kit version) kit now c.args.running.now.hosts c.args.me c.in-Some.host.now are
    (λ k kit now out are other. c.in-Some.ensures k kit now out are other) in (
      refl,
      none-so g.V.Service.heard c.word.new.self h (cast_of kit version) c.args.me (now c.args.me) c.args.line.now _ _ _ _ _
          c.in-Ok.ensures.cases.0
          (rw c.in-Ok-false.field-0-test at c.in-Ok-false.ensures.answers version c.args.me (now c.args.me) h has host.process),
    )

pub returns-in-Err-clause-none : goal.returns-in-Err-clause-none
returns-in-Err-clause-none g c = λ version now h has are. c.in-Err.ensures.lost h has
