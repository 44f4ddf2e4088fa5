use Rattle.node_defs.specs.Casts.{cast_of}
use Rattle.node_taking.proofs.Lent.{host-is, not-missing}
use Rattle.node_receiving.proofs.hosting.port_of.Goals as goal

pub unreachable-requires : goal.unreachable-requires
unreachable-requires c = not-missing c.args.running.now.kit.now c.args.running.now.hosts c.args.me c.requires.hosts c.requires.hosted
    (λ k kit now out are other. c.in_default.ensures k kit now out are other)

pub returns : goal.returns
returns c = λ version.
    let some = c.requires.hosts in
    (host-is (cast_of c.args.running.now.kit.now some.version) c.args.running.now.kit.now some.now c.args.running.now.hosts c.args.me
    c.in-Some.host.now some.are (λ k kit now out are other. c.in-Some.ensures k kit now out are other)).port
