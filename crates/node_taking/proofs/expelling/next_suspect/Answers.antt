use Rattle.node_defs.specs.Casts.{cast_of}
use Rattle.node_taking.proofs.Lent.{host-is, not-missing}
use Rattle.node_taking.proofs.expelling.next_suspect.Goals as goal

pub unreachable-requires : goal.unreachable-requires
unreachable-requires g c = not-missing c.args.running.now.kit.now c.args.running.now.hosts c.args.me c.requires.hosts c.requires.hosted
    (λ k kit now out are other. c.in_default.ensures k kit now out are other)

pub returns-clause-names : goal.returns-clause-names
returns-clause-names g c = λ version now h has are.
    let kit = c.args.running.now.kit.now in
    c.suspects.ensures.names version c.args.me (now c.args.me) h has
    (host-is (cast_of kit version) kit now c.args.running.now.hosts c.args.me c.in-Some.host.now are
    (λ k kit now out are other. c.in-Some.ensures k kit now out are other)).process
