use Rattle.auth_link.specs.Keys.{known}
use Rattle.node_defs.specs.Casts.{cast_of}
use Rattle.node_taking.proofs.Lent.{host-is, not-missing}
use Rattle.node_receiving.proofs.Opened.{from-other, opened-so}
use Rattle.node_receiving.proofs.hosting.open_datagram.Goals as goal

pub unreachable-requires : goal.unreachable-requires
unreachable-requires c = not-missing c.args.running.now.kit.now c.args.running.now.hosts c.args.me c.requires.hosts c.requires.hosted
    (λ k kit now out are other. c.in_default.ensures k kit now out are other)

pub returns-clause-opened : goal.returns-clause-opened
returns-clause-opened c = λ version.
    let kit = c.args.running.now.kit.now in
    let some = c.requires.hosts in
    let is = host-is (cast_of kit some.version) kit some.now c.args.running.now.hosts c.args.me c.in-Some.host.now some.are
    (λ k kit now out are other. c.in-Some.ensures k kit now out are other) in
    opened-so kit c.args.me (known c.in-Some.host.now.keys) c.args.datagram.now c.unseal.result is.keys c.unseal.ensures.exact

pub returns-clause-other : goal.returns-clause-other
returns-clause-other c =
    let kit = c.args.running.now.kit.now in
    let some = c.requires.hosts in
    let is = host-is (cast_of kit some.version) kit some.now c.args.running.now.hosts c.args.me c.in-Some.host.now some.are
    (λ k kit now out are other. c.in-Some.ensures k kit now out are other) in
    from-other kit c.args.me (known c.in-Some.host.now.keys) c.args.datagram.now c.unseal.result c.args.running.now.valid is.keys
    c.unseal.ensures.found
