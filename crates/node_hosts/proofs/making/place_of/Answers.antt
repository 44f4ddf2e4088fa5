use Rattle.std.proofs.Common.{sym, ap, ◌∙◌}
use Rattle.byte_defs.specs.Members.{has}
use Rattle.node_hosts.proofs.Starting.{placed}
use Rattle.node_hosts.proofs.making.place_of.Goals as goal

pub returns-clause-starts : goal.returns-clause-starts
returns-clause-starts c = λ version. placed c.args.kit.now version c.args.number c.in-Some.me c.args.batch_limit c.in_ok-host.host
    c.in-Some.ensures.value (ap (λ ps. has ps c.in-Some.me) (sym c.hosted.ensures) ∙ sym c.if-not-contains.ensures)
    (c.in_ok-host.ensures.starts version)
