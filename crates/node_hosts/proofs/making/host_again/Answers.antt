use Rattle.node_hosts.proofs.Starting.{port-is}
use Rattle.node_hosts.proofs.making.host_again.Goals as goal

pub returns-clause-is : goal.returns-clause-is
returns-clause-is c = λ version p is. record {
  process = is;
  keys = c.link_keys.ensures;
  port = port-is c.args.kit.now version c.args.me c.port_of.result c.port_of.ensures;
}
