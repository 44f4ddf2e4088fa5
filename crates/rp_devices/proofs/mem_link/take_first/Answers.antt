use Rattle.std.proofs.Common.{◌<◌, length, subst, rules}
use Rattle.rp_devices.specs.Links.{all_of, TakesFirst}
use Rattle.rp_devices.proofs.Ports.{taken_at, same_port}
use Rattle.rp_devices.proofs.mem_link.take_first.Goals as goal

pub returns-then-index-port-clause-found : goal.returns-then-index-port-clause-found
returns-then-index-port-clause-found c =
    let xs = c.loop-at.from.items in
    let lt : c.loop-at.at < length xs = search rules in
    subst (λ v. TakesFirst (all_of v) (all_of c.remove.new.self) c.args.port c.remove.result.bytes.items) c.loop-at.invariant.0
    (taken_at xs c.remove.new.self.items c.loop-at.at c.remove.result c.args.port lt c.remove.ensures.value c.remove.ensures.items
    (same_port xs c.loop-at.at c.remove.result c.index.result.now c.args.port lt c.remove.ensures.value c.index.ensures
    c.if-index-port.true) c.loop-at.invariant.1)
