use Rattle.std.proofs.Common.{◌≡◌}
use Rattle.node_service.specs.Words.{numbers_of, pids_left}
use Rattle.store_service.proofs.Begun.{all-begun, none-yet, one-more}
use Rattle.store_service.proofs.beginning.begin_all.Goals as goal

pub hosts-init : goal.hosts-init
hosts-init c =
    let left : pids_left c.into_iter-p-iterator.result ≡ numbers_of c.args.hosts.now = cc
    (c.into_iter-p-iterator.ensures.into_iter_gives, c.iter-p-items.ensures, c.numbers.ensures) in
    none-yet c.args.kit.now c.args.hosts.now c.new-servers.result.items (pids_left c.into_iter-p-iterator.result) left c.new-servers.ensures.items

pub hosts-preserved : goal.hosts-preserved
hosts-preserved c =
    one-more c.args.kit.now c.args.hosts.now c.hosts.servers.items (pids_left c.hosts.p-iterator) (pids_left c.next.new.self) c.in-Some.p
    c.in-Some.ensures.steps c.hosts.invariant c.begin_one.new.servers.items
    (λ version now xs hosted among are. c.in_ok-begin_one.ensures version now xs hosted among are)

pub returns : goal.returns
returns c = λ version now hosted.
    all-begun c.args.kit.now c.args.hosts.now c.hosts.servers.items (pids_left c.hosts.p-iterator) c.in-None.ensures.steps.0 c.hosts.invariant
    version now hosted
