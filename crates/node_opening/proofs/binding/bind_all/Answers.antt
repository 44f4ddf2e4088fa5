use Rattle.std.proofs.Common.{◌≡◌, refl, ◌∙◌}
use Rattle.std.proofs.lemmas.Result.{err_from_is_err_and}
use Rattle.rp_base.specs.PidsLeft.{pids_left}
use Rattle.node_traces.specs.Seen.{link_seen}
use Rattle.restored_hosts.specs.Below.{numbers_of}
use Rattle.restored_hosts.proofs.Below.{none-done, one-done}
use Rattle.node_opening.proofs.Each.{fails-at}
use Rattle.node_opening.proofs.binding.bind_all.Goals as goal

pub ports-init : goal.ports-init
ports-init g c =
    let left : pids_left c.into_iter-p-iterator.result ≡ numbers_of c.args.hosts.now = cc
    (c.into_iter-p-iterator.ensures.into_iter_gives, c.iter-p-items.ensures, c.numbers.ensures) in
    record { among = none-done (numbers_of c.args.hosts.now) (pids_left c.into_iter-p-iterator.result) left; still = refl }

pub ports-preserved : goal.ports-preserved
ports-preserved g c = record {
  among = one-done (numbers_of c.args.hosts.now) (pids_left c.next.new.self) (pids_left c.ports.p-iterator) c.in-Some.p c.in-Some.ensures.steps
      c.ports.invariant.among;
  still = c.in_ok-bind_one.ensures.bound ∙ c.ports.invariant.still;
}

pub returns-in_err-bind_one-clause-failed : goal.returns-in_err-bind_one-clause-failed
returns-in_err-bind_one-clause-failed g c =
    let out = err_from_is_err_and c.from_residual.result c.from_residual.ensures.1 in
    rw out.1 (fails-at (numbers_of c.args.hosts.now) (pids_left c.next.new.self) (pids_left c.ports.p-iterator) c.in-Some.p
    (link_seen g.L.Link.sent g.L.Link.coming g.L.Link.faults c.args.link.now)
    (link_seen g.L.Link.sent g.L.Link.coming g.L.Link.faults c.ports.link)
    (link_seen g.L.Link.sent g.L.Link.coming g.L.Link.faults c.bind_one.new.link) c.in-Some.ensures.steps c.ports.invariant.among
    c.ports.invariant.still c.in_err-bind_one.ensures.failed)
