use Rattle.std.proofs.Common.{◌≡◌, ◌++◌, ap, map, subst, ◌∙◌}
use Rattle.std.specs.Prelude.{IsTrue}
use Rattle.byte_defs.specs.Members.{has}
use Rattle.rp_base.specs.PidsLeft.{pids_left}
use Rattle.node_snapshots.specs.Parts.{part_as}
use Rattle.node_serving.specs.Hosts.{numbers_of}
use Rattle.node_serving.proofs.Handed.{is-one, none-done, one-done}
use Rattle.node_snapping.specs.Snapping.{part_now}
use Rattle.node_snapping.proofs.Each.{all-put, one-put}
use Rattle.node_snapping.proofs.parts.parts_of.Goals as goal

pub hosts-init : goal.hosts-init
hosts-init c =
    let left : pids_left c.into_iter-p-iterator.result ≡ numbers_of c.args.hosts.now = cc
    (c.into_iter-p-iterator.ensures.into_iter_gives, c.iter-p-items.ensures, c.numbers.ensures) in
    record {
      among = none-done (numbers_of c.args.hosts.now) (pids_left c.into_iter-p-iterator.result) left;
      put = λ k kit now are. ap (λ ps. map part_as ps ++ map (part_now c.args.counts.now now) (pids_left c.into_iter-p-iterator.result)) c.new-parts.ensures.items
          ∙ ap (map (part_now c.args.counts.now now)) left;
    }

pub hosts-preserved : goal.hosts-preserved
hosts-preserved c = record {
  among = one-done (numbers_of c.args.hosts.now) (pids_left c.next.new.self) (pids_left c.hosts.p-iterator) c.in-Some.p c.in-Some.ensures.steps
      c.hosts.invariant.among;
  put = λ k kit now are. one-put (part_now c.args.counts.now now) c.in-Some.p (pids_left c.next.new.self) (pids_left c.hosts.p-iterator)
      (map part_as c.hosts.parts.items) (map part_as c.push_one.new.parts.items) (map (part_now c.args.counts.now now) (numbers_of c.args.hosts.now))
      c.in-Some.ensures.steps (c.hosts.invariant.put k kit now are)
      (c.in_ok-push_one.ensures k kit now are (subst (λ ps. IsTrue (has ps c.in-Some.p)) are.numbers
      (is-one (numbers_of c.args.hosts.now) (pids_left c.next.new.self) (pids_left c.hosts.p-iterator) c.in-Some.p c.in-Some.ensures.steps
      c.hosts.invariant.among)));
}

pub returns : goal.returns
returns c = λ k kit now are.
    all-put (part_now c.args.counts.now now) (pids_left c.hosts.p-iterator) (map part_as c.hosts.parts.items)
    (map (part_now c.args.counts.now now) (numbers_of c.args.hosts.now)) c.in-None.ensures.steps.0 (c.hosts.invariant.put k kit now are)
    ∙ ap (map (part_now c.args.counts.now now)) are.numbers
