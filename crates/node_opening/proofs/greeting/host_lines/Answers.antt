use Rattle.std.proofs.Common.{◌≡◌, ◌++◌, ap, subst, ◌∙◌}
use Rattle.std.specs.Prelude.{IsTrue}
use Rattle.byte_defs.specs.Members.{has}
use Rattle.rp_base.specs.PidsLeft.{pids_left}
use Rattle.restored_hosts.specs.Below.{numbers_of}
use Rattle.restored_hosts.proofs.Below.{is-one, none-done, one-done}
use Rattle.node_opening.proofs.Each.{all-reported, lines_of, one-reported}
use Rattle.node_opening.proofs.greeting.host_lines.Goals as goal

pub hosts-init : goal.hosts-init
hosts-init c =
    let left : pids_left c.into_iter-p-iterator.result ≡ numbers_of c.args.hosts.now = cc
    (c.into_iter-p-iterator.ensures.into_iter_gives, c.iter-p-items.ensures, c.numbers.ensures) in
    record {
      among = none-done (numbers_of c.args.hosts.now) (pids_left c.into_iter-p-iterator.result) left;
      reported = λ k kit now are. ap (λ t. t ++ lines_of now c.args.counts.now (pids_left c.into_iter-p-iterator.result)) c.new-text.ensures.items
          ∙ ap (lines_of now c.args.counts.now) left;
    }

pub hosts-preserved : goal.hosts-preserved
hosts-preserved c = record {
  among = one-done (numbers_of c.args.hosts.now) (pids_left c.next.new.self) (pids_left c.hosts.p-iterator) c.in-Some.p c.in-Some.ensures.steps
      c.hosts.invariant.among;
  reported = λ k kit now are. one-reported now c.args.counts.now c.in-Some.p (pids_left c.next.new.self) (pids_left c.hosts.p-iterator)
      c.hosts.text.items c.push_one.new.text.items (lines_of now c.args.counts.now (numbers_of c.args.hosts.now)) c.in-Some.ensures.steps
      (c.hosts.invariant.reported k kit now are)
      (c.in_ok-push_one.ensures k kit now are (subst (λ ps. IsTrue (has ps c.in-Some.p)) are.numbers
      (is-one (numbers_of c.args.hosts.now) (pids_left c.next.new.self) (pids_left c.hosts.p-iterator) c.in-Some.p c.in-Some.ensures.steps
      c.hosts.invariant.among)));
}

pub returns : goal.returns
returns c = λ k kit now are.
    all-reported now c.args.counts.now (pids_left c.hosts.p-iterator) c.hosts.text.items (lines_of now c.args.counts.now (numbers_of c.args.hosts.now))
    c.in-None.ensures.steps.0 (c.hosts.invariant.reported k kit now are) ∙ ap (lines_of now c.args.counts.now) are.numbers
