use Rattle.std.proofs.Common.{◌≡◌, [], ◌∷◌, subst, sym, arith}
use Rattle.std.specs.Prelude.{IsTrue}
use Rattle.std.specs.Vec.Iter.{into_iter_items}
use Rattle.std.proofs.lemmas.List.{nil_from_length}
use Rattle.byte_defs.specs.Members.{has}
use Rattle.node_defs.specs.Casts.{cast_of, hosted_by}
use Rattle.node_service.specs.Hosts.{HasHosts}
use Rattle.node_images.specs.Judging.{AreJudged}
use Rattle.restored_hosts.specs.Begun.{beginning}
use Rattle.restored_hosts.proofs.Going.{numbered-so}
use Rattle.restored_hosts.proofs.Walked.{all-left, all-put, none-put, one-left, one-put}
use Rattle.restored_hosts.proofs.hosts.hosts_of.Goals as goal

pub processes-init : goal.processes-init
processes-init c =
    let kit = c.args.kit.now in
    let all = c.into_iter-left.ensures.rest in
    record {
      known = all-left kit c.requires.judged.0.parts (into_iter_items c.into_iter-left.result) c.requires.judged.1
          (subst (AreJudged kit c.requires.judged.0.parts) (sym all) c.requires.judged.2);
      begun = λ version t limit are judged. none-put kit version t (into_iter_items c.into_iter-left.result) c.in_ok-hosts.hosts c.new-counts.result
          c.requires.kit are (subst (AreJudged kit t.parts) (sym all) judged) (c.in_ok-hosts.ensures version (beginning kit version t).from)
          c.new-counts.ensures;
    }

pub put-requires-clause-hosted : goal.put-requires-clause-hosted
put-requires-clause-hosted c =
    let kit = c.args.kit.now in
    let next = one-left kit (into_iter_items c.processes.left) (into_iter_items c.next.new.self) c.in-Some.judged c.in-Some.ensures.items
    c.processes.invariant.known in
    subst (λ p. IsTrue (has (hosted_by kit) p)) (sym (c.in_ok-process.ensures.number kit next.part next.judged)) next.hosted

pub processes-preserved : goal.processes-preserved
processes-preserved c =
    let kit = c.args.kit.now in
    let old = into_iter_items c.processes.left in
    let left = into_iter_items c.next.new.self in
    record {
      known = (one-left kit old left c.in-Some.judged c.in-Some.ensures.items c.processes.invariant.known).others;
      begun = λ version t limit are judged.
          let now = (beginning kit version t).from in
          one-put kit version t old left c.in-Some.judged c.processes.hosts c.put.new.self c.processes.counts c.begin.new.self
          c.in-Some.ensures.items (c.processes.invariant.begun version t limit are judged)
          (λ part here is same has_hosts.
          let number = c.in_ok-process.ensures.number kit part is in
          subst (λ p. HasHosts (cast_of kit version) kit now (p ∷ here) c.put.new.self) number
          (c.put.ensures version now here has_hosts
          (numbered-so kit version c.args.batch_limit part c.in_ok-process.process now limit number same
          (c.in_ok-process.ensures.is version kit part limit is))))
          c.begin.ensures;
    }

pub returns : goal.returns
returns c = λ version t limit are judged is_for.
    let none : into_iter_items c.processes.left
    ≡ [] = nil_from_length (into_iter_items c.processes.left) (omega (arith, c.in_default.ensures.cases.0, c.processes.left.rest.ok.0)) in
    all-put c.args.kit.now version t are (into_iter_items c.processes.left) _ c.requires.kit is_for none (c.processes.invariant.begun version t limit are judged)
