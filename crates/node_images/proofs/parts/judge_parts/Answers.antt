use Rattle.std.proofs.Common.{◌≡◌, [], map, true, false, refl, ap, subst, arith}
use Rattle.std.specs.Prelude.{◌↔◌, is_some, IfSome, IsTrue}
use Rattle.std.specs.Vec.Iter.{into_iter_items}
use Rattle.std.proofs.lemmas.List.{nil_from_length}
use Rattle.snapshot_lines.specs.Views.{part_as}
use Rattle.node_images.specs.Judging.{IsJudged, IsPartFor}
use Rattle.node_images.proofs.Walked.{all-judged, its-image, its-process, none-judged, not-all, one-judged}
use Rattle.node_images.proofs.parts.judge_parts.Goals as goal

pub parts-init : goal.parts-init
parts-init c = rw c.new-all.ensures.items
    (none-judged c.args.kit.now c.args.place (map part_as c.args.parts.items) (map part_as (into_iter_items c.into_iter-left.result))
    (ap (map part_as) c.into_iter-left.ensures.rest) c.requires.parts)

pub judge_part-requires-clause-hosted : goal.judge_part-requires-clause-hosted
judge_part-requires-clause-hosted c =
    its-process c.args.kit.now c.args.place (map part_as c.args.parts.items) (map part_as (into_iter_items c.next.new.self))
    (map part_as (into_iter_items c.parts.left)) (part_as c.in-Some.part) c.parts.all.items (ap (map part_as) c.in-Some.ensures.items)
    c.parts.invariant

pub judge_part-requires-clause-writable : goal.judge_part-requires-clause-writable
judge_part-requires-clause-writable c =
    its-image c.args.kit.now c.args.place (map part_as c.args.parts.items) (map part_as (into_iter_items c.next.new.self))
    (map part_as (into_iter_items c.parts.left)) (part_as c.in-Some.part) c.parts.all.items (ap (map part_as) c.in-Some.ensures.items)
    c.parts.invariant

pub parts-preserved : goal.parts-preserved
parts-preserved c =
    let kit = c.args.kit.now in
    let x = part_as c.in-Some.part in
    let fits : IsPartFor kit c.args.place x
    = (subst (λ o. IsTrue (is_some o) ↔ IsPartFor kit c.args.place x) c.in-Some-2.is c.in_ok-one.ensures.exact).0 refl in
    let is : IsJudged kit x c.in-Some-2.one = subst (λ o. IfSome o (IsJudged kit x)) c.in-Some-2.is c.in_ok-one.ensures.is in
    rw c.in_ok-push-in-Some-2.ensures.items
    (one-judged kit c.args.place (map part_as c.args.parts.items) (map part_as (into_iter_items c.next.new.self))
    (map part_as (into_iter_items c.parts.left)) x c.parts.all.items (ap (map part_as) c.in-Some.ensures.items) c.parts.invariant
    c.in-Some-2.one fits is)

pub returns-in-None-clause-exact : goal.returns-in-None-clause-exact
returns-in-None-clause-exact c =
    let kit = c.args.kit.now in
    let x = part_as c.in-Some.part in (
      λ no_way. absurd cc,
      λ all. absurd (not-all kit c.args.place (map part_as c.args.parts.items) (map part_as (into_iter_items c.next.new.self))
          (map part_as (into_iter_items c.parts.left)) x c.parts.all.items (ap (map part_as) c.in-Some.ensures.items) c.parts.invariant
          (λ fits. clash ((subst (λ o. IsTrue (is_some o) ↔ IsPartFor kit c.args.place x) c.in-None.is c.in_ok-one.ensures.exact).1 fits) refl) all),
    )
  where
    clash : {b : _} → b ≡ true → b ≡ false → ⊥
    clash e f = cc

pub returns-clause-are : goal.returns-clause-are
returns-clause-are c =
    let none : into_iter_items c.parts.left
    ≡ [] = nil_from_length (into_iter_items c.parts.left) (omega (arith, c.in_default.ensures.cases.0, c.parts.left.rest.ok.0)) in
    (all-judged c.args.kit.now c.args.place (map part_as c.args.parts.items) (map part_as (into_iter_items c.parts.left)) c.parts.all.items
    (ap (map part_as) none) c.parts.invariant).1
