use Rattle.std.proofs.Common.{◌≡◌, Some, sym, ap, subst, ◌∙◌}
use Rattle.std.specs.Prelude.{option_map}
use Rattle.std.proofs.lemmas.Result.{IfOk-weaker}
use Rattle.node_defs.specs.Casts.{cast_of, hosted_by}
use Rattle.node_defs.specs.Snapshots.{IsSnapshotFor}
use Rattle.snapshot_lines.specs.Said.{snap_said, snapshot_said}
use Rattle.snapshot_lines.specs.Views.{said_as}
use Rattle.pool_laws.proofs.Tests.{some-is}
use Rattle.node_images.proofs.snap.judge_line.Goals as goal

pub returns-in-Some-clause-exact : goal.returns-in-Some-clause-exact
returns-in-Some-clause-exact c = λ version.
    let kit = c.args.kit.now in
    let t = said_as c.in-Some.said in
    let says : snap_said (hosted_by kit) c.args.line.now ≡ Some t
    = ap (λ ps. snap_said ps c.args.line.now) (sym c.hosted.ensures)
    ∙ sym (subst (λ o. option_map said_as o ≡ snap_said c.hosted.result c.args.line.now) c.in-Some.is c.in_ok-said.ensures.read) in
    IfOk-weaker c.judge_said.result _ _ (λ o is. (
      λ some. record { said = t; says = says; is_for = is.0 some },
      λ for_it. is.1 (subst (λ x. IsSnapshotFor (cast_of kit version) (snapshot_said x)) (some-is for_it.said t _ for_it.says says) for_it.is_for),
    )) (c.judge_said.ensures.exact version)
