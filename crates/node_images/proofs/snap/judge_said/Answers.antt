use Rattle.std.proofs.Common.{◌≡◌, true, false, refl, subst}
use Rattle.std.specs.Prelude.{◌↔◌, is_some, All, IsTrue}
use Rattle.snapshot_lines.specs.Views.{said_as}
use Rattle.node_images.specs.Judging.{IsPartFor}
use Rattle.node_images.proofs.Said.{parts-so, snapshot-so}
use Rattle.node_images.proofs.snap.judge_said.Goals as goal

pub returns-in-Some-clause-exact : goal.returns-in-Some-clause-exact
returns-in-Some-clause-exact c = λ version.
    let kit = c.args.kit.now in
    let t = said_as c.args.said in
    let all = (subst (λ o. IsTrue (is_some o) ↔ All (IsPartFor kit t.place) t.parts) c.in-Some.is c.in_ok-processes.ensures.exact).0 refl in
    (λ some. snapshot-so kit c.requires.kit version t c.requires.parts c.judge_parts.ensures.within c.whole.ensures.long all, λ is. refl)

pub returns-in-None-clause-exact : goal.returns-in-None-clause-exact
returns-in-None-clause-exact c = λ version.
    let kit = c.args.kit.now in
    let t = said_as c.args.said in (
      λ no_way. absurd cc,
      λ is. absurd (clash ((subst (λ o. IsTrue (is_some o) ↔ All (IsPartFor kit t.place) t.parts) c.in-None.is
          c.in_ok-processes.ensures.exact).1 (parts-so kit c.requires.kit version t c.requires.parts is)) refl),
    )
  where
    clash : {b : _} → b ≡ true → b ≡ false → ⊥
    clash e f = cc
