use Rattle.std.proofs.Common.{◌≡◌, true, false}
use Rattle.std.proofs.lemmas.Result.{IfOk-weaker}
use Rattle.node_images.proofs.judging.judge_part.Goals as goal

clash : {b : _} → b ≡ true → b ≡ false → ⊥
clash e f = cc

pub returns-then-not-is_counted-clause-exact : goal.returns-then-not-is_counted-clause-exact
returns-then-not-is_counted-clause-exact c = (
  λ no_way. absurd cc,
  λ part. absurd (clash (c.is_counted.ensures.1 (part.own, part.counted)) c.if-not-is_counted.true),
)

pub returns-clause-exact : goal.returns-clause-exact
returns-clause-exact c =
    let two = c.is_counted.ensures.0 c.if-not-is_counted.false in
    IfOk-weaker c.process_of.result _ _ (λ o is. (
      λ some. record { own = two.0; counted = two.1; fit = is.0 some },
      λ part. is.1 part.fit,
    )) c.process_of.ensures.exact
