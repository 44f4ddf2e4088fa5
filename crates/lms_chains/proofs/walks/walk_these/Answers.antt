use Rattle.std.proofs.Common.{arith}
use Rattle.lms_chains.proofs.walks.walk_these.Goals as goal

pub walk_four-end-requires-clause-steps : goal.walk_four-end-requires-clause-steps
walk_four-end-requires-clause-steps c =
    let most = c.greatest.ensures.one 256 (λ l low. (c.requires.steps l low).1) in
    omega (arith, c.from-last.ensures, most)
