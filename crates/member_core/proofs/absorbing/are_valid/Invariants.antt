use Rattle.member_core.proofs.Judging.{LeftToJudge}
use Rattle.member_core.proofs.absorbing.are_valid.Given as goal

abbrev pub invariant-claims : goal.invariant-claims
invariant-claims g l = LeftToJudge (g.V.Scheme.valid l.judge.scheme.now) l.judge.group.now l.judge.roster.now l.claims l.own-index
