use Rattle.std.proofs.Common.{subst, sym}
use Rattle.member_signing.specs.States.{IsStateOf}
use Rattle.member_core.specs.Cores.{IsCore}
use Rattle.member_core.proofs.member.Core.of_state.Goals as goal

pub returns-clause-is : goal.returns-clause-is
unfolding IsCore
returns-clause-is g c s p group roster kinds signed state = record {
  keyless = record {
    state = subst (IsStateOf s p) (sym c.in_ok-kept.ensures.ok) state;
    group = group;
    roster = roster;
    kinds = kinds;
  };
  signed = signed;
}
