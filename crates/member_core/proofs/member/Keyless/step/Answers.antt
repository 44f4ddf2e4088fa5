use Rattle.std.proofs.Common.{◌-◌, ap, sym, subst, is_none}
use Rattle.group_defs.specs.Events.{Turn, after}
use Rattle.member_sending.specs.Below.{Shares}
use Rattle.member_signing.specs.States.{event, IsStateOf}
use Rattle.member_core.specs.Outcomes.{HasTaken}
use Rattle.member_core.proofs.Back.{real-so}
use Rattle.member_core.proofs.member.Keyless.step.Goals as goal

pub returns-clause-takes : goal.returns-clause-takes
returns-clause-takes g c s p is rule made =
    let t : Turn = record {
      event = event c.args.event.now;
      allowance = g.G.Tally.total c.args.signer.now - g.G.Tally.used c.args.signer.now;
      signer = g.G.Signer.signature c.args.signer.now;
    } in
    let shares : Shares s (g.V.Scheme.valid c.args.scheme.now) c.args.self.now.group c.args.self.now.roster = record {
      rule = rule;
      bound = is.group;
      keys = is.roster;
    } in
    let taken : HasTaken s p t c.attempt.new.state (g.G.Tally.used c.attempt.new.signer) c.in-Ok.outcome
    = c.in-Ok.ensures.taken s p shares is.kinds made (subst (IsStateOf s p) (sym c.deref_mut.ensures.value) is.state) in
    record {
      keyless = record {
        state = c.go_on.ensures.same s (after s p t) (subst (IsStateOf s (after s p t)) (sym c.deref_mut-2.ensures.value) taken.state);
        group = is.group;
        roster = is.roster;
        kinds = is.kinds;
      };
      used = taken.used;
      few = taken.few;
      outcome = taken.outcome;
    }

pub returns-in_default-clause-lost : goal.returns-in_default-clause-lost
returns-in_default-clause-lost g c s p is = record {
  state = c.in_default.ensures.lost s p (subst (IsStateOf s p) (sym c.deref_mut.ensures.value) is.state);
  group = is.group;
  roster = is.roster;
  kinds = is.kinds;
}

pub invariant_of-self-2-clause-real : goal.invariant_of-self-2-clause-real
invariant_of-self-2-clause-real g c = real-so c.attempt.new.state c.go_on.new.self
    (λ s p is. c.go_on.ensures.same s p (subst (IsStateOf s p) (sym c.deref_mut-2.ensures.value) is)) c.in-Ok.ensures.real

pub invariant_of-self-2-clause-over : goal.invariant_of-self-2-clause-over
invariant_of-self-2-clause-over g c = ap is_none c.go_on.ensures.stays
