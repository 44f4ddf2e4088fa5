use Rattle.std.proofs.Common.{◌∙◌, ap, sym, subst, arith, is_none}
use Rattle.group_defs.specs.Events.{Turn, after, outcome, journalled}
use Rattle.member_sending.specs.Below.{Shares}
use Rattle.member_events.specs.Kept.{signatures_left}
use Rattle.member_signing.specs.States.{event, IsStateOf}
use Rattle.member_core.specs.Outcomes.{HasTaken}
use Rattle.member_core.specs.Journalled.{used_of}
use Rattle.member_core.proofs.Absorbed.{handed-so, grown-so, in-range, refuted}
use Rattle.member_core.proofs.Back.{real-so, undone-so}
use Rattle.member_core.proofs.member.Keyless.retake.Goals as goal

pub returns-clause-absorbs : goal.returns-clause-absorbs
returns-clause-absorbs g c s p left is rule made few =
    let e = event c.args.entry.now.event in
    let sigs = signatures_left c.args.entry.now.signatures in
    let t : Turn = journalled p e sigs in
    let shares : Shares s (g.V.Scheme.valid c.args.scheme.now) c.args.self.now.group c.args.self.now.roster = record {
      rule = rule;
      bound = is.group;
      keys = is.roster;
    } in
    let here = made ∙ sym c.new-signer.ensures.used in
    let taken : HasTaken s p t c.attempt.new.state (used_of c.attempt.new.signer) c.in-Ok.outcome
    = handed-so s p e sigs c.new-signer.result c.attempt.new.state (used_of c.attempt.new.signer) c.in-Ok.outcome
    c.new-signer.ensures.hands here (c.in-Ok.ensures.taken s p shares is.kinds here
    (subst (IsStateOf s p) (sym c.deref_mut.ensures.value) is.state)) in
    let reported = (c.agrees.ensures s (outcome s p t) shares
    (in-range s p t c.attempt.new.state (used_of c.attempt.new.signer) c.in-Ok.outcome taken) taken.outcome).0 c.if-not-agrees.false in (
      record { fits = (reported.0 ∙ c.requires.count, reported.1); valid = reported.2; few = omega (arith, few, c.requires.count) },
      record {
        keyless = record {
          state = c.go_on.ensures.same s (after s p t) (subst (IsStateOf s (after s p t)) (sym c.deref_mut-2.ensures.value) taken.state);
          group = is.group;
          roster = is.roster;
          kinds = is.kinds;
        };
        used = grown-so s p e sigs c.args.made c.args.count made c.requires.count reported.0;
        few = taken.few;
        outcome = taken.outcome;
      },
    )

pub returns-then-not-agrees-clause-only : goal.returns-then-not-agrees-clause-only
returns-then-not-agrees-clause-only g c s p left is rule made agrees =
    let e = event c.args.entry.now.event in
    let sigs = signatures_left c.args.entry.now.signatures in
    let t : Turn = journalled p e sigs in
    let shares : Shares s (g.V.Scheme.valid c.args.scheme.now) c.args.self.now.group c.args.self.now.roster = record {
      rule = rule;
      bound = is.group;
      keys = is.roster;
    } in
    let here = made ∙ sym c.new-signer.ensures.used in
    let taken : HasTaken s p t c.attempt.new.state (used_of c.attempt.new.signer) c.in-Ok.outcome
    = handed-so s p e sigs c.new-signer.result c.attempt.new.state (used_of c.attempt.new.signer) c.in-Ok.outcome
    c.new-signer.ensures.hands here (c.in-Ok.ensures.taken s p shares is.kinds here
    (subst (IsStateOf s p) (sym c.deref_mut.ensures.value) is.state)) in
    refuted c.agrees.result ((c.agrees.ensures s (outcome s p t) shares
    (in-range s p t c.attempt.new.state (used_of c.attempt.new.signer) c.in-Ok.outcome taken) taken.outcome).1
    (agrees.fits.0 ∙ sym c.requires.count, agrees.fits.1, agrees.valid)) c.if-not-agrees.true _

pub returns-then-not-agrees-clause-lost : goal.returns-then-not-agrees-clause-lost
returns-then-not-agrees-clause-lost g c s p is = record {
  state = undone-so c.attempt.new.rooms.before c.args.self.now.state.value _ c.attempt.new.state _ c.rewind.new.self c.deref_mut.ensures.value
      c.deref_mut-then-not-agrees.ensures.value c.in-Ok.ensures.back c.rewind.ensures.back s p is.state;
  group = is.group;
  roster = is.roster;
  kinds = is.kinds;
}

pub invariant_of-self-then-not-agrees-clause-real : goal.invariant_of-self-then-not-agrees-clause-real
invariant_of-self-then-not-agrees-clause-real g c =
    real-so c.args.self.now.state.value c.rewind.new.self
    (undone-so c.attempt.new.rooms.before c.args.self.now.state.value _ c.attempt.new.state _ c.rewind.new.self c.deref_mut.ensures.value
    c.deref_mut-then-not-agrees.ensures.value c.in-Ok.ensures.back c.rewind.ensures.back) c.args.self.now.real

pub invariant_of-self-then-not-agrees-clause-over : goal.invariant_of-self-then-not-agrees-clause-over
invariant_of-self-then-not-agrees-clause-over g c = ap is_none c.rewind.ensures.stays

pub returns-in_default-clause-lost : goal.returns-in_default-clause-lost
returns-in_default-clause-lost g c s p is = record {
  state = c.in_default.ensures.lost s p (subst (IsStateOf s p) (sym c.deref_mut.ensures.value) is.state);
  group = is.group;
  roster = is.roster;
  kinds = is.kinds;
}

pub invariant_of-self-2-clause-real : goal.invariant_of-self-2-clause-real
invariant_of-self-2-clause-real g c = real-so c.attempt.new.state c.go_on.new.self
    (λ s p is. c.go_on.ensures.same s p (subst (IsStateOf s p) (sym c.deref_mut-2.ensures.value) is)) c.in-Ok.ensures.real

pub invariant_of-self-2-clause-over : goal.invariant_of-self-2-clause-over
invariant_of-self-2-clause-over g c = ap is_none c.go_on.ensures.stays
