use Rattle.std.proofs.Common.{inl, inr, arith}
use Rattle.audit_input.proofs.Statuses.{completes, refuses, some_found, unfound}
use Rattle.audit_words.proofs.Runs.{found, found_in_part}
use Rattle.audit_words.proofs.auditing.run_audit.Goals as goal

pub returns-clause-audited : goal.returns-clause-audited
returns-clause-audited g c = λ zero. found c.args.listed _ _ _ _ c.audit_all-made.result c.audit_all-made.ensures.found (c.finish.ensures.done zero)

pub returns-clause-part : goal.returns-clause-part
returns-clause-part g c = λ four. found_in_part c.args.listed _ _ _ _ c.audit_all-made.result c.audit_all-made.ensures.found (c.finish.ensures.part four)

pub returns-clause-audit_stops : goal.returns-clause-audit_stops
returns-clause-audit_stops g c = λ which.
    unfound c.audit_all-made.result c.args.listed _ _ _ _ _ _ c.finish.result c.audit_all-made.ensures.refused (c.finish.ensures.stops which)

pub returns-clause-completes : goal.returns-clause-completes
returns-clause-completes g c = λ some calm calm_sink.
    completes c.audit_all-made.result c.args.listed _ _ _ _ _ _ c.finish.result c.audit_all-made.ensures.refused c.finish.ensures.only
    (λ three. calm (c.audit_all-made.ensures.read (c.finish.ensures.read three))) c.finish.ensures.stops some
    (λ four. calm_sink (c.finish.ensures.write four))

pub returns-clause-refuses : goal.returns-clause-refuses
returns-clause-refuses g c = λ status none calm.
    refuses c.audit_all-made.result c.args.listed _ _ _ _ _ _ c.finish.result c.audit_all-made.ensures.refused c.finish.ensures.only
    (λ three. calm (c.audit_all-made.ensures.read (c.finish.ensures.read three))) c.finish.ensures.stops status none
    (λ zero. let a = (found c.args.listed _ _ _ _ c.audit_all-made.result c.audit_all-made.ensures.found (c.finish.ensures.done zero)).audits in
    some_found c.args.listed _ _ a.audited a.all status none)
    (λ four. let a = (found_in_part c.args.listed _ _ _ _ c.audit_all-made.result c.audit_all-made.ensures.found (c.finish.ensures.part four)).audits in
    some_found c.args.listed _ _ a.audited a.all status none)

pub returns-clause-steady : goal.returns-clause-steady
returns-clause-steady g c = λ zero. elim c.audit_all-made.ensures.steady [
  | inl bad ↦ absurd (let three = c.finish.ensures.failed bad in omega (arith, zero, three))
  | inr same ↦ (same, c.finish.ensures.steady zero)
]

pub returns-clause-whole : goal.returns-clause-whole
returns-clause-whole g c = λ which. elim c.audit_all-made.ensures.steady [
  | inl bad ↦ absurd (let three = c.finish.ensures.failed bad in elim which [
    | inl four ↦ omega (arith, four, three)
    | inr high ↦ elim high [ inl seven ↦ omega (arith, seven, three) | inr eight ↦ omega (arith, eight, three) ]
  ])
  | inr same ↦ same
]

pub returns-clause-unhindered : goal.returns-clause-unhindered
returns-clause-unhindered g c = λ one. elim c.audit_all-made.ensures.steady [
  | inl bad ↦ absurd (let three = c.finish.ensures.failed bad in omega (arith, one, three))
  | inr same ↦ same
]
