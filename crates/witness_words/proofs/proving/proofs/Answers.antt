use Rattle.std.proofs.Common.{◌∷◌, [], inl, inr, arith}
use Rattle.audit_input.proofs.Statuses.{completes, refuses, some_found, unfound}
use Rattle.witness_words.proofs.Proved.{proved, proved-in-part}
use Rattle.witness_words.proofs.proving.proofs.Goals as goal

pub returns-clause-proved : goal.returns-clause-proved
returns-clause-proved g c = λ zero. proved c.args.p _ _ _ _ c.prove_all-made.result c.prove_all-made.ensures.found (c.finish.ensures.done zero)

pub returns-clause-part : goal.returns-clause-part
returns-clause-part g c = λ four. proved-in-part c.args.p _ _ _ _ c.prove_all-made.result c.prove_all-made.ensures.found (c.finish.ensures.part four)

pub returns-clause-stops : goal.returns-clause-stops
returns-clause-stops g c = λ which.
    unfound c.prove_all-made.result (c.args.p ∷ []) _ _ _ _ _ _ c.finish.result c.prove_all-made.ensures.refused (c.finish.ensures.stops which)

pub returns-clause-completes : goal.returns-clause-completes
returns-clause-completes g c = λ some calm calm_sink.
    completes c.prove_all-made.result (c.args.p ∷ []) _ _ _ _ _ _ c.finish.result c.prove_all-made.ensures.refused c.finish.ensures.only
    (λ three. calm (c.prove_all-made.ensures.read (c.finish.ensures.read three))) c.finish.ensures.stops some
    (λ four. calm_sink (c.finish.ensures.write four))

pub returns-clause-refuses : goal.returns-clause-refuses
returns-clause-refuses g c = λ status none calm.
    refuses c.prove_all-made.result (c.args.p ∷ []) _ _ _ _ _ _ c.finish.result c.prove_all-made.ensures.refused c.finish.ensures.only
    (λ three. calm (c.prove_all-made.ensures.read (c.finish.ensures.read three))) c.finish.ensures.stops status none
    (λ zero. let a = (proved c.args.p _ _ _ _ c.prove_all-made.result c.prove_all-made.ensures.found (c.finish.ensures.done zero)).audits in
    some_found (c.args.p ∷ []) _ _ a.audited a.all status none)
    (λ four. let a = (proved-in-part c.args.p _ _ _ _ c.prove_all-made.result c.prove_all-made.ensures.found (c.finish.ensures.part four)).audits in
    some_found (c.args.p ∷ []) _ _ a.audited a.all status none)

pub returns-clause-steady : goal.returns-clause-steady
returns-clause-steady g c = λ zero. elim c.prove_all-made.ensures.steady [
  | inl bad ↦ absurd (let three = c.finish.ensures.failed bad in omega (arith, zero, three))
  | inr same ↦ (same, c.finish.ensures.steady zero)
]

pub returns-clause-whole : goal.returns-clause-whole
returns-clause-whole g c = λ which. elim c.prove_all-made.ensures.steady [
  | inl bad ↦ absurd (let three = c.finish.ensures.failed bad in elim which [
    | inl four ↦ omega (arith, four, three)
    | inr high ↦ elim high [ inl seven ↦ omega (arith, seven, three) | inr eight ↦ omega (arith, eight, three) ]
  ])
  | inr same ↦ same
]
