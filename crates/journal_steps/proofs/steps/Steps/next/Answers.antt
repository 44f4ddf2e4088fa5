use Rattle.journal_steps.proofs.steps.Steps.next.Goals as goal

pub invariant_of-self : goal.invariant_of-self
invariant_of-self c = record { within = rw c.in-Ok-Some.field-0-is at c.in-Ok-Some.ensures.next }

pub returns-in-Ok-Some-clause-takes : goal.returns-in-Ok-Some-clause-takes
returns-in-Ok-Some-clause-takes c = rw c.in-Ok-Some.field-0-is at c.in-Ok-Some.ensures.takes

pub returns-in-Ok-None-clause-ends : goal.returns-in-Ok-None-clause-ends
returns-in-Ok-None-clause-ends c = rw c.in-Ok-None.field-0-is at c.in-Ok-None.ensures.ends
