use Rattle.std.proofs.Common.{inl, inr}
use Rattle.rampart_cli.proofs.top.journal_name.Goals as goal

pub returns-in-Some-Node-clause-other : goal.returns-in-Some-Node-clause-other
returns-in-Some-Node-clause-other c = λ no_host. absurd (no_host (_, inl (rw c.in-Some-Node.field-0-is at c.in-Some-Node.ensures.found)))

pub returns-in-Some-Guard-clause-other : goal.returns-in-Some-Guard-clause-other
returns-in-Some-Guard-clause-other c = λ no_host. absurd (no_host (_, inr (inl (rw c.in-Some-Guard.field-0-is at c.in-Some-Guard.ensures.found))))

pub returns-in-Some-Serve-clause-other : goal.returns-in-Some-Serve-clause-other
returns-in-Some-Serve-clause-other c = λ no_host. absurd (no_host (_, inr (inr (inl (rw c.in-Some-Serve.field-0-is at c.in-Some-Serve.ensures.found)))))

pub returns-in-Some-Resume-clause-other : goal.returns-in-Some-Resume-clause-other
returns-in-Some-Resume-clause-other c = λ no_host. absurd (no_host (_, inr (inr (inr (rw c.in-Some-Resume.field-0-is at c.in-Some-Resume.ensures.found)))))
