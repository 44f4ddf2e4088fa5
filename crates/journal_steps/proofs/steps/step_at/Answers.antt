use Rattle.std.proofs.Common.{arith}
use Rattle.journal_entries.specs.Views.{entry}
use Rattle.journal_steps.proofs.Walking.{all_take, all_within, all_end, all_break}
use Rattle.journal_steps.proofs.steps.step_at.Goals as goal

pub returns-clause-takes : goal.returns-clause-takes
returns-clause-takes c = all_take (λ x. entry x.0) (λ x. x.1) c.args.place c.args.bytes.now (λ i. omega (arith, c.type_inv.bytes i))
    c.entry_at.result c.entry_at.ensures.found

pub returns-clause-next : goal.returns-clause-next
returns-clause-next c = all_within (λ x. entry x.0) (λ x. x.1) c.args.place c.args.bytes.now c.entry_at.result c.entry_at.ensures.found

pub returns-clause-ends : goal.returns-clause-ends
returns-clause-ends c = all_end c.args.place c.args.bytes.now (λ i. omega (arith, c.type_inv.bytes i)) c.entry_at.result
    c.entry_at.ensures.closed

pub returns-clause-breaks : goal.returns-clause-breaks
returns-clause-breaks c = all_break c.args.place c.args.bytes.now (λ i. omega (arith, c.type_inv.bytes i)) c.entry_at.result
    c.entry_at.ensures.broken
