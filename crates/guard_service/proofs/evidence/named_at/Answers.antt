use Rattle.node_defs.specs.Casts.{setting_of}
use Rattle.guard_service.specs.Evidence.{is_named}
use Rattle.guard_service.proofs.Seeking.{named-so, not-named}
use Rattle.guard_service.proofs.evidence.named_at.Goals as goal

pub returns-then-is_named-clause-named : goal.returns-then-is_named-clause-named
returns-then-is_named-clause-named c = λ k p now is.
    named-so (is_named (setting_of c.args.kit.now) c.args.frame.now c.args.notes.now now) c.in_ok-q.q c.args.number c.is_named.result
    c.in_ok-q.ensures.value (c.is_named.ensures k p now is) c.if-is_named.true

pub returns-else-is_named-clause-named : goal.returns-else-is_named-clause-named
returns-else-is_named-clause-named c = λ k p now is.
    not-named (is_named (setting_of c.args.kit.now) c.args.frame.now c.args.notes.now now) c.in_ok-q.q c.args.number c.is_named.result
    c.in_ok-q.ensures.value (c.is_named.ensures k p now is) c.if-is_named.false
