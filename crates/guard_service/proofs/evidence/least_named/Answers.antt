use Rattle.std.proofs.Common.{◌∙◌, arith, refl, sym}
use Rattle.node_defs.specs.Casts.{setting_of}
use Rattle.guard_service.specs.Evidence.{is_named}
use Rattle.guard_service.proofs.Seeking.{found-there, none-left, passed-over}
use Rattle.guard_service.proofs.evidence.least_named.Goals as goal

pub numbers-init : goal.numbers-init
numbers-init c = λ k p now is. refl

pub returns-in-Some-clause-named : goal.returns-in-Some-clause-named
returns-in-Some-clause-named c = λ k p now is.
    found-there (is_named (setting_of c.args.kit.now) c.args.frame.now c.args.notes.now now) c.numbers.number c.in-Some.q (omega arith)
    (sym c.in-Some.is ∙ c.named_at.ensures.named k p now is)
    ∙ c.numbers.invariant k p now is

pub numbers-preserved : goal.numbers-preserved
numbers-preserved c = λ k p now is.
    passed-over (is_named (setting_of c.args.kit.now) c.args.frame.now c.args.notes.now now) c.numbers.number (omega arith)
    (sym (c.named_at.ensures.named k p now is) ∙ c.in_default.is)
    ∙ c.numbers.invariant k p now is

pub returns-clause-named : goal.returns-clause-named
returns-clause-named c = λ k p now is.
    none-left (is_named (setting_of c.args.kit.now) c.args.frame.now c.args.notes.now now) c.numbers.number (omega arith)
    ∙ c.numbers.invariant k p now is
