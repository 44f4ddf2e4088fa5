use Rattle.std.proofs.Common.{sym, ◌∙◌}
use Rattle.node_defs.specs.Casts.{cast_of}
use Rattle.guard_service.proofs.Heard.{has_none, says_to}
use Rattle.guard_service.proofs.guard.GuardService.word.Goals as goal

pub returns-in_default-clause-answers : goal.returns-in_default-clause-answers
returns-in_default-clause-answers c = λ version p now h are is.
    has_none c.args.self.now h (cast_of c.args.kit.now version) are p now c.args.line.now c.args.lines.now.items c.args.sends.now.items
    (sym c.accused.ensures ∙ c.in_default.is)

pub returns-clause-answers : goal.returns-clause-answers
returns-clause-answers c = λ version p now h are is.
    says_to c.args.self.now h (cast_of c.args.kit.now version) are p now c.args.line.now c.args.lines.now.items c.args.sends.now.items
    c.in-Some.q c.accuse.new.lines.items c.accuse.new.sends.items (sym c.accused.ensures ∙ c.in-Some.is)
    (c.in_ok-accuse.ensures.accuses version p now is)
