use Rattle.std.proofs.Common.{ap}
use Rattle.signature_defs.specs.Schemes.{is_valid}
use Rattle.chain_words.proofs.Taken.{line_shown}
use Rattle.chain_words.proofs.chaining.shown_by.Goals as goal

pub returns-in-Ok-clause-shown : goal.returns-in-Ok-clause-shown
returns-in-Ok-clause-shown c =
    line_shown c.args.kit.now _ c.args.number c.args.chain.now c.args.line.now _ c.in-Some.frame.items _ c.group.ensures c.roster.ensures
    (ap is_valid c.scheme.ensures) c.deref.ensures.value (rw c.in-Some.is at c.in_ok-frame.ensures) c.in-Ok.ensures.shown.0

pub returns-clause-shown : goal.returns-clause-shown
returns-clause-shown c =
    line_shown c.args.kit.now _ c.args.number c.args.chain.now c.args.line.now _ c.in-Some.frame.items _ c.group.ensures c.roster.ensures
    (ap is_valid c.scheme.ensures) c.deref.ensures.value (rw c.in-Some.is at c.in_ok-frame.ensures) c.in-Err.ensures.refused.0
