use Rattle.std.proofs.Common.{sym}
use Rattle.node_text.proofs.Scripts.{no_text-said, text-said}
use Rattle.node_text.proofs.script.said_other.Goals as goal

pub returns-in-Ok : goal.returns-in-Ok
returns-in-Ok c = sym (text-said c.args.line.now c.in-Ok.ensures.cases.1)

pub returns-in-Err : goal.returns-in-Err
returns-in-Err c = sym (no_text-said c.args.line.now c.in-Err.ensures.cases.0)
