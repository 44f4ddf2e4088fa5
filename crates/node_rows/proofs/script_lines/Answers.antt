use Rattle.node_rows.proofs.ScriptLines.{script_lines}
use Rattle.node_rows.proofs.script_lines.Goals as goal

pub returns : goal.returns
returns c = script_lines
