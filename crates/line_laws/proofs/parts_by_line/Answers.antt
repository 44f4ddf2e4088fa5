use Rattle.line_laws.proofs.Parts.{parts_by_line}
use Rattle.line_laws.proofs.parts_by_line.Goals as goal

pub returns : goal.returns
returns c = parts_by_line
