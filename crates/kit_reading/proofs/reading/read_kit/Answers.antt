use Rattle.kit_reading.proofs.Spelled.{is_found, is_spelled, is_read}
use Rattle.kit_reading.proofs.reading.read_kit.Goals as goal

pub returns-clause-found : goal.returns-clause-found
returns-clause-found c = is_found c.args.text.now c.read.result c.read.ensures

pub returns-clause-spelled : goal.returns-clause-spelled
returns-clause-spelled c = is_spelled c.args.text.now c.read.result c.read.ensures

pub returns-clause-only : goal.returns-clause-only
returns-clause-only c kit fits e = is_read c.args.text.now c.read.result kit fits e c.read.ensures
