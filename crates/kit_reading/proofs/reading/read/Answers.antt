use Rattle.kit_defs.proofs.ReadKits.{read_is_spelled}
use Rattle.kit_reading.proofs.reading.read.Goals as goal

pub new-requires : goal.new-requires
new-requires c = (read_is_spelled c.args.text.now c.in_ok-parts.parts c.in_ok-parts.ensures).1
