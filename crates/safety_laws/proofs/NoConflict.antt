-- A correct process signs no two statements of one slot.
use Rattle.group_defs.specs.Laws.{NoConflict}
use Rattle.safety_laws.proofs.OnePerSlot.{one_per_slot}

pub no_conflict : NoConflict
no_conflict s me limit turns i j d lt in_list = λ e. one_per_slot s me limit turns i j d lt in_list e.1
