use Rattle.std.proofs.Common.{length, map}
use Rattle.audit_defs.specs.Players.{setting_of}
use Rattle.journal_steps.specs.Views.{source}
use Rattle.audit_cast.proofs.Starting.{Adds}
use Rattle.audit_cast.proofs.casting.all_players.Given as goal

abbrev pub invariant-listed : goal.invariant-listed
invariant-listed l = Adds (setting_of l.kit) (map source l.sources) l.left l.fn.listed l.walk

abbrev pub decreases-listed : goal.decreases-listed
decreases-listed l = length l.left
