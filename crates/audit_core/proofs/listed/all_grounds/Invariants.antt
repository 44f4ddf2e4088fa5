use Rattle.std.proofs.Common.{◌≡◌, ◌++◌, List, drop, map}
use Rattle.std.specs.List.{AllZip}
use Rattle.group_defs.specs.Process.{Setting}
use Rattle.rp_base.specs.Rosters.{IsRising}
use Rattle.audit_defs.specs.Players as plain
use Rattle.audit_cast.specs.Turns.{IsPlayer}
use Rattle.audit_core.specs.Found.{grounds_of}
use Rattle.audit_core.proofs.listed.all_grounds.Given as goal

abbrev pub invariant-loop-player : goal.invariant-loop-player
invariant-loop-player l = (s : Setting) (cs : List plain.Player) → IsRising s.roster → AllZip (IsPlayer s) cs l.players
    → l.all.items ++ map (grounds_of s) (drop l.player-index cs) ≡ map (grounds_of s) cs
