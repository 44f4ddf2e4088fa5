use Rattle.std.proofs.Common.{◌≡◌, ◌++◌, List, drop, map}
use Rattle.std.specs.List.{AllZip}
use Rattle.group_defs.specs.Process.{Setting}
use Rattle.group_defs.specs.Accounts.{account_of}
use Rattle.accounts.specs.Views.{account}
use Rattle.audit_defs.specs.Players as plain
use Rattle.audit_cast.specs.Turns.{IsPlayer}
use Rattle.audit_core.proofs.listed.accounts_of.Given as goal

abbrev pub invariant-loop-player : goal.invariant-loop-player
invariant-loop-player l = (s : Setting) (cs : List plain.Player) → AllZip (IsPlayer s) cs l.players
    → map account l.all.items ++ map (λ c. account_of c.now) (drop l.player-index cs) ≡ map (λ c. account_of c.now) cs
