-- A correct process as it starts.
use Rattle.std.specs.Prelude.{[]}
use Rattle.group_defs.specs.Process.{start}
use Rattle.replay_defs.specs.Schedules.{Header, Listed}
use Rattle.replay_defs.specs.Worlds as plain
use Rattle.replay_defs.specs.Worlds.{setting_of}
use Rattle.replay_cast.specs.Players.{Plays}
use Rattle.replay_cast.specs.Keyed.{IsKeyed}
use Rattle.replay_cast.specs.declared.keyed.Keyed.{Keyed}
use Rattle.replay_cast.specs.declared.player.Player.{Player}

-- the player of the process that is listed as l, before its first turn
abbrev pub starting : Header → Listed → plain.Player
starting h l = record { listed = l; now = start (setting_of h) l.process h.batch_limit; turns = [] }

-- p, of the code, is the player of the process that has this signer, before its first turn
abbrev pub Starts : Header → Keyed → Player → Type 0
Starts h k p = (l : Listed) → IsKeyed l k → Plays (setting_of h) p (starting h l)
