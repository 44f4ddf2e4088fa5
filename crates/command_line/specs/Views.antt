-- Commands of the code, as plain data.
use Rattle.command_line.specs.Commands as plain
use Rattle.command_line.specs.declared.commands.Command.{Command}
use Rattle.command_line.specs.declared.commands.Command.TheVariants.{Replay, Chain, Gen, Keygen, Node, Resume, Guard, Serve, Ask, Audit}
use Rattle.command_line.specs.Reading.{spelled_payload}
use Rattle.command_line.specs.declared.orders.KitOrder.{KitOrder}

abbrev pub order : KitOrder → plain.KitOrder
order o = record { members = o.members; roster = o.roster; keys = o.keys; seed = o.seed }

abbrev pub command : Command → plain.Command
command (Replay short) = plain.Replay short
command Chain = plain.Chain
command (Gen number) = plain.Gen number
command (Keygen o) = plain.Keygen (order o)
command (Node file) = plain.Node file.now
command (Resume file) = plain.Resume file.now
command (Guard file) = plain.Guard file.now
command (Serve file) = plain.Serve file.now
command (Ask word) = plain.Ask (spelled_payload word.now)
command (Audit listed) = plain.Audit listed
