-- That reading words and spelling a command undo each other, as a law of the definitions.
use Rattle.std.specs.Prelude.{◌≡◌, ◌↔◌, ℕ, List, Some}
use Rattle.command_line.specs.Commands.{Command, Asks}
use Rattle.command_line.specs.Reading.{command_of}

-- a command is read of words exactly where it is in its ranges and they are its spelling
abbrev pub CommandIsSpelled : Type 0
CommandIsSpelled = (words : List (List ℕ)) (c : Command) → (command_of words ≡ Some c) ↔ Asks words c
