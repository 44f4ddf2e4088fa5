use Rattle.std.proofs.Common.{◌≡◌, map, drop}
use Rattle.std.specs.Prelude.{string_bytes}
use Rattle.command_line.specs.Reading.{rising_from}
use Rattle.command_line.proofs.RisingNumbers.{AreBelow, behind}
use Rattle.command_line.proofs.listed.rising.Given as goal

-- those that were read, and then what the words left spell
abbrev pub invariant-words : goal.invariant-words
invariant-words l = record {
  read : behind l.listed (rising_from l.least (map string_bytes (drop l.word-index l.words))) ≡ rising_from 0 (map string_bytes l.words);
  below : AreBelow l.least l.listed;
}
