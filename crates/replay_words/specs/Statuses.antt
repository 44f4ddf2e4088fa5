-- Why a run stops, the status that it ends with, and the line that it writes.
use Rattle.std.specs.Prelude.{ℕ, List, [], codes}
use Rattle.replay_words.specs.declared.stops.Stop.{Stop}
use Rattle.replay_words.specs.declared.stops.Stop.TheVariants.{NoMemory, Words, Read, Write}
use Rattle.replay_words.specs.declared.streams.ReadFault.{ReadFault}
use Rattle.replay_words.specs.declared.streams.ReadFault.TheVariants as faults

abbrev pub stop_of : ReadFault → Stop
stop_of faults.NoMemory = NoMemory
stop_of faults.Failed = Read

abbrev pub status_of : Stop → ℕ
status_of NoMemory = 1
status_of Words = 2
status_of Read = 3
status_of Write = 4

abbrev pub line_of : Stop → List ℕ
line_of NoMemory = []
line_of Words = codes "stop 2 words\n"
line_of Read = codes "stop 3 read\n"
line_of Write = []
