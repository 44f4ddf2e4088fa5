-- Why a run stops, the status that it ends with, and the line that it writes.
use Rattle.std.specs.Prelude.{ℕ, List, [], ◌++◌, codes}
use Rattle.std.specs.Fmt.{decimal}
use Rattle.interop_lines.specs.declared.stops.Stop.{Stop}
use Rattle.interop_lines.specs.declared.stops.Stop.TheVariants.{NoMemory, Read, Write, Line}

abbrev pub status_of : Stop → ℕ
status_of NoMemory = 1
status_of Read = 3
status_of Write = 4
status_of (Line number) = 7

abbrev pub line_of : Stop → List ℕ
line_of NoMemory = []
line_of Read = codes "stop 3 read\n"
line_of Write = []
line_of (Line number) = codes "stop 7 line " ++ (decimal number ++ codes "\n")
