-- Faults of a line, as plain data.
use Rattle.std.specs.Prelude.{Option, Some, None, Result}
use Rattle.std.specs.Option.{ok_or}
use Rattle.story_defs.specs.declared.Expected as plain
use Rattle.story_lines.specs.declared.faults.LineFault.{LineFault}
use Rattle.story_lines.specs.declared.faults.LineFault.TheVariants.{Expected, NoMemory}

-- what was expected; None where memory ran out
abbrev pub expected_of : LineFault → Option plain.Expected
expected_of (Expected x) = Some x
expected_of NoMemory = None

-- what a word says, or what was expected in its place
abbrev pub reported : {A : Type 0} → plain.Expected → Option A → Result A plain.Expected
reported x said = ok_or said x
