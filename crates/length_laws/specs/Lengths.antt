-- How long a statement is.
use Rattle.std.specs.Prelude.{◌≤◌, length}
use Rattle.message_defs.specs.Statements.{Statement}
use Rattle.message_defs.specs.Spelling.{IsStatement, spelling}

-- an Echo of a payload of 1,024 bytes is the longest
abbrev pub StatementsAreShort : Type 0
StatementsAreShort = (st : Statement) → IsStatement st → length (spelling st) ≤ 1032
