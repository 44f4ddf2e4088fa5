-- The bytes of a statement that was read of words.
use Rattle.std.specs.Prelude.{ℕ, List, Result, Ok}
use Rattle.byte_defs.specs.Fields.{◌>>=◌}
use Rattle.message_defs.specs.Statements.{Statement}
use Rattle.message_defs.specs.Spelling.{spelling}
use Rattle.story_defs.specs.declared.Expected.{Expected}

abbrev pub spelled : Result Statement Expected → Result (List ℕ) Expected
spelled read = read >>= λ st. Ok (spelling st)
