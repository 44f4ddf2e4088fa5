-- The claims that an iterator over a frame has left.
use Rattle.std.specs.Prelude.{List}
use Rattle.message_defs.specs.Statements as plain
use Rattle.stmt_codec.specs.declared.cursor.Claims.{Claims}
use Rattle.stmt_codec.specs.Cursor.{all_left, given}

abbrev pub claims_left : Claims → List plain.Claim
claims_left c = given (all_left c.carrier c.begun c.groups)
