-- Claims that a table has as first ones.
use Rattle.std.specs.Prelude.{◌&&◌, not, Bool, find}
use Rattle.byte_defs.specs.Choices.{is_some_and}
use Rattle.byte_defs.specs.Equality.{same_bytes}
use Rattle.message_defs.specs.Statements.{Claim}
use Rattle.conviction_defs.specs.Convictions.{is_conflict}
use Rattle.claim_firsts.specs.Tables.{Table}
use Rattle.claim_firsts.specs.Seen.{is_beside}

-- the other claim does not conflict with this one, and has its signature
abbrev pub is_again : Claim → Claim → Bool
is_again c b = not (is_conflict c b) && same_bytes b.signature c.signature

-- the first claim of its signer on its slot is this one, with its signature
abbrev pub is_first : Table → Claim → Bool
is_first t c = is_some_and (find (is_beside c) t.firsts) (is_again c)
