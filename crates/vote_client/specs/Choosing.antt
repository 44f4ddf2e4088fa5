-- The least content that is enough, of those that were looked at.
use Rattle.std.specs.Prelude.{if◌then◌else◌, Option, Some, None}
use Rattle.byte_defs.specs.Orders.{numbers_below}
use Rattle.store_defs.specs.Votes.{Content, Vote, content_numbers, is_enough}

-- of the least so far and one more, the one that comes first
abbrev pub first_of : Option Content → Content → Content
first_of None c = c
first_of (Some lower) c = if numbers_below (content_numbers c) (content_numbers lower) then c else lower

-- one more is looked at
abbrev pub lesser : Vote → Option Content → Content → Option Content
lesser vote least c = if is_enough vote c then Some (first_of least c) else least
