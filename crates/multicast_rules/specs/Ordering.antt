-- Whose turn it is to order, and how a batch is made, message by message.
use Rattle.std.specs.Prelude.{◌≡◌, ℕ, ◌+◌, Bool, ◌==◌, ◌&&◌, not, nat_lt, nat_le, List, Option, Some, None, slice_set, slice_index_or}
use Rattle.byte_defs.specs.Choices.{is_some_and}
use Rattle.message_defs.specs.Limits.{last_number}
use Rattle.group_defs.specs.Process.{Pool}
use Rattle.group_defs.specs.Certified.{number_of_members}
use Rattle.group_defs.specs.Due.{window}
use Rattle.own_place.specs.declared.own.Own.{Own}
use Rattle.pool_laws.specs.Least.{IsLeastBelow}
use Rattle.rule_laws.specs.Placing.{message_by, is_next}
use Rattle.stmt_codec.specs.Batches.{message_of}

-- the process is the manager, has not signed its End, and its next place is in the window and within the numbers
abbrev pub is_in_turn : Own → Bool
is_in_turn own = is_some_and own.position (λ r. r == 0) && not own.ended && nat_lt own.ordered (own.delivered + window)
    && nat_le own.ordered last_number

-- The message is that of the least rank whose next one, by the old counts, is certified; by the new ones that rank has one more.
-- Where there is no message, there is no such rank.
abbrev pub TakesNext : Pool → List ℕ → List ℕ → Option (ℕ × ℕ) → Type 0
TakesNext h old new None = IsLeastBelow (number_of_members h) (is_next h old) None
TakesNext h old new (Some m) = (r : ℕ) × IsLeastBelow (number_of_members h) (is_next h old) (Some r)
    × (message_of m ≡ message_by h.view old r) × (new ≡ slice_set old r (slice_index_or old r 0 + 1))
