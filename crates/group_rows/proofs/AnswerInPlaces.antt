-- The row of specs/AnswerInPlaces.antt, computed.
use Rattle.std.proofs.Common.{◌≡◌, refl, [], ◌∷◌, ◌++◌, map}
use Rattle.std.specs.Prelude.{flat_map}
use Rattle.std.specs.List.{range_with_len}
use native.Mathlib.Decide.{ℕ_discrete}
use Rattle.byte_defs.specs.Equality.{bytes_discrete, list_discrete, option_discrete, pair_discrete}
use Rattle.message_defs.specs.Updates.{Value-discrete}
use Rattle.message_defs.specs.Statements.{Place, Keep, Message-discrete, Batch-discrete}
use Rattle.group_defs.specs.Process.{start}
use Rattle.group_defs.specs.Certified.{placed}
use Rattle.group_defs.specs.Due.{least_due, next_messages}
use Rattle.group_defs.specs.Hearing.{hear_all}
use Rattle.group_defs.specs.Signing.{sign_kind, sign_kinds, sign_all}
use Rattle.group_defs.specs.Settle.{deliver_more, settle}
use Rattle.group_defs.specs.Sending.{answer}
use Rattle.group_defs.specs.Events.{after, run}
use Rattle.group_rows.specs.AnswerInPlaces.{s, nine, tenth, echo, turns, certificate, AnswerInPlaces}

from_first : answer (run s (start s 0 16) turns) 0 0
    ≡ flat_map certificate (Place 0 0 nine ∷ map echo (range_with_len 0 9)
    ++ Keep 0 0 nine ∷ Place 0 1 tenth ∷ echo 9 ∷ Keep 0 1 tenth ∷ [])
unfolding ℕ_discrete bytes_discrete option_discrete pair_discrete Value-discrete Message-discrete list_discrete Batch-discrete placed
    next_messages least_due hear_all sign_kind sign_kinds sign_all deliver_more settle after run s turns
from_first = refl

from_second : answer (run s (start s 0 16) turns) 0 1 ≡ flat_map certificate (Place 0 1 tenth ∷ echo 9 ∷ Keep 0 1 tenth ∷ [])
unfolding ℕ_discrete bytes_discrete option_discrete pair_discrete Value-discrete Message-discrete list_discrete Batch-discrete placed
    next_messages least_due hear_all sign_kind sign_kinds sign_all deliver_more settle after run s turns
from_second = refl

pub answer_in_places : AnswerInPlaces
answer_in_places = record { from_first = from_first; from_second = from_second }
