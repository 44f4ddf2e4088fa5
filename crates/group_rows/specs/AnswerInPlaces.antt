-- An answer to a Want is of eight places, however many messages they hold: here of one with nine messages, and of the one after it.
use Rattle.std.specs.Prelude.{◌≡◌, ℕ, List, [], ◌∷◌, ◌++◌, map, flat_map}
use Rattle.std.specs.List.{range_with_len}
use Rattle.message_defs.specs.Statements.{Statement, Echo, Place, Keep, Batch, Claim}
use Rattle.group_defs.specs.Process.{Setting, start}
use Rattle.group_defs.specs.Sending.{answer}
use Rattle.message_defs.specs.Claims.{Claims}
use Rattle.group_defs.specs.Events.{Turn, run, Submit, Hand}
use Rattle.group_rows.specs.Scripts.{setting, turn, by, msg}

unfoldable pub s : Setting
s = setting (0 ∷ 1 ∷ []) (0 ∷ 1 ∷ [])

abbrev pub nine : Batch
nine = map (msg 0) (range_with_len 0 9)

abbrev pub tenth : Batch
tenth = msg 0 9 ∷ []

-- a message of process 0 says its number
abbrev pub submit : ℕ → Turn
submit l = turn 1000 (Submit (l ∷ []))

abbrev pub echo : ℕ → Statement
echo l = Echo 0 (msg 0 l) (l ∷ [])

-- of the one other member
abbrev pub hand : List Statement → Turn
hand sts = turn 1000 (Hand 1 (Claims (map (by 1) sts)))

-- nine messages that are certified together, at one place; and one after them
unfoldable pub turns : List Turn
turns =
    map submit (range_with_len 0 9)
    ++ (hand (map echo (range_with_len 0 9))
    ∷ hand (Place 0 0 nine ∷ Keep 0 0 nine ∷ [])
    ∷ submit 9
    ∷ hand (echo 9 ∷ [])
    ∷ hand (Place 0 1 tenth ∷ Keep 0 1 tenth ∷ [])
    ∷ [])

-- both members say it
abbrev pub certificate : Statement → List Claim
certificate st = by 0 st ∷ by 1 st ∷ []

-- the row: what the definitions give
pub record AnswerInPlaces : Type 0 where
  pub from_first : answer (run s (start s 0 16) turns) 0 0
      ≡ flat_map certificate (Place 0 0 nine ∷ map echo (range_with_len 0 9)
      ++ Keep 0 0 nine ∷ Place 0 1 tenth ∷ echo 9 ∷ Keep 0 1 tenth ∷ [])
  pub from_second : answer (run s (start s 0 16) turns) 0 1 ≡ flat_map certificate (Place 0 1 tenth ∷ echo 9 ∷ Keep 0 1 tenth ∷ [])
