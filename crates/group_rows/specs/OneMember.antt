-- A view of one member: what is submitted is signed, certified, kept and delivered in the one event.
use Rattle.std.specs.Prelude.{◌≡◌, List, [], ◌∷◌, true, None}
use Rattle.message_defs.specs.Statements.{Init, Echo, Order, Place, Keep}
use Rattle.group_defs.specs.Process.{Setting, start, keyed}
use Rattle.group_defs.specs.Events.{Turn, Submit, Delivers}
use Rattle.group_rows.specs.Scripts.{Seen, seen, setting, turn, msg}
use Rattle.group_defs.specs.Accounts.{bounded, agree, sound}
use Rattle.group_defs.specs.Family.{Family, accounts, numbers, honest}
use Rattle.group_defs.specs.Laws.{Premises}

unfoldable pub s : Setting
s = setting (0 ∷ []) (0 ∷ [])

unfoldable pub turns_0 : List Turn
turns_0 =
    turn 100000 (Submit (104 ∷ 105 ∷ []))
    ∷ []

unfoldable pub answers_0 : List Seen
answers_0 = (
  None,
  ((Init 0 0 (104 ∷ 105 ∷ [])) ∷ (Echo 0 (msg 0 0) (104 ∷ 105 ∷ [])) ∷ (Order 0 0 (msg 0 0 ∷ [])) ∷ (Place 0 0 (msg 0 0 ∷ []))
      ∷ (Keep 0 0 (msg 0 0 ∷ [])) ∷ []),
  ([]),
  (Delivers 0 (record { place = 0; message = msg 0 0; payload = 104 ∷ 105 ∷ [] }) ∷ []),
)
    ∷ []

unfoldable pub f : Family
f = record { setting = s; correct = (record { me = 0; batch_limit = 1; turns = turns_0 } ∷ []) }

-- the row: what the definitions give
pub record OneMember : Type 0 where
  pub row_0 : seen s (start s 0 1) turns_0 ≡ answers_0
  pub judged : honest f ∷ bounded (accounts f) (numbers f) ∷ agree (accounts f) ∷ sound (accounts f) (keyed f.setting) ∷ []
      ≡ true ∷ true ∷ true ∷ true ∷ []
  pub premises : Premises f
