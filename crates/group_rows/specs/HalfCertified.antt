-- A kept place whose second message is not certified yet: nothing of it is delivered, and then both at once.
use Rattle.std.specs.Prelude.{◌≡◌, List, [], ◌∷◌, true, false, None}
use Rattle.message_defs.specs.Statements.{Echo, Place, Keep}
use Rattle.group_defs.specs.Process.{Setting, start, keyed}
use Rattle.message_defs.specs.Claims.{Claims}
use Rattle.group_defs.specs.Events.{Turn, Hand, Delivers}
use Rattle.group_rows.specs.Scripts.{Seen, seen, setting, turn, by, msg}
use Rattle.group_defs.specs.Accounts.{bounded, agree, sound}
use Rattle.group_defs.specs.Family.{Family, accounts, numbers, honest}

unfoldable pub s : Setting
s = setting (0 ∷ 1 ∷ 2 ∷ 3 ∷ []) (0 ∷ 1 ∷ 2 ∷ 3 ∷ [])

unfoldable pub turns_2 : List Turn
turns_2 =
    turn 100000 (Hand 0 (Claims (by 0 (Echo 0 (msg 0 0) (97 ∷ [])) ∷ [])))
    ∷ turn 100000 (Hand 1 (Claims (by 1 (Echo 0 (msg 0 0) (97 ∷ [])) ∷ [])))
    ∷ turn 100000 (Hand 3 (Claims (by 3 (Echo 0 (msg 0 0) (97 ∷ [])) ∷ [])))
    ∷ turn 100000 (Hand 0 (Claims (by 0 (Place 0 0 (msg 0 0 ∷ msg 0 1 ∷ [])) ∷ [])))
    ∷ turn 100000 (Hand 1 (Claims (by 1 (Place 0 0 (msg 0 0 ∷ msg 0 1 ∷ [])) ∷ [])))
    ∷ turn 100000 (Hand 3 (Claims (by 3 (Place 0 0 (msg 0 0 ∷ msg 0 1 ∷ [])) ∷ [])))
    ∷ turn 99999 (Hand 0 (Claims (by 0 (Keep 0 0 (msg 0 0 ∷ msg 0 1 ∷ [])) ∷ [])))
    ∷ turn 99999 (Hand 1 (Claims (by 1 (Keep 0 0 (msg 0 0 ∷ msg 0 1 ∷ [])) ∷ [])))
    ∷ turn 99999 (Hand 3 (Claims (by 3 (Keep 0 0 (msg 0 0 ∷ msg 0 1 ∷ [])) ∷ [])))
    ∷ turn 99999 (Hand 0 (Claims (by 0 (Echo 0 (msg 0 1) (98 ∷ [])) ∷ [])))
    ∷ turn 99999 (Hand 1 (Claims (by 1 (Echo 0 (msg 0 1) (98 ∷ [])) ∷ [])))
    ∷ turn 99999 (Hand 3 (Claims (by 3 (Echo 0 (msg 0 1) (98 ∷ [])) ∷ [])))
    ∷ []

unfoldable pub answers_2 : List Seen
answers_2 =
    (None, ([]), ([]), ([]))
    ∷ (None, ([]), ([]), ([]))
    ∷ (None, ([]), ([]), ([]))
    ∷ (None, ([]), ([]), ([]))
    ∷ (None, ([]), ([]), ([]))
    ∷ (
      None,
      ((Keep 0 0 (msg 0 0 ∷ msg 0 1 ∷ [])) ∷ []),
      (((0 ∷ 1 ∷ 3 ∷ []), (1 ∷ 1 ∷ 1 ∷ 0 ∷ 12 ∷ 14 ∷ 0 ∷ 0 ∷ 0 ∷ 0 ∷ 2 ∷ 0 ∷ 0 ∷ 0 ∷ 0 ∷ 0 ∷ 1 ∷ 1 ∷ 2 ∷ 0 ∷ 0 ∷ [])) ∷ []),
      ([]),
    )
    ∷ (None, ([]), ([]), ([]))
    ∷ (None, ([]), ([]), ([]))
    ∷ (None, ([]), ([]), ([]))
    ∷ (None, ([]), ([]), ([]))
    ∷ (None, ([]), ([]), ([]))
    ∷ (
      None,
      ([]),
      ([]),
      (Delivers 0 (record { place = 0; message = msg 0 0; payload = 97 ∷ [] })
          ∷ Delivers 0 (record { place = 0; message = msg 0 1; payload = 98 ∷ [] }) ∷ []),
    )
    ∷ []

unfoldable pub f : Family
f = record { setting = s; correct = (record { me = 2; batch_limit = 16; turns = turns_2 } ∷ []) }

-- the row: what the definitions give
pub record HalfCertified : Type 0 where
  pub row_2 : seen s (start s 2 16) turns_2 ≡ answers_2
  pub judged : honest f ∷ bounded (accounts f) (numbers f) ∷ agree (accounts f) ∷ sound (accounts f) (keyed f.setting) ∷ []
      ≡ true ∷ false ∷ true ∷ true ∷ []
