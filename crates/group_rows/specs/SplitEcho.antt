-- Processes 2 and 3 of four lie, which is one too many: process 0 delivers one payload and process 1 another. So the bound on
-- corrupt members can't be dropped.
use Rattle.std.specs.Prelude.{◌≡◌, List, [], ◌∷◌, true, false, None}
use Rattle.message_defs.specs.Statements.{Init, Echo, Order, Place, Keep}
use Rattle.group_defs.specs.Process.{Setting, start, keyed}
use Rattle.message_defs.specs.Claims.{Claims}
use Rattle.group_defs.specs.Events.{Turn, Hand, Delivers, Liar}
use Rattle.group_rows.specs.Scripts.{Seen, seen, setting, turn, by, msg}
use Rattle.group_defs.specs.Accounts.{Bounded, bounded, Agree, agree, sound}
use Rattle.group_defs.specs.Family.{Family, accounts, numbers, Honest, honest}

unfoldable pub s : Setting
s = setting (0 ∷ 1 ∷ 2 ∷ 3 ∷ []) (0 ∷ 1 ∷ 2 ∷ 3 ∷ [])

unfoldable pub turns_0 : List Turn
turns_0 =
    turn 100000 (Hand 3 (Claims (by 3 (Init 0 0 (97 ∷ [])) ∷ [])))
    ∷ turn 99999 (Hand 2 (Claims (by 2 (Echo 0 (msg 3 0) (97 ∷ [])) ∷ [])))
    ∷ turn 99999 (Hand 3 (Claims (by 3 (Echo 0 (msg 3 0) (97 ∷ [])) ∷ [])))
    ∷ turn 99997 (Hand 2 (Claims (by 2 (Place 0 0 (msg 3 0 ∷ [])) ∷ [])))
    ∷ turn 99997 (Hand 2 (Claims (by 2 (Keep 0 0 (msg 3 0 ∷ [])) ∷ [])))
    ∷ turn 99997 (Hand 1 (Claims (by 1 (Echo 0 (msg 3 0) (98 ∷ [])) ∷ [])))
    ∷ turn 99997 (Hand 1 (Claims (by 1 (Place 0 0 (msg 3 0 ∷ [])) ∷ by 1 (Keep 0 0 (msg 3 0 ∷ [])) ∷ [])))
    ∷ []

unfoldable pub answers_0 : List Seen
answers_0 = (
  None,
  ((Echo 0 (msg 3 0) (97 ∷ [])) ∷ []),
  (((1 ∷ 2 ∷ 3 ∷ []), (1 ∷ 1 ∷ 1 ∷ 0 ∷ 9 ∷ 2 ∷ 0 ∷ 0 ∷ 3 ∷ 0 ∷ 0 ∷ 0 ∷ 1 ∷ 97 ∷ 1 ∷ 0 ∷ 0 ∷ 0 ∷ [])) ∷ []),
  ([]),
)
    ∷ (None, ([]), ([]), ([]))
    ∷ (
      None,
      ((Order 0 0 (msg 3 0 ∷ [])) ∷ (Place 0 0 (msg 3 0 ∷ [])) ∷ []),
      ((
        (1 ∷ 2 ∷ 3 ∷ []),
        (1 ∷ 1 ∷ 3 ∷ 0 ∷ 8 ∷ 3 ∷ 0 ∷ 0 ∷ 0 ∷ 0 ∷ 3 ∷ 0 ∷ 0 ∷ 1 ∷ 0 ∷ 0 ∷ 0 ∷ 0 ∷ 8 ∷ 4 ∷ 0 ∷ 0 ∷ 0 ∷ 0 ∷ 3 ∷ 0 ∷ 0 ∷ 1 ∷ 0
            ∷ 0 ∷ 0 ∷ 0 ∷ 9 ∷ 2 ∷ 0 ∷ 0 ∷ 3 ∷ 0 ∷ 0 ∷ 0 ∷ 1 ∷ 97 ∷ 3 ∷ 0 ∷ 0 ∷ 0 ∷ 2 ∷ 0 ∷ 0 ∷ 3 ∷ 0 ∷ 0 ∷ []),
      ) ∷ []),
      ([]),
    )
    ∷ (None, ([]), ([]), ([]))
    ∷ (None, ([]), ([]), ([]))
    ∷ (None, ([]), ([]), ([]))
    ∷ (
      None,
      ((Keep 0 0 (msg 3 0 ∷ [])) ∷ []),
      (((1 ∷ 2 ∷ 3 ∷ []), (1 ∷ 1 ∷ 1 ∷ 0 ∷ 8 ∷ 5 ∷ 0 ∷ 0 ∷ 0 ∷ 0 ∷ 3 ∷ 0 ∷ 0 ∷ 1 ∷ 0 ∷ 0 ∷ 0 ∷ [])) ∷ []),
      (Delivers 0 (record { place = 0; message = msg 3 0; payload = 97 ∷ [] }) ∷ []),
    )
    ∷ []

unfoldable pub turns_1 : List Turn
turns_1 =
    turn 100000 (Hand 3 (Claims (by 3 (Init 0 0 (98 ∷ [])) ∷ [])))
    ∷ turn 99999 (Hand 2 (Claims (by 2 (Echo 0 (msg 3 0) (98 ∷ [])) ∷ [])))
    ∷ turn 99999 (Hand 3 (Claims (by 3 (Echo 0 (msg 3 0) (98 ∷ [])) ∷ [])))
    ∷ turn 99999 (Hand 2 (Claims (by 2 (Place 0 0 (msg 3 0 ∷ [])) ∷ [])))
    ∷ turn 99999 (Hand 2 (Claims (by 2 (Keep 0 0 (msg 3 0 ∷ [])) ∷ [])))
    ∷ turn 99999 (Hand 0 (Claims (by 0 (Echo 0 (msg 3 0) (97 ∷ [])) ∷ [])))
    ∷ turn 99999 (Hand 0 (Claims (by 0 (Order 0 0 (msg 3 0 ∷ [])) ∷ by 0 (Place 0 0 (msg 3 0 ∷ [])) ∷ by 0 (Echo 0 (msg 3 0) (97 ∷ []))
    ∷ by 2 (Echo 0 (msg 3 0) (97 ∷ [])) ∷ by 3 (Echo 0 (msg 3 0) (97 ∷ [])) ∷ [])))
    ∷ turn 99997 (Hand 0 (Claims (by 0 (Keep 0 0 (msg 3 0 ∷ [])) ∷ [])))
    ∷ []

unfoldable pub answers_1 : List Seen
answers_1 = (
  None,
  ((Echo 0 (msg 3 0) (98 ∷ [])) ∷ []),
  (((0 ∷ 2 ∷ 3 ∷ []), (1 ∷ 1 ∷ 1 ∷ 0 ∷ 9 ∷ 2 ∷ 0 ∷ 0 ∷ 3 ∷ 0 ∷ 0 ∷ 0 ∷ 1 ∷ 98 ∷ 1 ∷ 1 ∷ 0 ∷ 0 ∷ [])) ∷ []),
  ([]),
)
    ∷ (None, ([]), ([]), ([]))
    ∷ (None, ([]), ([]), ([]))
    ∷ (None, ([]), ([]), ([]))
    ∷ (None, ([]), ([]), ([]))
    ∷ (None, ([]), ([]), ([]))
    ∷ (
      None,
      ((Place 0 0 (msg 3 0 ∷ [])) ∷ (Keep 0 0 (msg 3 0 ∷ [])) ∷ []),
      ((
        (0 ∷ 2 ∷ 3 ∷ []),
        (1 ∷ 1 ∷ 2 ∷ 0 ∷ 8 ∷ 4 ∷ 0 ∷ 0 ∷ 0 ∷ 0 ∷ 3 ∷ 0 ∷ 0 ∷ 1 ∷ 1 ∷ 0 ∷ 0 ∷ 0 ∷ 8 ∷ 5 ∷ 0 ∷ 0 ∷ 0 ∷ 0 ∷ 3 ∷ 0 ∷ 0 ∷ 1 ∷ 1
            ∷ 0 ∷ 0 ∷ []),
      ) ∷ []),
      (Liar 2 ∷ Liar 3 ∷ []),
    )
    ∷ (None, ([]), ([]), (Delivers 0 (record { place = 0; message = msg 3 0; payload = 98 ∷ [] }) ∷ []))
    ∷ []

unfoldable pub f : Family
f = record {
  setting = s;
  correct =
      (record { me = 0; batch_limit = 1; turns = turns_0 } ∷ record { me = 1; batch_limit = 1; turns = turns_1 } ∷ []);
}

-- ---- the same, with 2 and 3 counted as correct: then the premise that fails is Honest

unfoldable pub g : Family
g = record {
  setting = s;
  correct = record { me = 0; batch_limit = 1; turns = turns_0 }
      ∷ record { me = 1; batch_limit = 1; turns = turns_1 } ∷ record { me = 2; batch_limit = 1; turns = [] }
      ∷ record { me = 3; batch_limit = 1; turns = [] } ∷ [];
}

-- the row: what the definitions give
pub record SplitEcho : Type 0 where
  pub row_0 : seen s (start s 0 1) turns_0 ≡ answers_0
  pub row_1 : seen s (start s 1 1) turns_1 ≡ answers_1
  pub judged : honest f ∷ bounded (accounts f) (numbers f) ∷ agree (accounts f) ∷ sound (accounts f) (keyed f.setting) ∷ []
      ≡ true ∷ false ∷ false ∷ true ∷ []
  -- all premises hold but Bounded, and there is no agreement
  pub is_honest : Honest f
  pub is_not_bounded : Bounded (accounts f) (numbers f) → ⊥
  pub is_not_agreed : Agree (accounts f) → ⊥
  pub judged_g : honest g ∷ bounded (accounts g) (numbers g) ∷ agree (accounts g) ∷ sound (accounts g) (keyed g.setting) ∷ []
      ≡ false ∷ true ∷ false ∷ false ∷ []
  pub is_not_honest : Honest g → ⊥
  pub is_bounded : Bounded (accounts g) (numbers g)
  pub lied_of_is_not_agreed : Agree (accounts g) → ⊥
