-- Process 1 delivers a payload, is removed, submits as an outsider in vain, is added again and delivers its next payload: numbers
-- begin anew in the view, and the accepted list goes on.
-- Names here (* for this crate alone):
--   s*, turns_0*, answers_0*, turns_1*, answers_1*, turns_2*, answers_2*, turns_3*, answers_3*, f*, RemovedAndAdded*
use Rattle.std.specs.Prelude.{◌≡◌, List, [], ◌∷◌, true, Some, None}
use Rattle.message_defs.specs.Updates.{Remove, Add}
use Rattle.message_defs.specs.Statements.{Init, Echo, Order, Place, Keep, Notify, End, Suggest, Ack, Ready}
use Rattle.group_defs.specs.Process.{Setting, start, keyed}
use Rattle.message_defs.specs.Claims.{Claims, Wants}
use Rattle.group_defs.specs.Events.{Turn, Submit, Hand, Suspect, Join, Tick, Outsider, Delivers, Installs}
use Rattle.group_rows.specs.Scripts.{Seen, seen, setting, turn, by, msg, value}
use Rattle.group_defs.specs.Accounts.{bounded, agree, sound}
use Rattle.group_defs.specs.Family.{Family, accounts, numbers, honest}
use Rattle.group_defs.specs.Laws.{Premises}

unfoldable pub s : Setting
s = setting (0 ∷ 1 ∷ 2 ∷ 3 ∷ []) (0 ∷ 1 ∷ 2 ∷ 3 ∷ [])

unfoldable pub turns_0 : List Turn
turns_0 =
    turn 100000 (Hand 1 (Claims (by 1 (Init 0 0 (97 ∷ [])) ∷ by 1 (Echo 0 (msg 1 0) (97 ∷ [])) ∷ [])))
    ∷ turn 99999 (Hand 2 (Claims (by 2 (Echo 0 (msg 1 0) (97 ∷ [])) ∷ [])))
    ∷ turn 99997 (Hand 3 (Claims (by 3 (Echo 0 (msg 1 0) (97 ∷ [])) ∷ [])))
    ∷ turn 99997 (Hand 1 (Claims (by 1 (Place 0 0 (msg 1 0 ∷ [])) ∷ [])))
    ∷ turn 99997 (Hand 2 (Claims (by 2 (Place 0 0 (msg 1 0 ∷ [])) ∷ [])))
    ∷ turn 99996 (Hand 3 (Claims (by 3 (Place 0 0 (msg 1 0 ∷ [])) ∷ [])))
    ∷ turn 99996 (Hand 2 (Claims (by 2 (Keep 0 0 (msg 1 0 ∷ [])) ∷ [])))
    ∷ turn 99996 (Hand 3 (Claims (by 3 (Keep 0 0 (msg 1 0 ∷ [])) ∷ [])))
    ∷ turn 99996 (Hand 1 (Claims (by 1 (Keep 0 0 (msg 1 0 ∷ [])) ∷ [])))
    ∷ turn 99996 (Suspect 1)
    ∷ turn 99995 (Hand 2 (Claims (by 2 (Notify 0 (Remove 1)) ∷ [])))
    ∷ turn 99994 (Hand 2 (Claims (by 2 (End 0 1) ∷ [])))
    ∷ turn 99994 (Hand 1 (Claims (by 1 (End 0 1) ∷ [])))
    ∷ turn 99992 (Hand 3 (Claims (by 3 (End 0 1) ∷ [])))
    ∷ turn 99992 (Hand 1 (Claims (by 1 (Ack 0 0 (value (Remove 1) 1)) ∷ [])))
    ∷ turn 99992 (Hand 2 (Claims (by 2 (Ack 0 0 (value (Remove 1) 1)) ∷ [])))
    ∷ turn 99991 (Hand 3 (Claims (by 3 (Ack 0 0 (value (Remove 1) 1)) ∷ [])))
    ∷ turn 99991 (Hand 2 (Claims (by 2 (Ready 0 0 (value (Remove 1) 1)) ∷ [])))
    ∷ turn 99991 (Hand 3 (Claims (by 3 (Ready 0 0 (value (Remove 1) 1)) ∷ [])))
    ∷ turn 99991 (Hand 1 (Claims (by 1 (Ready 0 0 (value (Remove 1) 1)) ∷ [])))
    ∷ turn 99991 (Join 1)
    ∷ turn 99989 (Hand 2 (Claims (by 2 (End 1 0) ∷ [])))
    ∷ turn 99989 (Hand 3 (Claims (by 3 (End 1 0) ∷ [])))
    ∷ turn 99987 (Hand 2 (Claims (by 2 (Ack 1 0 (value (Add 1) 0)) ∷ [])))
    ∷ turn 99987 (Hand 3 (Claims (by 3 (Ack 1 0 (value (Add 1) 0)) ∷ [])))
    ∷ turn 99986 (Hand 3 (Claims (by 3 (Ready 1 0 (value (Add 1) 0)) ∷ [])))
    ∷ turn 99986 (Hand 2 (Claims (by 2 (Ready 1 0 (value (Add 1) 0)) ∷ [])))
    ∷ turn 99986 (Hand 1 (Wants 1 0))
    ∷ turn 99986 (Hand 1 (Claims (by 1 (Init 2 0 (99 ∷ [])) ∷ by 1 (Echo 2 (msg 1 0) (99 ∷ [])) ∷ [])))
    ∷ turn 99985 (Hand 2 (Claims (by 2 (Echo 2 (msg 1 0) (99 ∷ [])) ∷ [])))
    ∷ turn 99983 (Hand 3 (Claims (by 3 (Echo 2 (msg 1 0) (99 ∷ [])) ∷ [])))
    ∷ turn 99983 (Hand 1 (Claims (by 1 (Place 2 0 (msg 1 0 ∷ [])) ∷ [])))
    ∷ turn 99983 (Hand 2 (Claims (by 2 (Place 2 0 (msg 1 0 ∷ [])) ∷ [])))
    ∷ turn 99982 (Hand 3 (Claims (by 3 (Place 2 0 (msg 1 0 ∷ [])) ∷ [])))
    ∷ turn 99982 (Hand 2 (Claims (by 2 (Keep 2 0 (msg 1 0 ∷ [])) ∷ [])))
    ∷ turn 99982 (Hand 3 (Claims (by 3 (Keep 2 0 (msg 1 0 ∷ [])) ∷ [])))
    ∷ turn 99982 (Hand 1 (Claims (by 1 (Keep 2 0 (msg 1 0 ∷ [])) ∷ [])))
    ∷ []

unfoldable pub answers_0 : List Seen
answers_0 = (
  None,
  ((Echo 0 (msg 1 0) (97 ∷ [])) ∷ []),
  (((1 ∷ 2 ∷ 3 ∷ []), (1 ∷ 1 ∷ 1 ∷ 0 ∷ 9 ∷ 2 ∷ 0 ∷ 0 ∷ 1 ∷ 0 ∷ 0 ∷ 0 ∷ 1 ∷ 97 ∷ 1 ∷ 0 ∷ 0 ∷ 0 ∷ [])) ∷ []),
  ([]),
)
    ∷ (
      None,
      ((Order 0 0 (msg 1 0 ∷ [])) ∷ (Place 0 0 (msg 1 0 ∷ [])) ∷ []),
      ((
        (1 ∷ 2 ∷ 3 ∷ []),
        (1 ∷ 1 ∷ 3 ∷ 0 ∷ 8 ∷ 3 ∷ 0 ∷ 0 ∷ 0 ∷ 0 ∷ 1 ∷ 0 ∷ 0 ∷ 1 ∷ 0 ∷ 0 ∷ 0 ∷ 0 ∷ 8 ∷ 4 ∷ 0 ∷ 0 ∷ 0 ∷ 0 ∷ 1 ∷ 0 ∷ 0 ∷ 1 ∷ 0
            ∷ 0 ∷ 0 ∷ 0 ∷ 9 ∷ 2 ∷ 0 ∷ 0 ∷ 1 ∷ 0 ∷ 0 ∷ 0 ∷ 1 ∷ 97 ∷ 3 ∷ 0 ∷ 0 ∷ 0 ∷ 1 ∷ 0 ∷ 0 ∷ 2 ∷ 0 ∷ 0 ∷ []),
      ) ∷ []),
      ([]),
    )
    ∷ (None, ([]), ([]), ([]))
    ∷ (None, ([]), ([]), ([]))
    ∷ (
      None,
      ((Keep 0 0 (msg 1 0 ∷ [])) ∷ []),
      (((1 ∷ 2 ∷ 3 ∷ []), (1 ∷ 1 ∷ 1 ∷ 0 ∷ 8 ∷ 5 ∷ 0 ∷ 0 ∷ 0 ∷ 0 ∷ 1 ∷ 0 ∷ 0 ∷ 1 ∷ 0 ∷ 0 ∷ 0 ∷ [])) ∷ []),
      ([]),
    )
    ∷ (None, ([]), ([]), ([]))
    ∷ (None, ([]), ([]), ([]))
    ∷ (None, ([]), ([]), (Delivers 0 (record { place = 0; message = msg 1 0; payload = 97 ∷ [] }) ∷ []))
    ∷ (None, ([]), ([]), ([]))
    ∷ (None, ((Notify 0 (Remove 1)) ∷ []), (((1 ∷ 2 ∷ 3 ∷ []), (1 ∷ 1 ∷ 1 ∷ 0 ∷ 5 ∷ 6 ∷ 0 ∷ 0 ∷ 1 ∷ 1 ∷ 1 ∷ 0 ∷ 0 ∷ 0 ∷ [])) ∷ []), ([]))
    ∷ (None, ((End 0 1) ∷ []), (((1 ∷ 2 ∷ 3 ∷ []), (1 ∷ 1 ∷ 1 ∷ 0 ∷ 5 ∷ 7 ∷ 0 ∷ 0 ∷ 0 ∷ 1 ∷ 1 ∷ 0 ∷ 0 ∷ 0 ∷ [])) ∷ []), ([]))
    ∷ (None, ([]), ([]), ([]))
    ∷ (
      None,
      ((Suggest 0 0 (value (Remove 1) 1)) ∷ (Ack 0 0 (value (Remove 1) 1)) ∷ []),
      ((
        (1 ∷ 2 ∷ 3 ∷ []),
        (1 ∷ 1 ∷ 5 ∷ 0 ∷ 8 ∷ 9 ∷ 0 ∷ 0 ∷ 0 ∷ 1 ∷ 1 ∷ 0 ∷ 1 ∷ 1 ∷ 0 ∷ 0 ∷ 0 ∷ 0 ∷ 8 ∷ 10 ∷ 0 ∷ 0 ∷ 0 ∷ 1 ∷ 1 ∷ 0 ∷ 1 ∷ 1
            ∷ 0 ∷ 0 ∷ 0 ∷ 0 ∷ 8 ∷ 4 ∷ 0 ∷ 0 ∷ 0 ∷ 0 ∷ 1 ∷ 0 ∷ 0 ∷ 4 ∷ 0 ∷ 0 ∷ 0 ∷ 1 ∷ 0 ∷ 0 ∷ 2 ∷ 0 ∷ 0 ∷ 3 ∷ 0 ∷ 0 ∷ 0 ∷ 5 ∷ 6 ∷ 0 ∷ 0 ∷ 1
            ∷ 1
            ∷ 2 ∷ 0 ∷ 0 ∷ 0 ∷ 2 ∷ 0 ∷ 0 ∷ 0 ∷ 5 ∷ 7 ∷ 0 ∷ 0 ∷ 0 ∷ 1 ∷ 3 ∷ 0 ∷ 0 ∷ 0 ∷ 1 ∷ 0 ∷ 0 ∷ 2 ∷ 0 ∷ 0 ∷ []),
      ) ∷ []),
      ([]),
    )
    ∷ (None, ([]), ([]), ([]))
    ∷ (None, ([]), ([]), ([]))
    ∷ (
      None,
      ((Ready 0 0 (value (Remove 1) 1)) ∷ []),
      (((1 ∷ 2 ∷ 3 ∷ []), (1 ∷ 1 ∷ 1 ∷ 0 ∷ 8 ∷ 11 ∷ 0 ∷ 0 ∷ 0 ∷ 1 ∷ 1 ∷ 0 ∷ 1 ∷ 1 ∷ 0 ∷ 0 ∷ 0 ∷ [])) ∷ []),
      ([]),
    )
    ∷ (None, ([]), ([]), ([]))
    ∷ (None, ([]), ([]), ([]))
    ∷ (None, ([]), ([]), (Installs (record { number = 1; members = 0 ∷ 2 ∷ 3 ∷ [] }) ∷ []))
    ∷ (None, ([]), ([]), ([]))
    ∷ (
      None,
      ((Notify 1 (Add 1)) ∷ (End 1 0) ∷ []),
      (((2 ∷ 3 ∷ []), (1 ∷ 1 ∷ 2 ∷ 0 ∷ 5 ∷ 6 ∷ 0 ∷ 1 ∷ 2 ∷ 1 ∷ 1 ∷ 0 ∷ 0 ∷ 0 ∷ 0 ∷ 5 ∷ 7 ∷ 0 ∷ 1 ∷ 0 ∷ 0 ∷ 1 ∷ 0 ∷ 0 ∷ 0 ∷ [])) ∷ []),
      ([]),
    )
    ∷ (None, ([]), ([]), ([]))
    ∷ (
      None,
      ((Suggest 1 0 (value (Add 1) 0)) ∷ (Ack 1 0 (value (Add 1) 0)) ∷ []),
      ((
        (2 ∷ 3 ∷ []),
        (1 ∷ 1 ∷ 4 ∷ 0 ∷ 8 ∷ 9 ∷ 0 ∷ 1 ∷ 0 ∷ 2 ∷ 1 ∷ 0 ∷ 0 ∷ 1 ∷ 0 ∷ 0 ∷ 0 ∷ 0 ∷ 8 ∷ 10 ∷ 0 ∷ 1 ∷ 0 ∷ 2 ∷ 1 ∷ 0 ∷ 0 ∷ 1 ∷ 0
            ∷ 0 ∷ 0 ∷ 0 ∷ 5 ∷ 6 ∷ 0 ∷ 1 ∷ 2 ∷ 1 ∷ 1 ∷ 0 ∷ 0 ∷ 0 ∷ 0 ∷ 5 ∷ 7 ∷ 0 ∷ 1 ∷ 0 ∷ 0 ∷ 3 ∷ 0 ∷ 0 ∷ 0 ∷ 2 ∷ 0 ∷ 0 ∷ 3 ∷ 0 ∷ 0 ∷ []),
      ) ∷ []),
      ([]),
    )
    ∷ (None, ([]), ([]), ([]))
    ∷ (
      None,
      ((Ready 1 0 (value (Add 1) 0)) ∷ []),
      (((2 ∷ 3 ∷ []), (1 ∷ 1 ∷ 1 ∷ 0 ∷ 8 ∷ 11 ∷ 0 ∷ 1 ∷ 0 ∷ 2 ∷ 1 ∷ 0 ∷ 0 ∷ 1 ∷ 0 ∷ 0 ∷ 0 ∷ [])) ∷ []),
      ([]),
    )
    ∷ (None, ([]), ([]), ([]))
    ∷ (None, ([]), ([]), (Installs (record { number = 2; members = 0 ∷ 2 ∷ 3 ∷ 1 ∷ [] }) ∷ []))
    ∷ (
      None,
      ([]),
      (((1 ∷ []), (1 ∷ 2 ∷ 1 ∷ 0 ∷ 8 ∷ 11 ∷ 0 ∷ 1 ∷ 0 ∷ 2 ∷ 1 ∷ 0 ∷ 0 ∷ 3 ∷ 0 ∷ 0 ∷ 0 ∷ 2 ∷ 0 ∷ 0 ∷ 3 ∷ 0 ∷ 0 ∷ [])) ∷ []),
      ([]),
    )
    ∷ (
      None,
      ((Echo 2 (msg 1 0) (99 ∷ [])) ∷ []),
      (((1 ∷ 2 ∷ 3 ∷ []), (1 ∷ 1 ∷ 1 ∷ 0 ∷ 9 ∷ 2 ∷ 0 ∷ 2 ∷ 1 ∷ 0 ∷ 0 ∷ 0 ∷ 1 ∷ 99 ∷ 1 ∷ 0 ∷ 0 ∷ 0 ∷ [])) ∷ []),
      ([]),
    )
    ∷ (
      None,
      ((Order 2 0 (msg 1 0 ∷ [])) ∷ (Place 2 0 (msg 1 0 ∷ [])) ∷ []),
      ((
        (1 ∷ 2 ∷ 3 ∷ []),
        (1 ∷ 1 ∷ 3 ∷ 0 ∷ 8 ∷ 3 ∷ 0 ∷ 2 ∷ 0 ∷ 0 ∷ 1 ∷ 0 ∷ 0 ∷ 1 ∷ 0 ∷ 0 ∷ 0 ∷ 0 ∷ 8 ∷ 4 ∷ 0 ∷ 2 ∷ 0 ∷ 0 ∷ 1 ∷ 0 ∷ 0 ∷ 1 ∷ 0
            ∷ 0 ∷ 0 ∷ 0 ∷ 9 ∷ 2 ∷ 0 ∷ 2 ∷ 1 ∷ 0 ∷ 0 ∷ 0 ∷ 1 ∷ 99 ∷ 3 ∷ 0 ∷ 0 ∷ 0 ∷ 1 ∷ 0 ∷ 0 ∷ 2 ∷ 0 ∷ 0 ∷ []),
      ) ∷ []),
      ([]),
    )
    ∷ (None, ([]), ([]), ([]))
    ∷ (None, ([]), ([]), ([]))
    ∷ (
      None,
      ((Keep 2 0 (msg 1 0 ∷ [])) ∷ []),
      (((1 ∷ 2 ∷ 3 ∷ []), (1 ∷ 1 ∷ 1 ∷ 0 ∷ 8 ∷ 5 ∷ 0 ∷ 2 ∷ 0 ∷ 0 ∷ 1 ∷ 0 ∷ 0 ∷ 1 ∷ 0 ∷ 0 ∷ 0 ∷ [])) ∷ []),
      ([]),
    )
    ∷ (None, ([]), ([]), ([]))
    ∷ (None, ([]), ([]), ([]))
    ∷ (None, ([]), ([]), (Delivers 2 (record { place = 0; message = msg 1 0; payload = 99 ∷ [] }) ∷ []))
    ∷ (None, ([]), ([]), ([]))
    ∷ []

unfoldable pub turns_1 : List Turn
turns_1 =
    turn 100000 (Submit (97 ∷ []))
    ∷ turn 99998 (Hand 0 (Claims (by 0 (Echo 0 (msg 1 0) (97 ∷ [])) ∷ [])))
    ∷ turn 99998 (Hand 2 (Claims (by 2 (Echo 0 (msg 1 0) (97 ∷ [])) ∷ [])))
    ∷ turn 99998 (Hand 3 (Claims (by 3 (Echo 0 (msg 1 0) (97 ∷ [])) ∷ [])))
    ∷ turn 99998 (Hand 0 (Claims (by 0 (Order 0 0 (msg 1 0 ∷ [])) ∷ by 0 (Place 0 0 (msg 1 0 ∷ [])) ∷ by 0 (Echo 0 (msg 1 0) (97 ∷ []))
    ∷ by 1 (Echo 0 (msg 1 0) (97 ∷ [])) ∷ by 2 (Echo 0 (msg 1 0) (97 ∷ [])) ∷ [])))
    ∷ turn 99997 (Hand 2 (Claims (by 2 (Place 0 0 (msg 1 0 ∷ [])) ∷ [])))
    ∷ turn 99996 (Hand 3 (Claims (by 3 (Place 0 0 (msg 1 0 ∷ [])) ∷ [])))
    ∷ turn 99996 (Hand 2 (Claims (by 2 (Keep 0 0 (msg 1 0 ∷ [])) ∷ [])))
    ∷ turn 99996 (Hand 3 (Claims (by 3 (Keep 0 0 (msg 1 0 ∷ [])) ∷ [])))
    ∷ turn 99996 (Hand 0 (Claims (by 0 (Keep 0 0 (msg 1 0 ∷ [])) ∷ [])))
    ∷ turn 99996 (Hand 0 (Claims (by 0 (Notify 0 (Remove 1)) ∷ [])))
    ∷ turn 99996 (Hand 2 (Claims (by 2 (Notify 0 (Remove 1)) ∷ [])))
    ∷ turn 99995 (Hand 2 (Claims (by 2 (End 0 1) ∷ [])))
    ∷ turn 99995 (Hand 0 (Claims (by 0 (End 0 1) ∷ [])))
    ∷ turn 99995 (Hand 3 (Claims (by 3 (End 0 1) ∷ [])))
    ∷ turn 99995 (Hand 0 (Claims (by 0 (Suggest 0 0 (value (Remove 1) 1)) ∷ by 0 (Ack 0 0 (value (Remove 1) 1))
    ∷ by 0 (Place 0 0 (msg 1 0 ∷ [])) ∷ by 1 (Place 0 0 (msg 1 0 ∷ [])) ∷ by 2 (Place 0 0 (msg 1 0 ∷ []))
    ∷ by 3 (Place 0 0 (msg 1 0 ∷ [])) ∷ by 0 (Notify 0 (Remove 1)) ∷ by 2 (Notify 0 (Remove 1)) ∷ by 0 (End 0 1) ∷ by 1 (End 0 1)
    ∷ by 2 (End 0 1) ∷ [])))
    ∷ turn 99994 (Hand 2 (Claims (by 2 (Ack 0 0 (value (Remove 1) 1)) ∷ [])))
    ∷ turn 99993 (Hand 3 (Claims (by 3 (Ack 0 0 (value (Remove 1) 1)) ∷ [])))
    ∷ turn 99993 (Hand 2 (Claims (by 2 (Ready 0 0 (value (Remove 1) 1)) ∷ [])))
    ∷ turn 99993 (Hand 3 (Claims (by 3 (Ready 0 0 (value (Remove 1) 1)) ∷ [])))
    ∷ turn 99993 (Hand 0 (Claims (by 0 (Ready 0 0 (value (Remove 1) 1)) ∷ [])))
    ∷ turn 99993 (Submit (98 ∷ []))
    ∷ turn 99993 (Tick)
    ∷ turn 99993 (Hand 0 (Claims (by 0 (Ready 1 0 (value (Add 1) 0)) ∷ by 2 (Ready 1 0 (value (Add 1) 0))
    ∷ by 3 (Ready 1 0 (value (Add 1) 0)) ∷ [])))
    ∷ turn 99993 (Hand 2 (Claims (by 0 (Ready 1 0 (value (Add 1) 0)) ∷ by 2 (Ready 1 0 (value (Add 1) 0))
    ∷ by 3 (Ready 1 0 (value (Add 1) 0)) ∷ [])))
    ∷ turn 99993 (Hand 3 (Claims (by 0 (Ready 1 0 (value (Add 1) 0)) ∷ by 2 (Ready 1 0 (value (Add 1) 0))
    ∷ by 3 (Ready 1 0 (value (Add 1) 0)) ∷ [])))
    ∷ turn 99993 (Submit (99 ∷ []))
    ∷ turn 99991 (Hand 0 (Claims (by 0 (Echo 2 (msg 1 0) (99 ∷ [])) ∷ [])))
    ∷ turn 99991 (Hand 2 (Claims (by 2 (Echo 2 (msg 1 0) (99 ∷ [])) ∷ [])))
    ∷ turn 99991 (Hand 3 (Claims (by 3 (Echo 2 (msg 1 0) (99 ∷ [])) ∷ [])))
    ∷ turn 99991 (Hand 0 (Claims (by 0 (Order 2 0 (msg 1 0 ∷ [])) ∷ by 0 (Place 2 0 (msg 1 0 ∷ [])) ∷ by 0 (Echo 2 (msg 1 0) (99 ∷ []))
    ∷ by 1 (Echo 2 (msg 1 0) (99 ∷ [])) ∷ by 2 (Echo 2 (msg 1 0) (99 ∷ [])) ∷ [])))
    ∷ turn 99990 (Hand 2 (Claims (by 2 (Place 2 0 (msg 1 0 ∷ [])) ∷ [])))
    ∷ turn 99989 (Hand 3 (Claims (by 3 (Place 2 0 (msg 1 0 ∷ [])) ∷ [])))
    ∷ turn 99989 (Hand 2 (Claims (by 2 (Keep 2 0 (msg 1 0 ∷ [])) ∷ [])))
    ∷ turn 99989 (Hand 3 (Claims (by 3 (Keep 2 0 (msg 1 0 ∷ [])) ∷ [])))
    ∷ turn 99989 (Hand 0 (Claims (by 0 (Keep 2 0 (msg 1 0 ∷ [])) ∷ [])))
    ∷ []

unfoldable pub answers_1 : List Seen
answers_1 = (
  None,
  ((Init 0 0 (97 ∷ [])) ∷ (Echo 0 (msg 1 0) (97 ∷ [])) ∷ []),
  ((
    (0 ∷ 2 ∷ 3 ∷ []),
    (1 ∷ 1 ∷ 2 ∷ 0 ∷ 8 ∷ 1 ∷ 0 ∷ 0 ∷ 0 ∷ 0 ∷ 0 ∷ 1 ∷ 97 ∷ 1 ∷ 1 ∷ 0 ∷ 0 ∷ 0 ∷ 9 ∷ 2 ∷ 0 ∷ 0 ∷ 1 ∷ 0 ∷ 0 ∷ 0 ∷ 1 ∷ 97
        ∷ 1 ∷ 1 ∷ 0 ∷ 0 ∷ []),
  ) ∷ []),
  ([]),
)
    ∷ (None, ([]), ([]), ([]))
    ∷ (None, ([]), ([]), ([]))
    ∷ (None, ([]), ([]), ([]))
    ∷ (
      None,
      ((Place 0 0 (msg 1 0 ∷ [])) ∷ []),
      (((0 ∷ 2 ∷ 3 ∷ []), (1 ∷ 1 ∷ 1 ∷ 0 ∷ 8 ∷ 4 ∷ 0 ∷ 0 ∷ 0 ∷ 0 ∷ 1 ∷ 0 ∷ 0 ∷ 1 ∷ 1 ∷ 0 ∷ 0 ∷ [])) ∷ []),
      ([]),
    )
    ∷ (
      None,
      ((Keep 0 0 (msg 1 0 ∷ [])) ∷ []),
      (((0 ∷ 2 ∷ 3 ∷ []), (1 ∷ 1 ∷ 1 ∷ 0 ∷ 8 ∷ 5 ∷ 0 ∷ 0 ∷ 0 ∷ 0 ∷ 1 ∷ 0 ∷ 0 ∷ 1 ∷ 1 ∷ 0 ∷ 0 ∷ [])) ∷ []),
      ([]),
    )
    ∷ (None, ([]), ([]), ([]))
    ∷ (None, ([]), ([]), ([]))
    ∷ (None, ([]), ([]), (Delivers 0 (record { place = 0; message = msg 1 0; payload = 97 ∷ [] }) ∷ []))
    ∷ (None, ([]), ([]), ([]))
    ∷ (None, ([]), ([]), ([]))
    ∷ (None, ((End 0 1) ∷ []), (((0 ∷ 2 ∷ 3 ∷ []), (1 ∷ 1 ∷ 1 ∷ 0 ∷ 5 ∷ 7 ∷ 0 ∷ 0 ∷ 0 ∷ 1 ∷ 1 ∷ 1 ∷ 0 ∷ 0 ∷ [])) ∷ []), ([]))
    ∷ (None, ([]), ([]), ([]))
    ∷ (None, ([]), ([]), ([]))
    ∷ (None, ([]), ([]), ([]))
    ∷ (
      None,
      ((Ack 0 0 (value (Remove 1) 1)) ∷ []),
      (((0 ∷ 2 ∷ 3 ∷ []), (1 ∷ 1 ∷ 1 ∷ 0 ∷ 8 ∷ 10 ∷ 0 ∷ 0 ∷ 0 ∷ 1 ∷ 1 ∷ 0 ∷ 1 ∷ 1 ∷ 1 ∷ 0 ∷ 0 ∷ [])) ∷ []),
      ([]),
    )
    ∷ (
      None,
      ((Ready 0 0 (value (Remove 1) 1)) ∷ []),
      (((0 ∷ 2 ∷ 3 ∷ []), (1 ∷ 1 ∷ 1 ∷ 0 ∷ 8 ∷ 11 ∷ 0 ∷ 0 ∷ 0 ∷ 1 ∷ 1 ∷ 0 ∷ 1 ∷ 1 ∷ 1 ∷ 0 ∷ 0 ∷ [])) ∷ []),
      ([]),
    )
    ∷ (None, ([]), ([]), ([]))
    ∷ (None, ([]), ([]), ([]))
    ∷ (None, ([]), ([]), (Installs (record { number = 1; members = 0 ∷ 2 ∷ 3 ∷ [] }) ∷ []))
    ∷ (None, ([]), ([]), ([]))
    ∷ (Some (Outsider), ([]), ([]), ([]))
    ∷ (None, ([]), (((0 ∷ 2 ∷ 3 ∷ []), (1 ∷ 3 ∷ 0 ∷ 1 ∷ 0 ∷ 0 ∷ [])) ∷ []), ([]))
    ∷ (None, ([]), ([]), (Installs (record { number = 2; members = 0 ∷ 2 ∷ 3 ∷ 1 ∷ [] }) ∷ []))
    ∷ (None, ([]), ([]), ([]))
    ∷ (None, ([]), ([]), ([]))
    ∷ (
      None,
      ((Init 2 0 (99 ∷ [])) ∷ (Echo 2 (msg 1 0) (99 ∷ [])) ∷ []),
      ((
        (0 ∷ 2 ∷ 3 ∷ []),
        (1 ∷ 1 ∷ 2 ∷ 0 ∷ 8 ∷ 1 ∷ 0 ∷ 2 ∷ 0 ∷ 0 ∷ 0 ∷ 1 ∷ 99 ∷ 1 ∷ 1 ∷ 0 ∷ 0 ∷ 0 ∷ 9 ∷ 2 ∷ 0 ∷ 2 ∷ 1 ∷ 0 ∷ 0 ∷ 0 ∷ 1 ∷ 99
            ∷ 1 ∷ 1 ∷ 0 ∷ 0 ∷ []),
      ) ∷ []),
      ([]),
    )
    ∷ (None, ([]), ([]), ([]))
    ∷ (None, ([]), ([]), ([]))
    ∷ (None, ([]), ([]), ([]))
    ∷ (
      None,
      ((Place 2 0 (msg 1 0 ∷ [])) ∷ []),
      (((0 ∷ 2 ∷ 3 ∷ []), (1 ∷ 1 ∷ 1 ∷ 0 ∷ 8 ∷ 4 ∷ 0 ∷ 2 ∷ 0 ∷ 0 ∷ 1 ∷ 0 ∷ 0 ∷ 1 ∷ 1 ∷ 0 ∷ 0 ∷ [])) ∷ []),
      ([]),
    )
    ∷ (
      None,
      ((Keep 2 0 (msg 1 0 ∷ [])) ∷ []),
      (((0 ∷ 2 ∷ 3 ∷ []), (1 ∷ 1 ∷ 1 ∷ 0 ∷ 8 ∷ 5 ∷ 0 ∷ 2 ∷ 0 ∷ 0 ∷ 1 ∷ 0 ∷ 0 ∷ 1 ∷ 1 ∷ 0 ∷ 0 ∷ [])) ∷ []),
      ([]),
    )
    ∷ (None, ([]), ([]), ([]))
    ∷ (None, ([]), ([]), ([]))
    ∷ (None, ([]), ([]), (Delivers 2 (record { place = 0; message = msg 1 0; payload = 99 ∷ [] }) ∷ []))
    ∷ (None, ([]), ([]), ([]))
    ∷ []

unfoldable pub turns_2 : List Turn
turns_2 =
    turn 100000 (Hand 1 (Claims (by 1 (Init 0 0 (97 ∷ [])) ∷ by 1 (Echo 0 (msg 1 0) (97 ∷ [])) ∷ [])))
    ∷ turn 99999 (Hand 0 (Claims (by 0 (Echo 0 (msg 1 0) (97 ∷ [])) ∷ [])))
    ∷ turn 99999 (Hand 3 (Claims (by 3 (Echo 0 (msg 1 0) (97 ∷ [])) ∷ [])))
    ∷ turn 99999 (Hand 0 (Claims (by 0 (Order 0 0 (msg 1 0 ∷ [])) ∷ by 0 (Place 0 0 (msg 1 0 ∷ [])) ∷ by 0 (Echo 0 (msg 1 0) (97 ∷ []))
    ∷ by 1 (Echo 0 (msg 1 0) (97 ∷ [])) ∷ by 2 (Echo 0 (msg 1 0) (97 ∷ [])) ∷ [])))
    ∷ turn 99998 (Hand 1 (Claims (by 1 (Place 0 0 (msg 1 0 ∷ [])) ∷ [])))
    ∷ turn 99997 (Hand 3 (Claims (by 3 (Place 0 0 (msg 1 0 ∷ [])) ∷ [])))
    ∷ turn 99997 (Hand 3 (Claims (by 3 (Keep 0 0 (msg 1 0 ∷ [])) ∷ [])))
    ∷ turn 99997 (Hand 0 (Claims (by 0 (Keep 0 0 (msg 1 0 ∷ [])) ∷ [])))
    ∷ turn 99997 (Hand 1 (Claims (by 1 (Keep 0 0 (msg 1 0 ∷ [])) ∷ [])))
    ∷ turn 99997 (Suspect 1)
    ∷ turn 99996 (Hand 0 (Claims (by 0 (Notify 0 (Remove 1)) ∷ [])))
    ∷ turn 99995 (Hand 0 (Claims (by 0 (End 0 1) ∷ [])))
    ∷ turn 99995 (Hand 1 (Claims (by 1 (End 0 1) ∷ [])))
    ∷ turn 99995 (Hand 3 (Claims (by 3 (End 0 1) ∷ [])))
    ∷ turn 99995 (Hand 0 (Claims (by 0 (Suggest 0 0 (value (Remove 1) 1)) ∷ by 0 (Ack 0 0 (value (Remove 1) 1))
    ∷ by 0 (Place 0 0 (msg 1 0 ∷ [])) ∷ by 1 (Place 0 0 (msg 1 0 ∷ [])) ∷ by 2 (Place 0 0 (msg 1 0 ∷ []))
    ∷ by 3 (Place 0 0 (msg 1 0 ∷ [])) ∷ by 0 (Notify 0 (Remove 1)) ∷ by 2 (Notify 0 (Remove 1)) ∷ by 0 (End 0 1) ∷ by 1 (End 0 1)
    ∷ by 2 (End 0 1) ∷ [])))
    ∷ turn 99994 (Hand 1 (Claims (by 1 (Ack 0 0 (value (Remove 1) 1)) ∷ [])))
    ∷ turn 99993 (Hand 3 (Claims (by 3 (Ack 0 0 (value (Remove 1) 1)) ∷ [])))
    ∷ turn 99993 (Hand 3 (Claims (by 3 (Ready 0 0 (value (Remove 1) 1)) ∷ [])))
    ∷ turn 99993 (Hand 0 (Claims (by 0 (Ready 0 0 (value (Remove 1) 1)) ∷ [])))
    ∷ turn 99993 (Hand 1 (Claims (by 1 (Ready 0 0 (value (Remove 1) 1)) ∷ [])))
    ∷ turn 99993 (Hand 0 (Claims (by 0 (Notify 1 (Add 1)) ∷ by 0 (End 1 0) ∷ [])))
    ∷ turn 99992 (Hand 3 (Claims (by 3 (End 1 0) ∷ [])))
    ∷ turn 99992 (Hand 0 (Claims (by 0 (Suggest 1 0 (value (Add 1) 0)) ∷ by 0 (Ack 1 0 (value (Add 1) 0)) ∷ by 0 (Notify 1 (Add 1))
    ∷ by 0 (End 1 0) ∷ by 2 (End 1 0) ∷ by 3 (End 1 0) ∷ [])))
    ∷ turn 99991 (Hand 3 (Claims (by 3 (Ack 1 0 (value (Add 1) 0)) ∷ [])))
    ∷ turn 99990 (Hand 3 (Claims (by 3 (Ready 1 0 (value (Add 1) 0)) ∷ [])))
    ∷ turn 99990 (Hand 0 (Claims (by 0 (Ready 1 0 (value (Add 1) 0)) ∷ [])))
    ∷ turn 99990 (Hand 1 (Wants 1 0))
    ∷ turn 99990 (Hand 1 (Claims (by 1 (Init 2 0 (99 ∷ [])) ∷ by 1 (Echo 2 (msg 1 0) (99 ∷ [])) ∷ [])))
    ∷ turn 99989 (Hand 0 (Claims (by 0 (Echo 2 (msg 1 0) (99 ∷ [])) ∷ [])))
    ∷ turn 99989 (Hand 3 (Claims (by 3 (Echo 2 (msg 1 0) (99 ∷ [])) ∷ [])))
    ∷ turn 99989 (Hand 0 (Claims (by 0 (Order 2 0 (msg 1 0 ∷ [])) ∷ by 0 (Place 2 0 (msg 1 0 ∷ [])) ∷ by 0 (Echo 2 (msg 1 0) (99 ∷ []))
    ∷ by 1 (Echo 2 (msg 1 0) (99 ∷ [])) ∷ by 2 (Echo 2 (msg 1 0) (99 ∷ [])) ∷ [])))
    ∷ turn 99988 (Hand 1 (Claims (by 1 (Place 2 0 (msg 1 0 ∷ [])) ∷ [])))
    ∷ turn 99987 (Hand 3 (Claims (by 3 (Place 2 0 (msg 1 0 ∷ [])) ∷ [])))
    ∷ turn 99987 (Hand 3 (Claims (by 3 (Keep 2 0 (msg 1 0 ∷ [])) ∷ [])))
    ∷ turn 99987 (Hand 0 (Claims (by 0 (Keep 2 0 (msg 1 0 ∷ [])) ∷ [])))
    ∷ turn 99987 (Hand 1 (Claims (by 1 (Keep 2 0 (msg 1 0 ∷ [])) ∷ [])))
    ∷ []

unfoldable pub answers_2 : List Seen
answers_2 = (
  None,
  ((Echo 0 (msg 1 0) (97 ∷ [])) ∷ []),
  (((0 ∷ 1 ∷ 3 ∷ []), (1 ∷ 1 ∷ 1 ∷ 0 ∷ 9 ∷ 2 ∷ 0 ∷ 0 ∷ 1 ∷ 0 ∷ 0 ∷ 0 ∷ 1 ∷ 97 ∷ 1 ∷ 2 ∷ 0 ∷ 0 ∷ [])) ∷ []),
  ([]),
)
    ∷ (None, ([]), ([]), ([]))
    ∷ (None, ([]), ([]), ([]))
    ∷ (
      None,
      ((Place 0 0 (msg 1 0 ∷ [])) ∷ []),
      (((0 ∷ 1 ∷ 3 ∷ []), (1 ∷ 1 ∷ 1 ∷ 0 ∷ 8 ∷ 4 ∷ 0 ∷ 0 ∷ 0 ∷ 0 ∷ 1 ∷ 0 ∷ 0 ∷ 1 ∷ 2 ∷ 0 ∷ 0 ∷ [])) ∷ []),
      ([]),
    )
    ∷ (
      None,
      ((Keep 0 0 (msg 1 0 ∷ [])) ∷ []),
      (((0 ∷ 1 ∷ 3 ∷ []), (1 ∷ 1 ∷ 1 ∷ 0 ∷ 8 ∷ 5 ∷ 0 ∷ 0 ∷ 0 ∷ 0 ∷ 1 ∷ 0 ∷ 0 ∷ 1 ∷ 2 ∷ 0 ∷ 0 ∷ [])) ∷ []),
      ([]),
    )
    ∷ (None, ([]), ([]), ([]))
    ∷ (None, ([]), ([]), ([]))
    ∷ (None, ([]), ([]), (Delivers 0 (record { place = 0; message = msg 1 0; payload = 97 ∷ [] }) ∷ []))
    ∷ (None, ([]), ([]), ([]))
    ∷ (None, ((Notify 0 (Remove 1)) ∷ []), (((0 ∷ 1 ∷ 3 ∷ []), (1 ∷ 1 ∷ 1 ∷ 0 ∷ 5 ∷ 6 ∷ 0 ∷ 0 ∷ 1 ∷ 1 ∷ 1 ∷ 2 ∷ 0 ∷ 0 ∷ [])) ∷ []), ([]))
    ∷ (None, ((End 0 1) ∷ []), (((0 ∷ 1 ∷ 3 ∷ []), (1 ∷ 1 ∷ 1 ∷ 0 ∷ 5 ∷ 7 ∷ 0 ∷ 0 ∷ 0 ∷ 1 ∷ 1 ∷ 2 ∷ 0 ∷ 0 ∷ [])) ∷ []), ([]))
    ∷ (None, ([]), ([]), ([]))
    ∷ (None, ([]), ([]), ([]))
    ∷ (None, ([]), ([]), ([]))
    ∷ (
      None,
      ((Ack 0 0 (value (Remove 1) 1)) ∷ []),
      (((0 ∷ 1 ∷ 3 ∷ []), (1 ∷ 1 ∷ 1 ∷ 0 ∷ 8 ∷ 10 ∷ 0 ∷ 0 ∷ 0 ∷ 1 ∷ 1 ∷ 0 ∷ 1 ∷ 1 ∷ 2 ∷ 0 ∷ 0 ∷ [])) ∷ []),
      ([]),
    )
    ∷ (
      None,
      ((Ready 0 0 (value (Remove 1) 1)) ∷ []),
      (((0 ∷ 1 ∷ 3 ∷ []), (1 ∷ 1 ∷ 1 ∷ 0 ∷ 8 ∷ 11 ∷ 0 ∷ 0 ∷ 0 ∷ 1 ∷ 1 ∷ 0 ∷ 1 ∷ 1 ∷ 2 ∷ 0 ∷ 0 ∷ [])) ∷ []),
      ([]),
    )
    ∷ (None, ([]), ([]), ([]))
    ∷ (None, ([]), ([]), ([]))
    ∷ (None, ([]), ([]), (Installs (record { number = 1; members = 0 ∷ 2 ∷ 3 ∷ [] }) ∷ []))
    ∷ (None, ([]), ([]), ([]))
    ∷ (None, ((End 1 0) ∷ []), (((0 ∷ 3 ∷ []), (1 ∷ 1 ∷ 1 ∷ 0 ∷ 5 ∷ 7 ∷ 0 ∷ 1 ∷ 0 ∷ 0 ∷ 1 ∷ 2 ∷ 0 ∷ 0 ∷ [])) ∷ []), ([]))
    ∷ (None, ([]), ([]), ([]))
    ∷ (
      None,
      ((Ack 1 0 (value (Add 1) 0)) ∷ []),
      (((0 ∷ 3 ∷ []), (1 ∷ 1 ∷ 1 ∷ 0 ∷ 8 ∷ 10 ∷ 0 ∷ 1 ∷ 0 ∷ 2 ∷ 1 ∷ 0 ∷ 0 ∷ 1 ∷ 2 ∷ 0 ∷ 0 ∷ [])) ∷ []),
      ([]),
    )
    ∷ (
      None,
      ((Ready 1 0 (value (Add 1) 0)) ∷ []),
      (((0 ∷ 3 ∷ []), (1 ∷ 1 ∷ 1 ∷ 0 ∷ 8 ∷ 11 ∷ 0 ∷ 1 ∷ 0 ∷ 2 ∷ 1 ∷ 0 ∷ 0 ∷ 1 ∷ 2 ∷ 0 ∷ 0 ∷ [])) ∷ []),
      ([]),
    )
    ∷ (None, ([]), ([]), ([]))
    ∷ (None, ([]), ([]), (Installs (record { number = 2; members = 0 ∷ 2 ∷ 3 ∷ 1 ∷ [] }) ∷ []))
    ∷ (
      None,
      ([]),
      (((1 ∷ []), (1 ∷ 2 ∷ 1 ∷ 0 ∷ 8 ∷ 11 ∷ 0 ∷ 1 ∷ 0 ∷ 2 ∷ 1 ∷ 0 ∷ 0 ∷ 3 ∷ 0 ∷ 0 ∷ 0 ∷ 2 ∷ 0 ∷ 0 ∷ 3 ∷ 0 ∷ 0 ∷ [])) ∷ []),
      ([]),
    )
    ∷ (
      None,
      ((Echo 2 (msg 1 0) (99 ∷ [])) ∷ []),
      (((0 ∷ 1 ∷ 3 ∷ []), (1 ∷ 1 ∷ 1 ∷ 0 ∷ 9 ∷ 2 ∷ 0 ∷ 2 ∷ 1 ∷ 0 ∷ 0 ∷ 0 ∷ 1 ∷ 99 ∷ 1 ∷ 2 ∷ 0 ∷ 0 ∷ [])) ∷ []),
      ([]),
    )
    ∷ (None, ([]), ([]), ([]))
    ∷ (None, ([]), ([]), ([]))
    ∷ (
      None,
      ((Place 2 0 (msg 1 0 ∷ [])) ∷ []),
      (((0 ∷ 1 ∷ 3 ∷ []), (1 ∷ 1 ∷ 1 ∷ 0 ∷ 8 ∷ 4 ∷ 0 ∷ 2 ∷ 0 ∷ 0 ∷ 1 ∷ 0 ∷ 0 ∷ 1 ∷ 2 ∷ 0 ∷ 0 ∷ [])) ∷ []),
      ([]),
    )
    ∷ (
      None,
      ((Keep 2 0 (msg 1 0 ∷ [])) ∷ []),
      (((0 ∷ 1 ∷ 3 ∷ []), (1 ∷ 1 ∷ 1 ∷ 0 ∷ 8 ∷ 5 ∷ 0 ∷ 2 ∷ 0 ∷ 0 ∷ 1 ∷ 0 ∷ 0 ∷ 1 ∷ 2 ∷ 0 ∷ 0 ∷ [])) ∷ []),
      ([]),
    )
    ∷ (None, ([]), ([]), ([]))
    ∷ (None, ([]), ([]), ([]))
    ∷ (None, ([]), ([]), (Delivers 2 (record { place = 0; message = msg 1 0; payload = 99 ∷ [] }) ∷ []))
    ∷ (None, ([]), ([]), ([]))
    ∷ []

unfoldable pub turns_3 : List Turn
turns_3 =
    turn 100000 (Hand 1 (Claims (by 1 (Init 0 0 (97 ∷ [])) ∷ by 1 (Echo 0 (msg 1 0) (97 ∷ [])) ∷ [])))
    ∷ turn 99999 (Hand 0 (Claims (by 0 (Echo 0 (msg 1 0) (97 ∷ [])) ∷ [])))
    ∷ turn 99999 (Hand 2 (Claims (by 2 (Echo 0 (msg 1 0) (97 ∷ [])) ∷ [])))
    ∷ turn 99999 (Hand 0 (Claims (by 0 (Order 0 0 (msg 1 0 ∷ [])) ∷ by 0 (Place 0 0 (msg 1 0 ∷ [])) ∷ by 0 (Echo 0 (msg 1 0) (97 ∷ []))
    ∷ by 1 (Echo 0 (msg 1 0) (97 ∷ [])) ∷ by 2 (Echo 0 (msg 1 0) (97 ∷ [])) ∷ [])))
    ∷ turn 99998 (Hand 1 (Claims (by 1 (Place 0 0 (msg 1 0 ∷ [])) ∷ [])))
    ∷ turn 99997 (Hand 2 (Claims (by 2 (Place 0 0 (msg 1 0 ∷ [])) ∷ [])))
    ∷ turn 99997 (Hand 2 (Claims (by 2 (Keep 0 0 (msg 1 0 ∷ [])) ∷ [])))
    ∷ turn 99997 (Hand 0 (Claims (by 0 (Keep 0 0 (msg 1 0 ∷ [])) ∷ [])))
    ∷ turn 99997 (Hand 1 (Claims (by 1 (Keep 0 0 (msg 1 0 ∷ [])) ∷ [])))
    ∷ turn 99997 (Hand 0 (Claims (by 0 (Notify 0 (Remove 1)) ∷ [])))
    ∷ turn 99997 (Hand 2 (Claims (by 2 (Notify 0 (Remove 1)) ∷ [])))
    ∷ turn 99996 (Hand 2 (Claims (by 2 (End 0 1) ∷ [])))
    ∷ turn 99996 (Hand 0 (Claims (by 0 (End 0 1) ∷ [])))
    ∷ turn 99996 (Hand 1 (Claims (by 1 (End 0 1) ∷ [])))
    ∷ turn 99996 (Hand 0 (Claims (by 0 (Suggest 0 0 (value (Remove 1) 1)) ∷ by 0 (Ack 0 0 (value (Remove 1) 1))
    ∷ by 0 (Place 0 0 (msg 1 0 ∷ [])) ∷ by 1 (Place 0 0 (msg 1 0 ∷ [])) ∷ by 2 (Place 0 0 (msg 1 0 ∷ []))
    ∷ by 3 (Place 0 0 (msg 1 0 ∷ [])) ∷ by 0 (Notify 0 (Remove 1)) ∷ by 2 (Notify 0 (Remove 1)) ∷ by 0 (End 0 1) ∷ by 1 (End 0 1)
    ∷ by 2 (End 0 1) ∷ [])))
    ∷ turn 99995 (Hand 1 (Claims (by 1 (Ack 0 0 (value (Remove 1) 1)) ∷ [])))
    ∷ turn 99994 (Hand 2 (Claims (by 2 (Ack 0 0 (value (Remove 1) 1)) ∷ [])))
    ∷ turn 99994 (Hand 2 (Claims (by 2 (Ready 0 0 (value (Remove 1) 1)) ∷ [])))
    ∷ turn 99994 (Hand 0 (Claims (by 0 (Ready 0 0 (value (Remove 1) 1)) ∷ [])))
    ∷ turn 99994 (Hand 1 (Claims (by 1 (Ready 0 0 (value (Remove 1) 1)) ∷ [])))
    ∷ turn 99994 (Hand 0 (Claims (by 0 (Notify 1 (Add 1)) ∷ by 0 (End 1 0) ∷ [])))
    ∷ turn 99993 (Hand 2 (Claims (by 2 (End 1 0) ∷ [])))
    ∷ turn 99993 (Hand 0 (Claims (by 0 (Suggest 1 0 (value (Add 1) 0)) ∷ by 0 (Ack 1 0 (value (Add 1) 0)) ∷ by 0 (Notify 1 (Add 1))
    ∷ by 0 (End 1 0) ∷ by 2 (End 1 0) ∷ by 3 (End 1 0) ∷ [])))
    ∷ turn 99992 (Hand 2 (Claims (by 2 (Ack 1 0 (value (Add 1) 0)) ∷ [])))
    ∷ turn 99991 (Hand 0 (Claims (by 0 (Ready 1 0 (value (Add 1) 0)) ∷ [])))
    ∷ turn 99991 (Hand 2 (Claims (by 2 (Ready 1 0 (value (Add 1) 0)) ∷ [])))
    ∷ turn 99991 (Hand 1 (Wants 1 0))
    ∷ turn 99991 (Hand 1 (Claims (by 1 (Init 2 0 (99 ∷ [])) ∷ by 1 (Echo 2 (msg 1 0) (99 ∷ [])) ∷ [])))
    ∷ turn 99990 (Hand 0 (Claims (by 0 (Echo 2 (msg 1 0) (99 ∷ [])) ∷ [])))
    ∷ turn 99990 (Hand 2 (Claims (by 2 (Echo 2 (msg 1 0) (99 ∷ [])) ∷ [])))
    ∷ turn 99990 (Hand 0 (Claims (by 0 (Order 2 0 (msg 1 0 ∷ [])) ∷ by 0 (Place 2 0 (msg 1 0 ∷ [])) ∷ by 0 (Echo 2 (msg 1 0) (99 ∷ []))
    ∷ by 1 (Echo 2 (msg 1 0) (99 ∷ [])) ∷ by 2 (Echo 2 (msg 1 0) (99 ∷ [])) ∷ [])))
    ∷ turn 99989 (Hand 1 (Claims (by 1 (Place 2 0 (msg 1 0 ∷ [])) ∷ [])))
    ∷ turn 99988 (Hand 2 (Claims (by 2 (Place 2 0 (msg 1 0 ∷ [])) ∷ [])))
    ∷ turn 99988 (Hand 2 (Claims (by 2 (Keep 2 0 (msg 1 0 ∷ [])) ∷ [])))
    ∷ turn 99988 (Hand 0 (Claims (by 0 (Keep 2 0 (msg 1 0 ∷ [])) ∷ [])))
    ∷ turn 99988 (Hand 1 (Claims (by 1 (Keep 2 0 (msg 1 0 ∷ [])) ∷ [])))
    ∷ []

unfoldable pub answers_3 : List Seen
answers_3 = (
  None,
  ((Echo 0 (msg 1 0) (97 ∷ [])) ∷ []),
  (((0 ∷ 1 ∷ 2 ∷ []), (1 ∷ 1 ∷ 1 ∷ 0 ∷ 9 ∷ 2 ∷ 0 ∷ 0 ∷ 1 ∷ 0 ∷ 0 ∷ 0 ∷ 1 ∷ 97 ∷ 1 ∷ 3 ∷ 0 ∷ 0 ∷ [])) ∷ []),
  ([]),
)
    ∷ (None, ([]), ([]), ([]))
    ∷ (None, ([]), ([]), ([]))
    ∷ (
      None,
      ((Place 0 0 (msg 1 0 ∷ [])) ∷ []),
      (((0 ∷ 1 ∷ 2 ∷ []), (1 ∷ 1 ∷ 1 ∷ 0 ∷ 8 ∷ 4 ∷ 0 ∷ 0 ∷ 0 ∷ 0 ∷ 1 ∷ 0 ∷ 0 ∷ 1 ∷ 3 ∷ 0 ∷ 0 ∷ [])) ∷ []),
      ([]),
    )
    ∷ (
      None,
      ((Keep 0 0 (msg 1 0 ∷ [])) ∷ []),
      (((0 ∷ 1 ∷ 2 ∷ []), (1 ∷ 1 ∷ 1 ∷ 0 ∷ 8 ∷ 5 ∷ 0 ∷ 0 ∷ 0 ∷ 0 ∷ 1 ∷ 0 ∷ 0 ∷ 1 ∷ 3 ∷ 0 ∷ 0 ∷ [])) ∷ []),
      ([]),
    )
    ∷ (None, ([]), ([]), ([]))
    ∷ (None, ([]), ([]), ([]))
    ∷ (None, ([]), ([]), (Delivers 0 (record { place = 0; message = msg 1 0; payload = 97 ∷ [] }) ∷ []))
    ∷ (None, ([]), ([]), ([]))
    ∷ (None, ([]), ([]), ([]))
    ∷ (None, ((End 0 1) ∷ []), (((0 ∷ 1 ∷ 2 ∷ []), (1 ∷ 1 ∷ 1 ∷ 0 ∷ 5 ∷ 7 ∷ 0 ∷ 0 ∷ 0 ∷ 1 ∷ 1 ∷ 3 ∷ 0 ∷ 0 ∷ [])) ∷ []), ([]))
    ∷ (None, ([]), ([]), ([]))
    ∷ (None, ([]), ([]), ([]))
    ∷ (None, ([]), ([]), ([]))
    ∷ (
      None,
      ((Ack 0 0 (value (Remove 1) 1)) ∷ []),
      (((0 ∷ 1 ∷ 2 ∷ []), (1 ∷ 1 ∷ 1 ∷ 0 ∷ 8 ∷ 10 ∷ 0 ∷ 0 ∷ 0 ∷ 1 ∷ 1 ∷ 0 ∷ 1 ∷ 1 ∷ 3 ∷ 0 ∷ 0 ∷ [])) ∷ []),
      ([]),
    )
    ∷ (
      None,
      ((Ready 0 0 (value (Remove 1) 1)) ∷ []),
      (((0 ∷ 1 ∷ 2 ∷ []), (1 ∷ 1 ∷ 1 ∷ 0 ∷ 8 ∷ 11 ∷ 0 ∷ 0 ∷ 0 ∷ 1 ∷ 1 ∷ 0 ∷ 1 ∷ 1 ∷ 3 ∷ 0 ∷ 0 ∷ [])) ∷ []),
      ([]),
    )
    ∷ (None, ([]), ([]), ([]))
    ∷ (None, ([]), ([]), ([]))
    ∷ (None, ([]), ([]), (Installs (record { number = 1; members = 0 ∷ 2 ∷ 3 ∷ [] }) ∷ []))
    ∷ (None, ([]), ([]), ([]))
    ∷ (None, ((End 1 0) ∷ []), (((0 ∷ 2 ∷ []), (1 ∷ 1 ∷ 1 ∷ 0 ∷ 5 ∷ 7 ∷ 0 ∷ 1 ∷ 0 ∷ 0 ∷ 1 ∷ 3 ∷ 0 ∷ 0 ∷ [])) ∷ []), ([]))
    ∷ (None, ([]), ([]), ([]))
    ∷ (
      None,
      ((Ack 1 0 (value (Add 1) 0)) ∷ []),
      (((0 ∷ 2 ∷ []), (1 ∷ 1 ∷ 1 ∷ 0 ∷ 8 ∷ 10 ∷ 0 ∷ 1 ∷ 0 ∷ 2 ∷ 1 ∷ 0 ∷ 0 ∷ 1 ∷ 3 ∷ 0 ∷ 0 ∷ [])) ∷ []),
      ([]),
    )
    ∷ (
      None,
      ((Ready 1 0 (value (Add 1) 0)) ∷ []),
      (((0 ∷ 2 ∷ []), (1 ∷ 1 ∷ 1 ∷ 0 ∷ 8 ∷ 11 ∷ 0 ∷ 1 ∷ 0 ∷ 2 ∷ 1 ∷ 0 ∷ 0 ∷ 1 ∷ 3 ∷ 0 ∷ 0 ∷ [])) ∷ []),
      ([]),
    )
    ∷ (None, ([]), ([]), ([]))
    ∷ (None, ([]), ([]), (Installs (record { number = 2; members = 0 ∷ 2 ∷ 3 ∷ 1 ∷ [] }) ∷ []))
    ∷ (
      None,
      ([]),
      (((1 ∷ []), (1 ∷ 2 ∷ 1 ∷ 0 ∷ 8 ∷ 11 ∷ 0 ∷ 1 ∷ 0 ∷ 2 ∷ 1 ∷ 0 ∷ 0 ∷ 3 ∷ 0 ∷ 0 ∷ 0 ∷ 2 ∷ 0 ∷ 0 ∷ 3 ∷ 0 ∷ 0 ∷ [])) ∷ []),
      ([]),
    )
    ∷ (
      None,
      ((Echo 2 (msg 1 0) (99 ∷ [])) ∷ []),
      (((0 ∷ 1 ∷ 2 ∷ []), (1 ∷ 1 ∷ 1 ∷ 0 ∷ 9 ∷ 2 ∷ 0 ∷ 2 ∷ 1 ∷ 0 ∷ 0 ∷ 0 ∷ 1 ∷ 99 ∷ 1 ∷ 3 ∷ 0 ∷ 0 ∷ [])) ∷ []),
      ([]),
    )
    ∷ (None, ([]), ([]), ([]))
    ∷ (None, ([]), ([]), ([]))
    ∷ (
      None,
      ((Place 2 0 (msg 1 0 ∷ [])) ∷ []),
      (((0 ∷ 1 ∷ 2 ∷ []), (1 ∷ 1 ∷ 1 ∷ 0 ∷ 8 ∷ 4 ∷ 0 ∷ 2 ∷ 0 ∷ 0 ∷ 1 ∷ 0 ∷ 0 ∷ 1 ∷ 3 ∷ 0 ∷ 0 ∷ [])) ∷ []),
      ([]),
    )
    ∷ (
      None,
      ((Keep 2 0 (msg 1 0 ∷ [])) ∷ []),
      (((0 ∷ 1 ∷ 2 ∷ []), (1 ∷ 1 ∷ 1 ∷ 0 ∷ 8 ∷ 5 ∷ 0 ∷ 2 ∷ 0 ∷ 0 ∷ 1 ∷ 0 ∷ 0 ∷ 1 ∷ 3 ∷ 0 ∷ 0 ∷ [])) ∷ []),
      ([]),
    )
    ∷ (None, ([]), ([]), ([]))
    ∷ (None, ([]), ([]), ([]))
    ∷ (None, ([]), ([]), (Delivers 2 (record { place = 0; message = msg 1 0; payload = 99 ∷ [] }) ∷ []))
    ∷ (None, ([]), ([]), ([]))
    ∷ []

unfoldable pub f : Family
f = record {
  setting = s;
  correct =
      (record { me = 0; batch_limit = 1; turns = turns_0 } ∷ record { me = 1; batch_limit = 1; turns = turns_1 }
      ∷ record { me = 2; batch_limit = 1; turns = turns_2 } ∷ record { me = 3; batch_limit = 1; turns = turns_3 } ∷ []);
}

-- the row: what the definitions give
pub record RemovedAndAdded : Type 0 where
  pub row_0 : seen s (start s 0 1) turns_0 ≡ answers_0
  pub row_1 : seen s (start s 1 1) turns_1 ≡ answers_1
  pub row_2 : seen s (start s 2 1) turns_2 ≡ answers_2
  pub row_3 : seen s (start s 3 1) turns_3 ≡ answers_3
  pub judged : honest f ∷ bounded (accounts f) (numbers f) ∷ agree (accounts f) ∷ sound (accounts f) (keyed f.setting) ∷ []
      ≡ true ∷ true ∷ true ∷ true ∷ []
  pub premises : Premises f
