-- The manager asks to renew the view, and all install the next one.
-- Names here (* for this crate alone):
--   s*, turns_0*, answers_0*, turns_1*, answers_1*, turns_2*, answers_2*, turns_3*, answers_3*, f*, ManagerRenews*
use Rattle.std.specs.Prelude.{◌≡◌, List, [], ◌∷◌, true, None}
use Rattle.message_defs.specs.Updates.{Renew}
use Rattle.message_defs.specs.Statements.{Notify, End, Suggest, Ack, Ready}
use Rattle.group_defs.specs.Process.{Setting, start, keyed}
use Rattle.message_defs.specs.Claims.{Claims}
use Rattle.group_defs.specs.Events.{Turn, Hand, RenewView, Installs}
use Rattle.group_rows.specs.Scripts.{Seen, seen, setting, turn, by, value}
use Rattle.group_defs.specs.Accounts.{bounded, agree, sound}
use Rattle.group_defs.specs.Family.{Family, accounts, numbers, honest}
use Rattle.group_defs.specs.Laws.{Premises}

unfoldable pub s : Setting
s = setting (0 ∷ 1 ∷ 2 ∷ 3 ∷ []) (0 ∷ 1 ∷ 2 ∷ 3 ∷ [])

unfoldable pub turns_0 : List Turn
turns_0 =
    turn 100000 (RenewView)
    ∷ turn 99999 (Hand 1 (Claims (by 1 (Notify 0 Renew) ∷ [])))
    ∷ turn 99998 (Hand 1 (Claims (by 1 (End 0 0) ∷ [])))
    ∷ turn 99998 (Hand 2 (Claims (by 2 (End 0 0) ∷ [])))
    ∷ turn 99996 (Hand 3 (Claims (by 3 (End 0 0) ∷ [])))
    ∷ turn 99996 (Hand 1 (Claims (by 1 (Ack 0 0 (value Renew 0)) ∷ [])))
    ∷ turn 99996 (Hand 2 (Claims (by 2 (Ack 0 0 (value Renew 0)) ∷ [])))
    ∷ turn 99995 (Hand 3 (Claims (by 3 (Ack 0 0 (value Renew 0)) ∷ [])))
    ∷ turn 99995 (Hand 2 (Claims (by 2 (Ready 0 0 (value Renew 0)) ∷ [])))
    ∷ turn 99995 (Hand 3 (Claims (by 3 (Ready 0 0 (value Renew 0)) ∷ [])))
    ∷ turn 99995 (Hand 1 (Claims (by 1 (Ready 0 0 (value Renew 0)) ∷ [])))
    ∷ []

unfoldable pub answers_0 : List Seen
answers_0 =
    (None, ((Notify 0 Renew) ∷ []), (((1 ∷ 2 ∷ 3 ∷ []), (1 ∷ 1 ∷ 1 ∷ 0 ∷ 5 ∷ 6 ∷ 0 ∷ 0 ∷ 3 ∷ 0 ∷ 1 ∷ 0 ∷ 0 ∷ 0 ∷ [])) ∷ []), ([]))
    ∷ (None, ((End 0 0) ∷ []), (((1 ∷ 2 ∷ 3 ∷ []), (1 ∷ 1 ∷ 1 ∷ 0 ∷ 5 ∷ 7 ∷ 0 ∷ 0 ∷ 0 ∷ 0 ∷ 1 ∷ 0 ∷ 0 ∷ 0 ∷ [])) ∷ []), ([]))
    ∷ (None, ([]), ([]), ([]))
    ∷ (
      None,
      ((Suggest 0 0 (value Renew 0)) ∷ (Ack 0 0 (value Renew 0)) ∷ []),
      ((
        (1 ∷ 2 ∷ 3 ∷ []),
        (1 ∷ 1 ∷ 4 ∷ 0 ∷ 8 ∷ 9 ∷ 0 ∷ 0 ∷ 0 ∷ 3 ∷ 0 ∷ 0 ∷ 0 ∷ 1 ∷ 0 ∷ 0 ∷ 0 ∷ 0 ∷ 8 ∷ 10 ∷ 0 ∷ 0 ∷ 0 ∷ 3 ∷ 0 ∷ 0 ∷ 0 ∷ 1
            ∷ 0 ∷ 0 ∷ 0 ∷ 0 ∷ 5 ∷ 6 ∷ 0 ∷ 0 ∷ 3 ∷ 0 ∷ 2 ∷ 0 ∷ 0 ∷ 0 ∷ 1 ∷ 0 ∷ 0 ∷ 0 ∷ 5 ∷ 7 ∷ 0 ∷ 0 ∷ 0 ∷ 0 ∷ 3 ∷ 0 ∷ 0 ∷ 0 ∷ 1 ∷ 0 ∷ 0 ∷ 2
            ∷ 0
            ∷ 0 ∷ []),
      ) ∷ []),
      ([]),
    )
    ∷ (None, ([]), ([]), ([]))
    ∷ (None, ([]), ([]), ([]))
    ∷ (
      None,
      ((Ready 0 0 (value Renew 0)) ∷ []),
      (((1 ∷ 2 ∷ 3 ∷ []), (1 ∷ 1 ∷ 1 ∷ 0 ∷ 8 ∷ 11 ∷ 0 ∷ 0 ∷ 0 ∷ 3 ∷ 0 ∷ 0 ∷ 0 ∷ 1 ∷ 0 ∷ 0 ∷ 0 ∷ [])) ∷ []),
      ([]),
    )
    ∷ (None, ([]), ([]), ([]))
    ∷ (None, ([]), ([]), ([]))
    ∷ (None, ([]), ([]), (Installs (record { number = 1; members = 0 ∷ 1 ∷ 2 ∷ 3 ∷ [] }) ∷ []))
    ∷ (None, ([]), ([]), ([]))
    ∷ []

unfoldable pub turns_1 : List Turn
turns_1 =
    turn 100000 (RenewView)
    ∷ turn 99999 (Hand 0 (Claims (by 0 (Notify 0 Renew) ∷ [])))
    ∷ turn 99998 (Hand 0 (Claims (by 0 (End 0 0) ∷ [])))
    ∷ turn 99998 (Hand 2 (Claims (by 2 (End 0 0) ∷ [])))
    ∷ turn 99998 (Hand 3 (Claims (by 3 (End 0 0) ∷ [])))
    ∷ turn 99998 (Hand 0 (Claims (by 0 (Suggest 0 0 (value Renew 0)) ∷ by 0 (Ack 0 0 (value Renew 0)) ∷ by 0 (Notify 0 Renew)
    ∷ by 1 (Notify 0 Renew) ∷ by 0 (End 0 0) ∷ by 1 (End 0 0) ∷ by 2 (End 0 0) ∷ [])))
    ∷ turn 99997 (Hand 2 (Claims (by 2 (Ack 0 0 (value Renew 0)) ∷ [])))
    ∷ turn 99996 (Hand 3 (Claims (by 3 (Ack 0 0 (value Renew 0)) ∷ [])))
    ∷ turn 99996 (Hand 2 (Claims (by 2 (Ready 0 0 (value Renew 0)) ∷ [])))
    ∷ turn 99996 (Hand 3 (Claims (by 3 (Ready 0 0 (value Renew 0)) ∷ [])))
    ∷ turn 99996 (Hand 0 (Claims (by 0 (Ready 0 0 (value Renew 0)) ∷ [])))
    ∷ []

unfoldable pub answers_1 : List Seen
answers_1 =
    (None, ((Notify 0 Renew) ∷ []), (((0 ∷ 2 ∷ 3 ∷ []), (1 ∷ 1 ∷ 1 ∷ 0 ∷ 5 ∷ 6 ∷ 0 ∷ 0 ∷ 3 ∷ 0 ∷ 1 ∷ 1 ∷ 0 ∷ 0 ∷ [])) ∷ []), ([]))
    ∷ (None, ((End 0 0) ∷ []), (((0 ∷ 2 ∷ 3 ∷ []), (1 ∷ 1 ∷ 1 ∷ 0 ∷ 5 ∷ 7 ∷ 0 ∷ 0 ∷ 0 ∷ 0 ∷ 1 ∷ 1 ∷ 0 ∷ 0 ∷ [])) ∷ []), ([]))
    ∷ (None, ([]), ([]), ([]))
    ∷ (None, ([]), ([]), ([]))
    ∷ (None, ([]), ([]), ([]))
    ∷ (
      None,
      ((Ack 0 0 (value Renew 0)) ∷ []),
      (((0 ∷ 2 ∷ 3 ∷ []), (1 ∷ 1 ∷ 1 ∷ 0 ∷ 8 ∷ 10 ∷ 0 ∷ 0 ∷ 0 ∷ 3 ∷ 0 ∷ 0 ∷ 0 ∷ 1 ∷ 1 ∷ 0 ∷ 0 ∷ [])) ∷ []),
      ([]),
    )
    ∷ (
      None,
      ((Ready 0 0 (value Renew 0)) ∷ []),
      (((0 ∷ 2 ∷ 3 ∷ []), (1 ∷ 1 ∷ 1 ∷ 0 ∷ 8 ∷ 11 ∷ 0 ∷ 0 ∷ 0 ∷ 3 ∷ 0 ∷ 0 ∷ 0 ∷ 1 ∷ 1 ∷ 0 ∷ 0 ∷ [])) ∷ []),
      ([]),
    )
    ∷ (None, ([]), ([]), ([]))
    ∷ (None, ([]), ([]), ([]))
    ∷ (None, ([]), ([]), (Installs (record { number = 1; members = 0 ∷ 1 ∷ 2 ∷ 3 ∷ [] }) ∷ []))
    ∷ (None, ([]), ([]), ([]))
    ∷ []

unfoldable pub turns_2 : List Turn
turns_2 =
    turn 100000 (Hand 0 (Claims (by 0 (Notify 0 Renew) ∷ [])))
    ∷ turn 100000 (Hand 1 (Claims (by 1 (Notify 0 Renew) ∷ [])))
    ∷ turn 99999 (Hand 1 (Claims (by 1 (End 0 0) ∷ [])))
    ∷ turn 99999 (Hand 0 (Claims (by 0 (End 0 0) ∷ [])))
    ∷ turn 99999 (Hand 3 (Claims (by 3 (End 0 0) ∷ [])))
    ∷ turn 99999 (Hand 0 (Claims (by 0 (Suggest 0 0 (value Renew 0)) ∷ by 0 (Ack 0 0 (value Renew 0)) ∷ by 0 (Notify 0 Renew)
    ∷ by 1 (Notify 0 Renew) ∷ by 0 (End 0 0) ∷ by 1 (End 0 0) ∷ by 2 (End 0 0) ∷ [])))
    ∷ turn 99998 (Hand 1 (Claims (by 1 (Ack 0 0 (value Renew 0)) ∷ [])))
    ∷ turn 99997 (Hand 3 (Claims (by 3 (Ack 0 0 (value Renew 0)) ∷ [])))
    ∷ turn 99997 (Hand 3 (Claims (by 3 (Ready 0 0 (value Renew 0)) ∷ [])))
    ∷ turn 99997 (Hand 0 (Claims (by 0 (Ready 0 0 (value Renew 0)) ∷ [])))
    ∷ turn 99997 (Hand 1 (Claims (by 1 (Ready 0 0 (value Renew 0)) ∷ [])))
    ∷ []

unfoldable pub answers_2 : List Seen
answers_2 =
    (None, ([]), ([]), ([]))
    ∷ (None, ((End 0 0) ∷ []), (((0 ∷ 1 ∷ 3 ∷ []), (1 ∷ 1 ∷ 1 ∷ 0 ∷ 5 ∷ 7 ∷ 0 ∷ 0 ∷ 0 ∷ 0 ∷ 1 ∷ 2 ∷ 0 ∷ 0 ∷ [])) ∷ []), ([]))
    ∷ (None, ([]), ([]), ([]))
    ∷ (None, ([]), ([]), ([]))
    ∷ (None, ([]), ([]), ([]))
    ∷ (
      None,
      ((Ack 0 0 (value Renew 0)) ∷ []),
      (((0 ∷ 1 ∷ 3 ∷ []), (1 ∷ 1 ∷ 1 ∷ 0 ∷ 8 ∷ 10 ∷ 0 ∷ 0 ∷ 0 ∷ 3 ∷ 0 ∷ 0 ∷ 0 ∷ 1 ∷ 2 ∷ 0 ∷ 0 ∷ [])) ∷ []),
      ([]),
    )
    ∷ (
      None,
      ((Ready 0 0 (value Renew 0)) ∷ []),
      (((0 ∷ 1 ∷ 3 ∷ []), (1 ∷ 1 ∷ 1 ∷ 0 ∷ 8 ∷ 11 ∷ 0 ∷ 0 ∷ 0 ∷ 3 ∷ 0 ∷ 0 ∷ 0 ∷ 1 ∷ 2 ∷ 0 ∷ 0 ∷ [])) ∷ []),
      ([]),
    )
    ∷ (None, ([]), ([]), ([]))
    ∷ (None, ([]), ([]), ([]))
    ∷ (None, ([]), ([]), (Installs (record { number = 1; members = 0 ∷ 1 ∷ 2 ∷ 3 ∷ [] }) ∷ []))
    ∷ (None, ([]), ([]), ([]))
    ∷ []

unfoldable pub turns_3 : List Turn
turns_3 =
    turn 100000 (Hand 0 (Claims (by 0 (Notify 0 Renew) ∷ [])))
    ∷ turn 100000 (Hand 1 (Claims (by 1 (Notify 0 Renew) ∷ [])))
    ∷ turn 99999 (Hand 1 (Claims (by 1 (End 0 0) ∷ [])))
    ∷ turn 99999 (Hand 0 (Claims (by 0 (End 0 0) ∷ [])))
    ∷ turn 99999 (Hand 2 (Claims (by 2 (End 0 0) ∷ [])))
    ∷ turn 99999 (Hand 0 (Claims (by 0 (Suggest 0 0 (value Renew 0)) ∷ by 0 (Ack 0 0 (value Renew 0)) ∷ by 0 (Notify 0 Renew)
    ∷ by 1 (Notify 0 Renew) ∷ by 0 (End 0 0) ∷ by 1 (End 0 0) ∷ by 2 (End 0 0) ∷ [])))
    ∷ turn 99998 (Hand 1 (Claims (by 1 (Ack 0 0 (value Renew 0)) ∷ [])))
    ∷ turn 99997 (Hand 2 (Claims (by 2 (Ack 0 0 (value Renew 0)) ∷ [])))
    ∷ turn 99997 (Hand 2 (Claims (by 2 (Ready 0 0 (value Renew 0)) ∷ [])))
    ∷ turn 99997 (Hand 0 (Claims (by 0 (Ready 0 0 (value Renew 0)) ∷ [])))
    ∷ turn 99997 (Hand 1 (Claims (by 1 (Ready 0 0 (value Renew 0)) ∷ [])))
    ∷ []

unfoldable pub answers_3 : List Seen
answers_3 =
    (None, ([]), ([]), ([]))
    ∷ (None, ((End 0 0) ∷ []), (((0 ∷ 1 ∷ 2 ∷ []), (1 ∷ 1 ∷ 1 ∷ 0 ∷ 5 ∷ 7 ∷ 0 ∷ 0 ∷ 0 ∷ 0 ∷ 1 ∷ 3 ∷ 0 ∷ 0 ∷ [])) ∷ []), ([]))
    ∷ (None, ([]), ([]), ([]))
    ∷ (None, ([]), ([]), ([]))
    ∷ (None, ([]), ([]), ([]))
    ∷ (
      None,
      ((Ack 0 0 (value Renew 0)) ∷ []),
      (((0 ∷ 1 ∷ 2 ∷ []), (1 ∷ 1 ∷ 1 ∷ 0 ∷ 8 ∷ 10 ∷ 0 ∷ 0 ∷ 0 ∷ 3 ∷ 0 ∷ 0 ∷ 0 ∷ 1 ∷ 3 ∷ 0 ∷ 0 ∷ [])) ∷ []),
      ([]),
    )
    ∷ (
      None,
      ((Ready 0 0 (value Renew 0)) ∷ []),
      (((0 ∷ 1 ∷ 2 ∷ []), (1 ∷ 1 ∷ 1 ∷ 0 ∷ 8 ∷ 11 ∷ 0 ∷ 0 ∷ 0 ∷ 3 ∷ 0 ∷ 0 ∷ 0 ∷ 1 ∷ 3 ∷ 0 ∷ 0 ∷ [])) ∷ []),
      ([]),
    )
    ∷ (None, ([]), ([]), ([]))
    ∷ (None, ([]), ([]), ([]))
    ∷ (None, ([]), ([]), (Installs (record { number = 1; members = 0 ∷ 1 ∷ 2 ∷ 3 ∷ [] }) ∷ []))
    ∷ (None, ([]), ([]), ([]))
    ∷ []

unfoldable pub f : Family
f = record {
  setting = s;
  correct =
      (record { me = 0; batch_limit = 1; turns = turns_0 } ∷ record { me = 1; batch_limit = 1; turns = turns_1 }
      ∷ record { me = 2; batch_limit = 1; turns = turns_2 } ∷ record { me = 3; batch_limit = 1; turns = turns_3 } ∷ []);
}

-- the row: what the definitions give
pub record ManagerRenews : Type 0 where
  pub row_0 : seen s (start s 0 1) turns_0 ≡ answers_0
  pub row_1 : seen s (start s 1 1) turns_1 ≡ answers_1
  pub row_2 : seen s (start s 2 1) turns_2 ≡ answers_2
  pub row_3 : seen s (start s 3 1) turns_3 ≡ answers_3
  pub judged : honest f ∷ bounded (accounts f) (numbers f) ∷ agree (accounts f) ∷ sound (accounts f) (keyed f.setting) ∷ []
      ≡ true ∷ true ∷ true ∷ true ∷ []
  pub premises : Premises f
