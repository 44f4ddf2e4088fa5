-- Frames with each fault are refused, and change nothing.
use Rattle.std.specs.Prelude.{◌≡◌, List, [], ◌∷◌, true, Some}
use Rattle.group_defs.specs.Process.{Setting, start, keyed}
use Rattle.message_defs.specs.declared.FrameFault.TheVariants as faults
use Rattle.message_defs.specs.Claims.{Faulty}
use Rattle.group_defs.specs.Events.{Turn, Hand, BadFrame}
use Rattle.group_rows.specs.Scripts.{Seen, seen, setting, turn}
use Rattle.group_defs.specs.Accounts.{bounded, agree, sound}
use Rattle.group_defs.specs.Family.{Family, accounts, numbers, honest}
use Rattle.group_defs.specs.Laws.{Premises}

unfoldable pub s : Setting
s = setting (0 ∷ 1 ∷ 2 ∷ 3 ∷ []) (0 ∷ 1 ∷ 2 ∷ 3 ∷ [])

unfoldable pub turns_0 : List Turn
turns_0 =
    turn 100000 (Hand 3 (Faulty faults.Short))
    ∷ turn 100000 (Hand 3 (Faulty faults.Version))
    ∷ turn 100000 (Hand 3 (Faulty faults.Kind))
    ∷ turn 100000 (Hand 3 (Faulty faults.Count))
    ∷ turn 100000 (Hand 3 (Faulty faults.Statement))
    ∷ turn 100000 (Hand 3 (Faulty faults.Misplaced))
    ∷ turn 100000 (Hand 3 (Faulty faults.Statement))
    ∷ turn 100000 (Hand 3 (Faulty faults.Range))
    ∷ turn 100000 (Hand 3 (Faulty faults.Range))
    ∷ turn 100000 (Hand 3 (Faulty faults.Range))
    ∷ []

unfoldable pub answers_0 : List Seen
answers_0 =
    (Some (BadFrame faults.Short), ([]), ([]), ([]))
    ∷ (Some (BadFrame faults.Version), ([]), ([]), ([]))
    ∷ (Some (BadFrame faults.Kind), ([]), ([]), ([]))
    ∷ (Some (BadFrame faults.Count), ([]), ([]), ([]))
    ∷ (Some (BadFrame faults.Statement), ([]), ([]), ([]))
    ∷ (Some (BadFrame faults.Misplaced), ([]), ([]), ([]))
    ∷ (Some (BadFrame faults.Statement), ([]), ([]), ([]))
    ∷ (Some (BadFrame faults.Range), ([]), ([]), ([]))
    ∷ (Some (BadFrame faults.Range), ([]), ([]), ([]))
    ∷ (Some (BadFrame faults.Range), ([]), ([]), ([]))
    ∷ []

unfoldable pub turns_1 : List Turn
turns_1 =
    []

unfoldable pub answers_1 : List Seen
answers_1 =
    []

unfoldable pub turns_2 : List Turn
turns_2 =
    []

unfoldable pub answers_2 : List Seen
answers_2 =
    []

unfoldable pub f : Family
f = record {
  setting = s;
  correct =
      (record { me = 0; batch_limit = 1; turns = turns_0 } ∷ record { me = 1; batch_limit = 1; turns = turns_1 }
      ∷ record { me = 2; batch_limit = 1; turns = turns_2 } ∷ []);
}

-- the row: what the definitions give
pub record HostileFrames : Type 0 where
  pub row_0 : seen s (start s 0 1) turns_0 ≡ answers_0
  pub row_1 : seen s (start s 1 1) turns_1 ≡ answers_1
  pub row_2 : seen s (start s 2 1) turns_2 ≡ answers_2
  pub judged : honest f ∷ bounded (accounts f) (numbers f) ∷ agree (accounts f) ∷ sound (accounts f) (keyed f.setting) ∷ []
      ≡ true ∷ true ∷ true ∷ true ∷ []
  pub premises : Premises f
