-- Processes 2 and 3 of four lie, which is one too many: they have process 1 removed, though no correct member asked for it. So
-- without the bound on corrupt members a view may have no cause.
use Rattle.std.specs.Prelude.{◌≡◌, List, [], ◌∷◌, true, false}
use Rattle.message_defs.specs.Updates.{Remove}
use Rattle.message_defs.specs.Statements.{Notify, End, Ack, Ready}
use Rattle.group_defs.specs.Process.{Setting, keyed}
use Rattle.message_defs.specs.Claims.{Claims}
use Rattle.group_defs.specs.Events.{Turn, Hand}
use Rattle.group_rows.specs.Scripts.{setting, turn, by, value}
use Rattle.group_defs.specs.Accounts.{Bounded, bounded, agree, Sound, sound}
use Rattle.group_defs.specs.Family.{Family, accounts, numbers, Honest, honest}

unfoldable pub s : Setting
s = setting (0 ∷ 1 ∷ 2 ∷ 3 ∷ []) (0 ∷ 1 ∷ 2 ∷ 3 ∷ [])

unfoldable pub turns_0 : List Turn
turns_0 =
    turn 100000 (Hand 3 (Claims (by 2 (Notify 0 (Remove 1)) ∷ by 3 (Notify 0 (Remove 1)) ∷ [])))
    ∷ turn 99999 (Hand 3 (Claims (by 2 (End 0 0) ∷ by 3 (End 0 0) ∷ [])))
    ∷ turn 99997 (Hand 3 (Claims (by 2 (Ack 0 0 (value (Remove 1) 0)) ∷ by 3 (Ack 0 0 (value (Remove 1) 0)) ∷ [])))
    ∷ turn 99996 (Hand 3 (Claims (by 2 (Ready 0 0 (value (Remove 1) 0)) ∷ by 3 (Ready 0 0 (value (Remove 1) 0)) ∷ [])))
    ∷ []

unfoldable pub f : Family
f = record {
  setting = s;
  correct = record { me = 0; batch_limit = 1; turns = turns_0 } ∷ record { me = 1; batch_limit = 1; turns = [] }
      ∷ [];
}

-- the row: what the definitions give
pub record RemovedWithoutCause : Type 0 where
  pub judged : honest f ∷ bounded (accounts f) (numbers f) ∷ agree (accounts f) ∷ sound (accounts f) (keyed f.setting) ∷ []
      ≡ true ∷ false ∷ true ∷ false ∷ []
  pub is_honest : Honest f
  pub is_not_bounded : Bounded (accounts f) (numbers f) → ⊥
  pub is_not_sound : Sound (accounts f) (keyed f.setting) → ⊥
