-- Two correct processes of one number in a view of one member: they deliver different payloads. So the premise that the numbers
-- rise can't be dropped.
use Rattle.std.specs.Prelude.{◌≡◌, List, [], ◌∷◌, true, false}
use Rattle.group_defs.specs.Process.{Setting, keyed}
use Rattle.group_defs.specs.Events.{Turn, Submit}
use Rattle.group_rows.specs.Scripts.{setting, turn}
use Rattle.group_defs.specs.Accounts.{Bounded, bounded, Agree, agree, sound}
use Rattle.group_defs.specs.Family.{Family, accounts, numbers, Honest, honest}

unfoldable pub s : Setting
s = setting (0 ∷ []) (0 ∷ [])

unfoldable pub turns_a : List Turn
turns_a = turn 100000 (Submit (97 ∷ [])) ∷ []

unfoldable pub turns_b : List Turn
turns_b = turn 100000 (Submit (98 ∷ [])) ∷ []

unfoldable pub f : Family
f = record {
  setting = s;
  correct = record { me = 0; batch_limit = 1; turns = turns_a }
      ∷ record { me = 0; batch_limit = 1; turns = turns_b } ∷ [];
}

-- the row: what the definitions give
pub record NumberTwice : Type 0 where
  pub judged : honest f ∷ bounded (accounts f) (numbers f) ∷ agree (accounts f) ∷ sound (accounts f) (keyed f.setting) ∷ []
      ≡ true ∷ true ∷ false ∷ false ∷ []
  pub is_honest : Honest f
  pub is_bounded : Bounded (accounts f) (numbers f)
  pub is_not_agreed : Agree (accounts f) → ⊥
