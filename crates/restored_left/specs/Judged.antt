-- In which setting an image is judged.
use Rattle.std.specs.Prelude.{◌≡◌, ℕ, Bool, List}
use Rattle.group_defs.specs.Views.{View}
use Rattle.group_defs.specs.Process.{Setting, all_kinds}
use Rattle.claim_hearing.specs.Hearing.{Shares}

-- the setting of this rule of signatures, this group, this roster and this genesis view, in which all kinds are signed
pub record Judges (s : Setting) (valid : List ℕ → List ℕ → List ℕ → Bool) (group : List ℕ) (roster : List (ℕ × List ℕ)) (genesis : View)
    : Type 0 where
  pub shares : Shares s valid group roster
  pub genesis_is : s.genesis ≡ genesis
  pub kinds : s.signs ≡ all_kinds
