-- How far the Inits of each process are heard.
use Rattle.std.specs.Prelude.{◌≡◌, ℕ, ◌+◌, ◌<◌, ◌≤◌, ◌==◌, if◌then◌else◌, List, length, slice_index, is_some, true, Option, Some, None}
use Rattle.message_defs.specs.Limits.{most_places}
use Rattle.message_defs.specs.Statements.{Statement, Init, InitAt}
use Rattle.group_defs.specs.Process.{Pool}
use Rattle.group_defs.specs.Certified.{heard_on}

-- `end` is one more than the greatest number of a heard Init of the sender, or 0
pub record IsInitsEnd (h : Pool) (sender end : ℕ) : Type 0 where
  pub past : (l : ℕ) → end ≤ l → heard_on h sender (InitAt h.view.number l) ≡ None
  pub last : (l : ℕ) → end ≡ l + 1 → is_some (heard_on h sender (InitAt h.view.number l)) ≡ true
  pub most : end ≤ most_places

-- of each process so
pub record AreInitsEnds (h : Pool) (ends : List ℕ) : Type 0 where
  pub processes : length ends ≡ 64
  pub each : (sender : ℕ) → sender < 64 → IsInitsEnd h sender (slice_index ends sender)

-- the number of the Init, where the statement is one of this view
abbrev pub init_said : ℕ → Statement → Option ℕ
init_said x (Init y l payload) = if y == x then Some l else None
init_said x _ = None
