-- What a process keeps of the views that it left leads from view to view.
use Rattle.std.specs.Prelude.{◌≡◌, ℕ, ◌+◌, List, All, IsTrue, Some, Ok, slice_get}
use Rattle.group_defs.specs.Views.{View, IsView}
use Rattle.group_defs.specs.Process.{Setting, Left, start, views_of}
use Rattle.group_defs.specs.Hearing.{is_valid}
use Rattle.group_defs.specs.Events.{Turn, run}
use Rattle.chain_defs.specs.Advance.{shows}

-- The commit certificate of a view that a process left shows the view that it installed next: of any process that began in the genesis view,
-- where all that it signed is valid.
abbrev pub CommitShows : Type 0
CommitShows = (s : Setting) (me batch_limit : ℕ) (turns : List Turn) → IsView s.genesis
    → All (λ c. IsTrue (is_valid s c)) (run s (start s me batch_limit) turns).signed
    → (i : ℕ) (l : Left) (w : View) → slice_get (run s (start s me batch_limit) turns).left i ≡ Some l
    → slice_get (views_of (run s (start s me batch_limit) turns)) (i + 1) ≡ Some w → shows s l.view l.commit ≡ Ok w
