-- What the rules take of a pool.
use Rattle.std.specs.Prelude.{All}
use Rattle.group_defs.specs.Below.{IsClaim}
use Rattle.group_defs.specs.Views.{IsView}
use Rattle.group_defs.specs.Process.{Pool}
use Rattle.group_defs.specs.Laws.{IsOfView}

-- the view is one, and what is heard is of it and in range
pub record IsPool (h : Pool) : Type 0 where
  pub view : IsView h.view
  pub of_view : All (IsOfView h.view) h.heard
  pub in_range : All IsClaim h.heard
