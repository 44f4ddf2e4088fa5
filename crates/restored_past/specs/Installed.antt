-- The views that a process installed.
use Rattle.std.specs.Prelude.{List, [], ◌∷◌}
use Rattle.group_defs.specs.Views.{View, next_view}
use Rattle.image_defs.specs.Images.{LeftView}

-- this view, and those that follow it by the values by which they were left
abbrev pub installed_from : View → List LeftView → List View
installed_from v [] = v ∷ []
installed_from v (l ∷ ls) = v ∷ installed_from (next_view v l.value.update) ls
