-- The setting of a group.
use Rattle.std.specs.Prelude.{ℕ, Bool, List}
use Rattle.group_defs.specs.Views.{View}
use Rattle.group_defs.specs.Process.{Setting, all_kinds}

-- of this rule of signatures, this group, this roster and this genesis view, in which all kinds are signed
abbrev pub setting : (List ℕ → List ℕ → List ℕ → Bool) → List ℕ → List (ℕ × List ℕ) → View → Setting
setting valid group roster genesis = record { group = group; roster = roster; genesis = genesis; valid = valid; signs = all_kinds }
