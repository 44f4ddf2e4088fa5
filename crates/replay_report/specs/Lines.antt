-- The lines of a report between its head and its answers.
use Rattle.std.specs.Prelude.{Bool, List, ℕ, ◌++◌, flat_map, if◌then◌else◌}
use Rattle.group_defs.specs.Family.{Family, ends}
use Rattle.replay_defs.specs.Worlds.{World}
use Rattle.replay_defs.specs.Reports as plain

abbrev pub middle_lines : Bool → World → Family → List ℕ
middle_lines short w f =
    if short then plain.refused_count w ++ flat_map plain.process_line (ends f)
    else flat_map plain.refused_line w.refused ++ flat_map (plain.block w.spent) (ends f)
