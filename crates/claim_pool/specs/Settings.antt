-- A setting of these three: who signs by what rule in which group.
use Rattle.std.specs.Prelude.{ℕ, Bool, List, []}
use Rattle.group_defs.specs.Process.{Setting}

-- the setting of this rule of signatures, this group and this roster; its other parts nothing here reads
abbrev pub as_setting : (List ℕ → List ℕ → List ℕ → Bool) → List ℕ → List (ℕ × List ℕ) → Setting
as_setting valid group roster = record {
  group = group;
  roster = roster;
  genesis = record { number = 0; members = [] };
  valid = valid;
  signs = [];
}
