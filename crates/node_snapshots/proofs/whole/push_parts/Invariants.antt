use Rattle.std.proofs.Common.{◌≡◌, ◌++◌, drop, map}
use Rattle.node_snapshots.specs.Parts.{part_as, parts_of}
use Rattle.node_snapshots.proofs.whole.push_parts.Given as goal

-- with those that are left, all are appended
abbrev pub invariant-parts : goal.invariant-parts
invariant-parts l = l.out.items ++ parts_of (map part_as (drop l.part-index l.parts)) ≡ l.initial.out.items ++ parts_of (map part_as l.parts)
