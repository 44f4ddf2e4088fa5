use Rattle.std.proofs.Common.{◌≡◌, ◌++◌, drop, map}
use Rattle.std.specs.List.{flat_map}
use Rattle.snapshot_rp.proofs.entries.push_each.Given as goal

-- with those that are left, all are appended
abbrev pub invariant-items : goal.invariant-items
invariant-items g l = l.out.items ++ flat_map g.T.Entry.spell (map g.T.Entry.plain (drop l.item-index l.items))
    ≡ l.initial.out.items ++ flat_map g.T.Entry.spell (map g.T.Entry.plain l.items)
