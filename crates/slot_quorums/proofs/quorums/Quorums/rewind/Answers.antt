use Rattle.slot_quorums.proofs.Marks.{rewound}
use Rattle.slot_quorums.proofs.quorums.Quorums.rewind.Goals as goal

pub invariant_of-self : goal.invariant_of-self
invariant_of-self c =
    rw (c.rewind.ensures.pool, c.rewind.ensures.marked, c.restore.ensures.cells, c.restore.ensures.none, c.truncate.ensures.entries)
    (rewound c.self.inside.claims.pool c.self.inside.claims.marked c.self.inside.cells.entries c.self.inside.marked
    c.self.inside.changed.items c.self.invariant)
