use Rattle.std.proofs.Common.{◌≡◌, drop}
use Rattle.reliable_mcast.specs.Certificates.{IsRanged}
use Rattle.restored_past.specs.Hearing.{with_all}
use Rattle.restored_past.proofs.earlier.hear_each.Given as goal

abbrev pub invariant-loop-kept : goal.invariant-loop-kept
invariant-loop-kept l = (with_all l.pool.pool (drop l.kept-index l.claims) ≡ with_all l.fn.pool.pool l.claims)
    × (IsRanged l.fn.pool.pool → IsRanged l.pool.pool) × (l.pool.pool.view ≡ l.fn.pool.pool.view)
