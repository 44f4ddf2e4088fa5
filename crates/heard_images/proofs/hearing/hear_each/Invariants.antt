use Rattle.std.proofs.Common.{◌≡◌, take, drop}
use Rattle.std.specs.Prelude.{◌↔◌}
use Rattle.group_defs.specs.Process.{Setting, Process}
use Rattle.claim_pool.specs.Kept.{HasDelivered}
use Rattle.claim_hearing.specs.Hearing.{Shares}
use Rattle.heard_images.specs.Hearing.{AreNew, with_more}
use Rattle.heard_images.proofs.hearing.hear_each.Given as goal

abbrev pub invariant-loop-kept : goal.invariant-loop-kept
invariant-loop-kept g l =
    (l.pool.pool ≡ with_more l.fn.pool.pool (take l.kept-index l.claims))
    × ((s : Setting) (p : Process) → Shares s (g.V.Scheme.valid l.judge.scheme.now) l.judge.group.now l.judge.roster.now
    → HasDelivered l.own p → p.pool ≡ l.fn.pool.pool
    → (q : Process) × (q.pool ≡ l.pool.pool) × HasDelivered l.own q × (AreNew s q (drop l.kept-index l.claims) ↔ AreNew s p l.claims))
