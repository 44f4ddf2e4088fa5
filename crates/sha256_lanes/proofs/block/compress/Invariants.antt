use Rattle.std.proofs.Common.{ℕ, List, ◌*◌, ◌<◌}
use Rattle.sha2.specs.Sha256.{IsRoundsAt}
use Rattle.sha256_lanes.specs.Lanes.{IsBlock, lane, words_in}
use Rattle.sha256_lanes.proofs.block.compress.Given as goal

abbrev pub invariant-schedule : goal.invariant-schedule
invariant-schedule l = (j : ℕ) → j < 4 → (b : List ℕ) → IsBlock (words_in j l.fn.block) b
    → IsRoundsAt b (lane j l.fn.state) (words_in j l.w) (lane j l.v) (8 * l.turn)
