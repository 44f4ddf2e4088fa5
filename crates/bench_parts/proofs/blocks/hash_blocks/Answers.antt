use Rattle.std.proofs.Common.{◌≡◌, ◌∙◌, ap, sym}
use Rattle.bench_parts.specs.Hashes.{hashed_once}
use Rattle.bench_parts.proofs.Growing.{hashed_none, hashed_more}
use Rattle.bench_parts.proofs.blocks.hash_blocks.Goals as goal

pub rounds-init : goal.rounds-init
rounds-init c = sym hashed_none

pub rounds-preserved : goal.rounds-preserved
rounds-preserved c = c.hash_block.ensures ∙ ap hashed_once c.rounds.invariant ∙ sym (hashed_more c.rounds.counter)
