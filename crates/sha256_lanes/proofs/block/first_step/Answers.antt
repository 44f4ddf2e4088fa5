use Rattle.std.proofs.Common.{refl, sym}
use Rattle.sha2.proofs.Schedule256.{rounds_first}
use Rattle.sha256_lanes.specs.Lanes.{lane, words_in}
use Rattle.sha256_lanes.proofs.InLane.{word_in}
use Rattle.sha256_lanes.proofs.block.first_step.Goals as goal

pub returns : goal.returns
returns c = λ j low b h window held.
    rounds_first b h (words_in j c.args.w.now) (lane j c.args.v) c.args.t _ _ _ c.requires window held refl
    (sym (word_in c.args.w.now c.args.t j)) (c.round.ensures j low)
