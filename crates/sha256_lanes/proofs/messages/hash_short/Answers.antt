use Rattle.sha256_lanes.proofs.Short.{sha256_of_block}
use Rattle.sha256_lanes.specs.Lanes.{lane}
use Rattle.sha256_lanes.proofs.messages.hash_short.Goals as goal

pub returns : goal.returns
returns c = λ j low m short held.
    sha256_of_block m (lane j c.compress.result) short
    (rw (← c.initial.ensures j low) (c.compress.ensures j low _ held))
