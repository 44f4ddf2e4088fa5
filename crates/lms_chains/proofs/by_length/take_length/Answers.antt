use Rattle.lms_chains.proofs.by_length.take_length.Goals as goal
use Rattle.lms_chains.proofs.by_length.take_length.Goals.{then-steps-chain, else-steps-chain}

pub chains-preserved : goal.chains-preserved
chains-preserved c = elim c.if-steps-chain.branch [
  | then-steps-chain w ↦
      let new = w.take_in.ensures in
      record {
        place = rw w.group-is new.place;
        at = rw w.group-is new.at;
        steps = rw w.group-is new.steps;
        sound = rw w.walked-is new.sound;
      }
  | else-steps-chain w ↦
      let old = c.chains.invariant in
      record {
        place = rw w.group-is old.place;
        at = rw w.group-is old.at;
        steps = rw w.group-is old.steps;
        sound = rw w.walked-is old.sound;
      }
]
