use Rattle.std.proofs.Common.{◌∙◌, sym, arith}
use Rattle.std.proofs.lemmas.Bool.{false≢true}
use Rattle.sha256_lanes.proofs.Four.{below_four}
use Rattle.lms_chains.proofs.by_length.walk_in_fours.Goals as goal

pub lengths-init : goal.lengths-init
lengths-init c =
    let first = c.requires.steps 0 (omega arith) in
    record {
      place = omega arith;
      at = below_four _ (omega arith) (omega arith) (omega arith) (omega arith);
      steps = below_four _ first first first first;
      sound = λ i low e. absurd (false≢true (sym (c.none_walked-walked.ensures i low) ∙ e));
    }
