use Rattle.std.proofs.Common.{◌≡◌, [], slice_index_or, subst, inl, inr, arith}
use Rattle.std.proofs.lemmas.Bool.{cases_lt}
use Rattle.sha2.specs.Sha256.{digest_bytes}
use Rattle.sha256_lanes.proofs.Four.{below_four}
use Rattle.lms_chains.specs.Walks.{end_of}
use Rattle.lms_chains.proofs.by_length.walk_rest.Goals as goal
use Rattle.lms_chains.proofs.by_length.walk_rest.Goals.{then-not-walked-from, else-not-walked-from}

pub walk_into-requires-clause-steps : goal.walk_into-requires-clause-steps
walk_into-requires-clause-steps c =
    let here = c.requires.steps c.rest.i (omega arith) in
    below_four _ here here here here

pub rest-preserved : goal.rest-preserved
rest-preserved c = elim c.if-not-walked-from.branch [
  | then-not-walked-from w ↦
      let walked = w.walk_into.ensures in
      record {
        sound = rw w.walked-is (λ k low e. walked.kept k (c.rest.invariant.sound k low e));
        before = λ k lt. rw w.walked-is (elim (cases_lt k c.rest.i) [
          | inl less ↦ walked.kept k (c.rest.invariant.before k less)
          | inr more ↦
              let same : c.rest.i ≡ k = omega arith in
              subst (λ n. slice_index_or w.walk_into.new.ends n []
              ≡ end_of (digest_bytes c.args.key.now 5) c.args.steps.now.from c.args.steps.now.to c.args.starts.now n) same
              (walked.there 0 (omega arith))
        ]);
      }
  | else-not-walked-from w ↦
      record {
        sound = rw w.walked-is c.rest.invariant.sound;
        before = λ k lt. rw w.walked-is (elim (cases_lt k c.rest.i) [
          | inl less ↦ c.rest.invariant.before k less
          | inr more ↦
              let same : c.rest.i ≡ k = omega arith in
              c.rest.invariant.sound k (omega arith) (rw (← same, ← c.from.ensures) w.if-not-walked-from.false)
        ]);
      }
]
