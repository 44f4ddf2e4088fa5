use Rattle.std.proofs.Common.{ℕ, List, [], ◌++◌, take, refl, sym, ap, ◌∙◌, arith, append_assoc}
use Rattle.std.proofs.lemmas.List.{take-append-drop}
use Rattle.replay_run.proofs.replaying.replay.Goals as goal

pub pieces-init : goal.pieces-init
pieces-init c = record { fed = []; has = c.in_ok-replay.ensures; all = refl }

pub feed-requires : goal.feed-requires
feed-requires c = omega (arith, c.split_at.ensures.front_len, c.min.ensures)

pub pieces-preserved : goal.pieces-preserved
pieces-preserved c =
    let past = c.pieces.invariant in
    let cut = sym (ap (λ (t : List ℕ). t ++ c.split_at.result.1.now) c.split_at.ensures.front ∙
    (ap (λ (t : List ℕ). take c.min.result c.pieces.rest.now
    ++ t) c.split_at.ensures.back ∙ take-append-drop c.min.result c.pieces.rest.now)) in
    record {
      fed = past.fed ++ c.split_at.result.0.now;
      has = c.in_ok-replay-2.ensures past.fed past.has;
      all = past.all ∙ (ap (λ (t : List ℕ). past.fed ++ t) cut ∙ sym
          (append_assoc past.fed c.split_at.result.0.now c.split_at.result.1.now));
    }
