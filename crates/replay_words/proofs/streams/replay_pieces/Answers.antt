use Rattle.std.proofs.Common.{[], ◌++◌, ◌∙◌, take, arith, refl, length-append}
use Rattle.std.proofs.KnownBytes.{Consumes-nil, Consumes-trans}
use Rattle.std.proofs.lemmas.List.{length-take}
use Rattle.replay_words.proofs.streams.replay_pieces.Goals as goal

pub pieces-init : goal.pieces-init
pieces-init g c = record { fed = []; has = c.in_ok-replay.ensures; taken = Consumes-nil _; count = refl; steady = refl }

pub pieces-preserved : goal.pieces-preserved
pieces-preserved g c =
    let past = c.pieces.invariant in
    let piece = take c.in_ok-n.n c.read.new.into in
    record {
      fed = past.fed ++ piece;
      has = c.in_ok-replay-2.ensures past.fed past.has;
      taken = Consumes-trans _ _ _ past.fed piece past.taken c.in_ok-n.ensures.bytes.0;
      count = omega (arith, past.count, c.in_ok-n.ensures.bound, length-append past.fed piece, length-take c.in_ok-n.n c.read.new.into);
      steady = c.in_ok-n.ensures.cause.steady ∙ past.steady;
    }
