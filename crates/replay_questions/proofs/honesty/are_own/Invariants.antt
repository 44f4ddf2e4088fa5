use Rattle.std.proofs.Common.{◌≡◌, length}
use Rattle.std.specs.List.{list_all, AllByRecursion}
use Rattle.message_defs.specs.Spelling.{IsClaim}
use Rattle.replay_defs.specs.Schedules.{Header}
use Rattle.replay_defs.specs.Worlds as plain
use Rattle.replay_defs.specs.Worlds.{family_of}
use Rattle.stmt_codec.specs.Left.{claims_left}
use Rattle.replay_world.specs.Worlds.{Shows}
use Rattle.replay_questions.specs.Owned.{is_owned}
use Rattle.replay_questions.proofs.honesty.are_own.Given as goal

abbrev pub invariant-claims : goal.invariant-claims
invariant-claims l = record {
  rest : (h : Header) (v : plain.World) → Shows h l.world v
      → list_all (is_owned (family_of h v)) (claims_left l.left) ≡ list_all (is_owned (family_of h v)) (claims_left l.fn.claims);
  range : AllByRecursion IsClaim (claims_left l.left);
}

abbrev pub decreases-claims : goal.decreases-claims
decreases-claims l = length (claims_left l.left)
