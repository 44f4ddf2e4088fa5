use Rattle.std.proofs.Common.{◌≡◌, true, take}
use Rattle.std.specs.List.{list_all}
use Rattle.replay_defs.specs.Schedules.{Header}
use Rattle.replay_defs.specs.Worlds as plain
use Rattle.replay_defs.specs.Worlds.{family_of}
use Rattle.replay_world.specs.Worlds.{Shows}
use Rattle.replay_questions.specs.Owned.{is_unhanded_or_owned}
use Rattle.replay_questions.proofs.honesty.are_honest_frames.Given as goal

abbrev pub invariant-loop-frame : goal.invariant-loop-frame
invariant-loop-frame l = (h : Header) (v : plain.World) → Shows h l.world v
    → list_all (is_unhanded_or_owned (family_of h v)) (take l.frame-index l.frames) ≡ true
