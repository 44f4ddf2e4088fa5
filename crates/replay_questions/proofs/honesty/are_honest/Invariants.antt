use Rattle.std.proofs.Common.{◌≡◌, true, take}
use Rattle.std.specs.List.{list_all}
use Rattle.replay_defs.specs.Schedules.{Header}
use Rattle.replay_defs.specs.Worlds as plain
use Rattle.replay_defs.specs.Worlds.{family_of}
use Rattle.replay_world.specs.Handing.{claims_of}
use Rattle.replay_world.specs.Worlds.{Shows}
use Rattle.replay_questions.specs.Owned.{is_owned}
use Rattle.replay_questions.proofs.honesty.are_honest.Given as goal

abbrev pub invariant-loop-bytes : goal.invariant-loop-bytes
invariant-loop-bytes l = (h : Header) (v : plain.World) → Shows h l.world v
    → list_all (λ bytes. list_all (is_owned (family_of h v)) (claims_of bytes)) (take l.bytes-index l.raws) ≡ true
