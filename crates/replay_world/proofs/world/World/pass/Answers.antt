use Rattle.std.proofs.Common.{◌<◌, length, arith, ap}
use Rattle.std.proofs.lemmas.List.{length-map}
use Rattle.std.proofs.lemmas.Result.{IfErr-weaker}
use Rattle.replay_defs.specs.Schedules.{Pass}
use Rattle.replay_defs.specs.Worlds as plain
use Rattle.replay_defs.specs.Worlds.{setting_of}
use Rattle.replay_world.specs.Traffic.{sent}
use Rattle.replay_world.proofs.Happenings.{pass_sent, too_much_stops}
use Rattle.replay_world.proofs.world.World.pass.Goals as goal

pub returns-clause-stops : goal.returns-clause-stops
returns-clause-stops c = IfErr-weaker c.deliver.result _ _ (λ fault much. λ h v shows is.
    let low : c.args.frame < length v.frames = omega
    (arith, ap length shows.traffic.frames, length-map c.args.self.now.traffic.frames.items sent) in
    too_much_stops h v (plain.delivers (setting_of h) v c.args.to c.args.frame)
    (Pass c.args.frame c.args.to) fault (pass_sent h v c.args.frame c.args.to low) (much h v shows)) c.deliver.ensures.exceeds
