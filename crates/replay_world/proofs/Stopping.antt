-- Too much in an event stops the world.
use Rattle.std.proofs.Common.{◌≡◌, Result, Ok}
use Rattle.std.specs.Prelude.{IfErr}
use Rattle.std.proofs.lemmas.Result.{IfErr-weaker}
use Rattle.replay_defs.specs.Schedules.{Header, ScheduleEvent}
use Rattle.replay_defs.specs.Worlds as plain
use Rattle.replay_world.specs.declared.world.World.{World}
use Rattle.replay_world.specs.declared.fault.WorldFault.{WorldFault}
use Rattle.replay_world.specs.Worlds.{Exceeds, Stops}
use Rattle.replay_world.proofs.Happenings.{too_much_stops}

pub exceeds_stops : (old : World) (e : ScheduleEvent) (change : Header → plain.World → plain.World) (r : Result (Unit {0}) WorldFault)
    → ((h : Header) (v : plain.World) → plain.happens h v e ≡ Ok (change h v))
    → IfErr r (Exceeds change old) → IfErr r (Stops old e)
exceeds_stops old e change r is exceeds =
    IfErr-weaker r (Exceeds change old) (Stops old e)
    (λ fault much. λ h v shows event. too_much_stops h v (change h v) e fault (is h v) (much h v shows)) exceeds
