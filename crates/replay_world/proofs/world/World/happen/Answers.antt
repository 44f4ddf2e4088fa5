use Rattle.std.proofs.Common.{ap, sym, ◌∙◌}
use Rattle.message_defs.specs.Claims.{frame_said}
use Rattle.group_defs.specs.Events as group
use Rattle.replay_defs.specs.Worlds as plain
use Rattle.replay_defs.specs.Worlds.{setting_of}
use Rattle.schedule_file.specs.declared.schedule.ScheduleEvent.{ScheduleEvent}
use Rattle.schedule_file.specs.Views as views
use Rattle.replay_world.proofs.Happenings.{goes_on}
use Rattle.replay_world.proofs.Stopping.{exceeds_stops}
use Rattle.replay_world.proofs.world.World.happen.Goals as goal

pub returns-in-Submit-clause-stops : goal.returns-in-Submit-clause-stops
returns-in-Submit-clause-stops c = exceeds_stops c.args.self.now _ _ c.hand.result
    (λ h v. ap (λ (e : ScheduleEvent). plain.happens h v (views.event e)) c.in-Submit.is
    ∙ ap (λ bytes. goes_on (plain.hands (setting_of h) v c.in-Submit.at (group.Submit bytes)))
    (sym c.deref.ensures.value)) c.hand.ensures.exceeds

pub returns-in-Raw-clause-stops : goal.returns-in-Raw-clause-stops
returns-in-Raw-clause-stops c = exceeds_stops c.args.self.now _ _ c.hand-in-Raw.result
    (λ h v. ap (λ (e : ScheduleEvent). plain.happens h v (views.event e)) c.in-Raw.is
    ∙ ap (λ bytes. goes_on (plain.hands (setting_of h) v c.in-Raw.to (group.Hand c.in-Raw.from (frame_said bytes))))
    (sym c.deref-in-Raw.ensures.value)) c.hand-in-Raw.ensures.exceeds

pub returns-in-Drain-clause-stops : goal.returns-in-Drain-clause-stops
returns-in-Drain-clause-stops c = exceeds_stops c.args.self.now _ _ c.drain.result
    (λ h v. ap (λ (e : ScheduleEvent). plain.happens h v (views.event e)) c.in-Drain.is) c.drain.ensures.exceeds

pub returns-in-Suspect-clause-stops : goal.returns-in-Suspect-clause-stops
returns-in-Suspect-clause-stops c = exceeds_stops c.args.self.now _ _ c.hand-in-Suspect.result
    (λ h v. ap (λ (e : ScheduleEvent). plain.happens h v (views.event e)) c.in-Suspect.is) c.hand-in-Suspect.ensures.exceeds

pub returns-in-Join-clause-stops : goal.returns-in-Join-clause-stops
returns-in-Join-clause-stops c = exceeds_stops c.args.self.now _ _ c.hand-in-Join.result
    (λ h v. ap (λ (e : ScheduleEvent). plain.happens h v (views.event e)) c.in-Join.is) c.hand-in-Join.ensures.exceeds

pub returns-in-Renew-clause-stops : goal.returns-in-Renew-clause-stops
returns-in-Renew-clause-stops c = exceeds_stops c.args.self.now _ _ c.hand-in-Renew.result
    (λ h v. ap (λ (e : ScheduleEvent). plain.happens h v (views.event e)) c.in-Renew.is) c.hand-in-Renew.ensures.exceeds

pub returns-in-Tick-clause-stops : goal.returns-in-Tick-clause-stops
returns-in-Tick-clause-stops c = exceeds_stops c.args.self.now _ _ c.hand-in-Tick.result
    (λ h v. ap (λ (e : ScheduleEvent). plain.happens h v (views.event e)) c.in-Tick.is) c.hand-in-Tick.ensures.exceeds
