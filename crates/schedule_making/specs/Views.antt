-- A schedule on its way, as plain data.
use Rattle.std.specs.Prelude.{List, map}
use Rattle.replay_defs.specs.Generator.{Drawn}
use Rattle.replay_defs.specs.Schedules.{ScheduleEvent}
use Rattle.schedule_file.specs.Views.{event}
use Rattle.schedule_making.specs.declared.making.Making.{Making}
use Rattle.schedule_making.specs.Behind.{Behind}

-- what is drawn comes after the events
abbrev pub Appends : Making → Making → Drawn (List ScheduleEvent) → Type 0
Appends old new drawn = Behind (map event old.events.items) drawn (map event new.events.items) new.draws.state
