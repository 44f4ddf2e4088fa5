-- What a run reports in the code, as the definitions have it.
use Rattle.std.specs.Prelude.{List, map, Option, option_map}
use Rattle.replay_defs.specs.Worlds.{WorldFault}
use Rattle.trace_defs.specs.Happenings as plain
use Rattle.happenings.specs.Reported.{happening, stopped}
use Rattle.story_telling.specs.declared.telling.Telling.{Telling}

-- what happens in each event
abbrev pub events_of : Telling → List (List plain.Happening)
events_of t = map (λ reported. map happening reported.items) t.events.items

-- why the run stops, where it does
abbrev pub stop_in : Telling → Option WorldFault
stop_in t = option_map stopped t.stop
