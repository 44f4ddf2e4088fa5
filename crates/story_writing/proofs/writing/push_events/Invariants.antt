use Rattle.std.proofs.Common.{◌≡◌, ◌++◌, take, map}
use Rattle.std.specs.List.{flat_map}
use Rattle.schedule_file.specs.Views.{event}
use Rattle.story_defs.specs.Texts.{event_tokens, token_line}
use Rattle.story_writing.proofs.writing.push_events.Given as goal

abbrev pub invariant-events : goal.invariant-events
invariant-events l = l.out.items ≡ l.initial.out.items ++ flat_map token_line (map event_tokens (map event (take l.event-index l.events)))
