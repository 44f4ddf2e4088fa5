-- The fields of a reader, and what holds of them.
use Rattle.std.specs.Prelude.{◌≡◌, ◌≤◌, Bool, true, false, if◌then◌else◌, [], length, Option, Some, None, IsSome, IsErr, vec_capacity}
use Rattle.replay_defs.specs.Schedules as plain
use Rattle.replay_defs.specs.Schedules.{most_steps, most_bytes}
use Rattle.replay_defs.specs.Reading.{roles_of, header_at}
use Rattle.replay_defs.specs.Pieces.{Reading, most_waiting}
use Rattle.schedule_file.specs.Views as views
use Rattle.schedule_events.specs.Seen.{roles}
use Rattle.schedule_pieces.specs.declared.reader.ScheduleReader.TheInside.{Inside}

-- the header, once it is whole
abbrev pub header_if : Bool → plain.Header → Option plain.Header
header_if true h = Some h
header_if false h = None

abbrev pub reading : Inside → Reading
reading r = record {
  header = header_if r.has_header (views.header r.header);
  taken = r.taken;
  waiting = r.window;
  steps = r.steps;
  fault = r.fault;
}

pub record IsReader (r : Inside) : Type 0 where
  -- before the header is whole there is room for its processes, and all bytes wait
  pub room : r.has_header ≡ false → (r.header.processes.items ≡ []) × (64 ≤ vec_capacity r.header.processes) × (r.taken ≡ 0)
  pub partial : r.has_header ≡ false → r.fault ≡ None → IsErr (header_at r.window)
  pub known : r.has_header ≡ true → roles r.roles ≡ roles_of (views.header r.header).processes
  pub below : r.taken ≤ most_bytes
  pub few : length r.window ≤ most_waiting
  pub stopped : IsSome r.fault → r.window ≡ []
