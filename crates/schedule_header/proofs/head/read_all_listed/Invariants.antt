use Rattle.std.proofs.Common.{◌≡◌, ◌-◌, map, length}
use Rattle.replay_defs.specs.Reading.{all_listed_at}
use Rattle.schedule_file.specs.Views.{listed}
use Rattle.schedule_header.proofs.Processes.{from_here}
use Rattle.schedule_header.proofs.head.read_all_listed.Given as goal

abbrev pub invariant-processes : goal.invariant-processes
invariant-processes l = record {
  so_far : from_here (map listed l.processes.items) (all_listed_at (l.count - l.counter) l.scheme l.least l.reader.rest.now)
      ≡ all_listed_at l.count l.scheme 0 l.fn.reader.rest.now;
  size : length l.processes.items ≡ l.counter;
}
