-- A header as it is read, as plain data.
use Rattle.std.specs.Prelude.{map}
use Rattle.replay_defs.specs.Schedules as plain
use Rattle.schedule_header.specs.declared.head.Head.{Head}
use Rattle.schedule_file.specs.Views.{listed}

abbrev pub head_of : Head → plain.Header
head_of h = record {
  scheme = h.scheme;
  batch_limit = h.batch;
  group = h.group;
  processes = map listed h.processes.items;
  genesis = h.genesis.items;
}
