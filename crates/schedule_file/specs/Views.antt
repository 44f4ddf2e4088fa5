-- Schedules of the code, as plain data.
use Rattle.std.specs.Prelude.{map}
use Rattle.rp_base.specs.Pids.{mask_of}
use Rattle.replay_defs.specs.Keys as keys
use Rattle.replay_defs.specs.Schedules as plain
use Rattle.schedule_file.specs.declared.schedule.Key.{Key}
use Rattle.schedule_file.specs.declared.schedule.Key.TheVariants.{Plain, Lms, Hss}
use Rattle.schedule_file.specs.declared.schedule.Listed.{Listed}
use Rattle.schedule_file.specs.declared.schedule.Header.{Header}
use Rattle.schedule_file.specs.declared.schedule.ScheduleEvent.{ScheduleEvent}
use Rattle.schedule_file.specs.declared.schedule.ScheduleEvent.TheVariants.{Submit, Raw, Pass, Drain, Lie, Suspect, Join, Renew, Tick}
use Rattle.schedule_file.specs.declared.schedule.Schedule.{Schedule}

abbrev pub key : Key → keys.Key
key (Plain bytes total) = keys.Plain bytes total
key (Lms height ots id seed) = keys.Lms height ots id seed
key (Hss levels height ots id seed) = keys.Hss levels height ots id seed

abbrev pub listed : Listed → plain.Listed
listed l = record { process = l.process; corrupt = l.corrupt; key = key l.key }

abbrev pub header : Header → plain.Header
header h = record {
  scheme = h.scheme;
  batch_limit = h.batch;
  group = h.group;
  processes = map listed h.processes.items;
  genesis = h.genesis.items;
}

abbrev pub event : ScheduleEvent → plain.ScheduleEvent
event (Submit at payload) = plain.Submit at payload.items
event (Raw to from bytes) = plain.Raw to from bytes.items
event (Pass frame to) = plain.Pass frame to
event (Drain count to) = plain.Drain count (mask_of to)
event (Lie signer to statement) = plain.Lie signer (mask_of to) statement.items
event (Suspect at of) = plain.Suspect at of
event (Join at of) = plain.Join at of
event (Renew at) = plain.Renew at
event (Tick at) = plain.Tick at

abbrev pub schedule : Schedule → plain.Schedule
schedule s = record { header = header s.header; events = map event s.events.items }
