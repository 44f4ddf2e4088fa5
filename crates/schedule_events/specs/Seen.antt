-- Events as they are read, as plain data.
use Rattle.byte_defs.specs.Members.{has}
use Rattle.rp_base.specs.Pids.{mask_of}
use Rattle.replay_defs.specs.Schedules as plain
use Rattle.replay_defs.specs.Reading as reading
use Rattle.schedule_events.specs.declared.events.Roles.{Roles}
use Rattle.schedule_events.specs.declared.events.Seen.{Seen}
use Rattle.schedule_events.specs.declared.events.Seen.TheVariants.{Submit, Raw, Pass, Drain, Lie, Suspect, Join, Renew, Tick}

abbrev pub seen : Seen → plain.ScheduleEvent
seen (Submit at payload) = plain.Submit at payload.now
seen (Raw to from bytes) = plain.Raw to from bytes.now
seen (Pass frame to) = plain.Pass frame to
seen (Drain count to) = plain.Drain count (mask_of to)
seen (Lie signer to statement) = plain.Lie signer (mask_of to) statement.now
seen (Suspect at of) = plain.Suspect at of
seen (Join at of) = plain.Join at of
seen (Renew at) = plain.Renew at
seen (Tick at) = plain.Tick at

abbrev pub roles : Roles → reading.Roles
roles of = record { correct = has of.correct; corrupt = has of.corrupt }
