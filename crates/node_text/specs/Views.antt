-- Stops and lines of the code, as plain data.
use Rattle.std.specs.Prelude.{Option, Some, None}
use Rattle.kit_reading.specs.Faults.{fault_of}
use Rattle.kit_defs.specs.KitReading.{KitFault}
use Rattle.journal_defs.specs.Entries as entries
use Rattle.node_defs.specs.Scripts as scripts
use Rattle.node_defs.specs.Lines as lines
use Rattle.node_text.specs.declared.handed.Handed.{Handed}
use Rattle.node_text.specs.declared.handed.Handed.TheVariants as events
use Rattle.node_text.specs.declared.script.Said.{Said}
use Rattle.node_text.specs.declared.script.Said.TheVariants.{Hand, Receive, Other}
use Rattle.node_text.specs.declared.script.Line.{Line}
use Rattle.node_text.specs.declared.script.Line.TheVariants.{Of, Snap}
use Rattle.node_text.specs.declared.stops.Stop.{Stop}
use Rattle.node_text.specs.declared.stops.Stop.TheVariants as stops

-- ---- lines of a script

abbrev pub handed : Handed → entries.Event
handed (events.Submit payload) = entries.Submit payload.items
handed (events.Suspect q) = entries.Suspect q
handed (events.Join q) = entries.Join q
handed events.Renew = entries.Renew
handed events.Tick = entries.Tick

abbrev pub said : Said → scripts.Said
said (Hand event) = scripts.Hand (handed event)
said (Receive most) = scripts.Receive most
said Other = scripts.Other

abbrev pub line : Line → scripts.Line
line (Of process what) = scripts.Of process (said what)
line Snap = scripts.Snap

-- ---- stops

-- the fault of a kit, or want of memory
abbrev pub kit_stop : Option KitFault → lines.Stop
kit_stop None = lines.NoMemory
kit_stop (Some fault) = lines.BadKit fault

abbrev pub stop : Stop → lines.Stop
stop stops.Ended = lines.Ended
stop stops.NoMemory = lines.NoMemory
stop stops.ReadFailed = lines.ReadFailed
stop stops.WriteFailed = lines.WriteFailed
stop stops.DiskFailed = lines.DiskFailed
stop stops.BindFailed = lines.BindFailed
stop (stops.BadKit fault) = kit_stop (fault_of fault)
stop (stops.BadLine line) = lines.BadLine line
stop (stops.BadSnap line) = lines.BadSnap line
stop (stops.BadJournal place) = lines.BadJournal place
stop (stops.Full whole entry) = lines.Full whole entry
