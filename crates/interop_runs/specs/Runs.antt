-- What is answered to a question on a run.
use Rattle.std.specs.Prelude.{◌≡◌, ◌≢◌, ℕ, List, [], String, length}
use Rattle.std.specs.declared.alloc.Global.{Global}
use Rattle.rp_base.specs.Mem.{sink_bytes, sink_calls, source_calls, source_left}
use Rattle.rp_devices.specs.declared.mem_disk.MemDisk.{MemDisk}
use Rattle.rp_devices.specs.declared.mem_link.MemLink.{MemLink}
use Rattle.rp_devices.specs.Disks.{first_bytes, log_of}
use Rattle.rp_devices.specs.Links.{link_coming, link_sent, on_port}
use Rattle.interop_runs.specs.declared.calls.Kind.TheVariants.{Source, Sink}
use Rattle.interop_runs.specs.declared.outside.Outside.{Outside}
use Rattle.interop_runs.specs.Calls.{numbers_of}
use Rattle.interop_runs.specs.Devices.{IsFreshDisk, IsFreshLink, disk_within, link_within}
use Rattle.interop_runs.specs.Questions.{Asks, Question}
use Rattle.interop_runs.specs.Telling.{end_text}

-- The outside of a run as the question wants it: its input and what its disk has, nothing written, the datagrams that wait, each of which
-- comes on its port, and the calls that are to fail.
pub record IsSetUp (q : Question) (o : Outside) : Type 0 where
  pub input : source_left o.input ≡ q.input
  pub reads : ((source_calls o.input).made ≡ 0) × ((source_calls o.input).failing.items ≡ numbers_of Source q.failing)
  pub output : sink_bytes o.output ≡ []
  pub writes : ((sink_calls o.output).made ≡ 0) × ((sink_calls o.output).failing.items ≡ numbers_of Sink q.failing)
  pub journal : first_bytes (disk_within o) ≡ q.journal
  pub unchanged : log_of (disk_within o) ≡ []
  pub disk : IsFreshDisk q.failing q.cut o.disk
  pub waiting : link_sent (link_within o) ≡ q.coming
  pub coming : (port : ℕ) → link_coming (link_within o) port ≡ on_port q.coming port
  pub link : IsFreshLink q.failing o.link

-- what a run on these words may come to: the outside before it, the outside after it, and the status
abbrev pub Runs : Type 1
Runs = List (String Global) → Outside → Outside → ℕ → Type 0

-- This is written of a run that came to its end, or was cut off, on the outside that the question wants. Where there was no memory
-- nothing is written.
pub record IsReportedOf (comes_to : Runs) (q : Question) (reported : List ℕ) : Type 0 where
  pub before : Outside
  pub after : Outside
  pub status : ℕ
  pub set_up : IsSetUp q before
  pub ran : comes_to q.words before after status
  pub memory : status ≢ 1
  pub is_reported : reported ≡ end_text (length q.coming) status after

-- the words are those of a question on a run, and this is what is answered
pub record Answers (comes_to : Runs) (words : List (List ℕ)) (reported : List ℕ) : Type 0 where
  pub question : Question
  pub asked : Asks words question
  pub is_reported : IsReportedOf comes_to question reported
