-- What a run of the program comes to, in words of its statuses. `rampart` in `rampart_cli` has the rest, word by word.
use Rattle.std.specs.Prelude.{◌≡◌, ◌↔◌, ◌⊎◌, ℕ, List, Some, String, codes}
use Rattle.std.specs.declared.alloc.Global.{Global}
use Rattle.rp_base.specs.Causes.{Rose}
use Rattle.rp_base.specs.Mem.{sink_bytes, sink_calls, source_calls}
use Rattle.rp_base.specs.Streams.{WritesLine}
use Rattle.rampart_cli.specs.Top.{AskAny, AskAudit, AskHost}
use Rattle.interop_runs.specs.declared.outside.Outside.{Outside}

abbrev read_faults : Outside → ℕ
read_faults o = (source_calls o.input).faults

abbrev write_faults : Outside → ℕ
write_faults o = (sink_calls o.output).faults

-- a run on these words: the outside before it, the outside after it, and its status
pub record HasRun (words : List (String Global)) (before after : Outside) (status : ℕ) : Type 0 where
  -- 0: no read and no write failed
  pub steady : status ≡ 0 → (read_faults after ≡ read_faults before) × (write_faults after ≡ write_faults before)
  -- 2: exactly where the words are no command; nothing was read, and the line that says so was written
  pub none : (status ≡ 2) ↔ (¬ AskAny words)
  pub unread : status ≡ 2 → after.input ≡ before.input
  pub reported : status ≡ 2 → WritesLine (codes "stop 2 words\n") (Some (sink_bytes before.output)) (Some (sink_bytes after.output))
      (write_faults before) (write_faults after)
  -- 3 and 4: only where a read or a write failed
  pub read : status ≡ 3 → Rose (read_faults before) (read_faults after)
  pub write : status ≡ 4 → Rose (write_faults before) (write_faults after)
  -- 5 and 6: only where a call of the disk or a bind failed
  pub kept : status ≡ 5 → Rose before.disk.faults after.disk.faults
  pub bound : status ≡ 6 → Rose before.link.faults after.link.faults
  -- 5, 6 and 9 only by `node`, `guard` and `serve`, and 8 only by these and `audit`; no other word touches disk or link
  pub by_host : (status ≡ 5) ⊎ (status ≡ 6) ⊎ (status ≡ 9) → AskHost words
  pub of_journals : status ≡ 8 → AskHost words ⊎ AskAudit words
  pub disk : ¬ AskHost words → after.disk ≡ before.disk
  pub link : ¬ AskHost words → after.link ≡ before.link
  pub only : (status ≡ 0) ⊎ (status ≡ 1) ⊎ (status ≡ 2) ⊎ (status ≡ 3) ⊎ (status ≡ 4) ⊎ (status ≡ 5) ⊎ (status ≡ 6) ⊎ (status ≡ 7)
      ⊎ (status ≡ 8) ⊎ (status ≡ 9)
