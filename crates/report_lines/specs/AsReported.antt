-- Which process of the definitions is as a report says.
use Rattle.std.specs.Prelude.{◌≡◌, ℕ, List, [], ◌∷◌, length, codes, Option, Some, None, option_and_then, if◌then◌else◌}
use Rattle.std.specs.Fmt.{decimal}
use Rattle.text_defs.specs.Words.{line_text}
use Rattle.group_defs.specs.Process.{Process, liars_of, places_in}
use Rattle.group_defs.specs.Settle.{phase_of}
use Rattle.group_defs.specs.Accounts.{account_of}
use Rattle.view_phases.specs.Phases.{word}
use Rattle.accounts.specs.Views.{account}
use Rattle.report_lines.specs.declared.process_report.ProcessReport.{ProcessReport}

-- The process is so: its account, its phase, how many statements it signed, the signers with a kept conflict, and where it has
-- halted, how many places it delivered and the cut.
pub record IsAsReported (t : ProcessReport) (p : Process) : Type 0 where
  pub account : account_of p ≡ account t.account.now
  pub phase : phase_of p ≡ word t.phase
  pub signed : length p.signed ≡ t.signed
  pub liars : liars_of p ≡ t.liars
  pub halted : option_and_then (λ d. if p.halted then Some (places_in p.delivered, d.1.cut) else None) p.decision ≡ t.halted

-- the line of a process that has halted, with both numbers; none where it has not
abbrev pub halted_text : ℕ → Option (ℕ × ℕ) → List ℕ
halted_text me None = []
halted_text me (Some h) = line_text (codes "halted" ∷ decimal me ∷ decimal h.0 ∷ decimal h.1 ∷ [])
