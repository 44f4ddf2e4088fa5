-- What a core reports of itself is so of its process.
use Rattle.std.proofs.Common.{◌≡◌, length}
use Rattle.group_defs.specs.Process.{Process}
use Rattle.group_defs.specs.Settle.{phase_of}
use Rattle.group_defs.specs.Accounts.{account_of}
use Rattle.accounts.specs.Views.{account}
use Rattle.report_lines.specs.Phases.{word}
use Rattle.replay_questions.specs.Cast.{liars_of, halted_at}
use Rattle.report_lines.specs.declared.process_report.ProcessReport.{ProcessReport}
use Rattle.report_lines.specs.AsReported.{IsAsReported}

pub stands : (p : Process) (t : ProcessReport) → account_of p ≡ account t.account.now → phase_of p ≡ word t.phase → length p.signed ≡ t.signed
    → liars_of p ≡ t.liars → halted_at p ≡ t.halted → IsAsReported t p
stands p t reported phase signed liars halted = record {
  account = reported;
  phase = phase;
  signed = signed;
  liars = liars;
  halted = halted;
}
