-- How the rows are written: a signature is valid where it has no byte, and a journal is what follows its header.
use Rattle.std.specs.Prelude.{ℕ, ◌==◌, List, [], length, map, Result, Ok, Err}
use Rattle.group_defs.specs.Process.{all_kinds, Setting}
use Rattle.journal_defs.specs.declared.Version.{Version}
use Rattle.audit_defs.specs.Sources.{Source}
use Rattle.audit_defs.specs.Audits.{Audited, AuditFault, audited_in}
use Rattle.audit_defs.specs.Findings.{findings_of, findings_line, Refused, stop_line}

-- these are the members of the genesis view, and these processes have keys
abbrev pub setting : List ℕ → List ℕ → Setting
setting genesis roster = record {
  group = [];
  roster = map (λ p. (p, [])) roster;
  genesis = record { number = 0; members = genesis };
  valid = λ key body signature. length signature == 0;
  signs = all_kinds;
}

abbrev pub journal : Version → List ℕ → List ℕ → Source
journal version hosted records = record { version = version; hosted = hosted; records = records }

-- what is written
abbrev pub written : Result Audited AuditFault → List ℕ
written (Ok a) = findings_line (findings_of a)
written (Err fault) = stop_line (Refused fault)

abbrev pub line_of : List ℕ → List ℕ → List Source → List ℕ → List ℕ
line_of genesis roster sources listed = written (audited_in (setting genesis roster) sources listed)
