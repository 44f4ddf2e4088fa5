-- What is reported, as plain data.
use Rattle.std.specs.Prelude.{map}
use Rattle.audit_defs.specs.Findings as plain
use Rattle.accounts.specs.Views.{account}
use Rattle.findings_json.specs.declared.findings.Conviction.{Conviction}
use Rattle.findings_json.specs.declared.findings.Findings.{Findings}

-- a conviction, as it is reported
abbrev pub reported : Conviction → plain.Reported
reported c = record { process = c.process; kind = c.kind; first = c.first.statement; second = c.second.statement }

-- the findings
abbrev pub findings : Findings → plain.Findings
findings f = record {
  agree = f.agree;
  bounded = f.bounded;
  convicted = map reported f.convicted.items;
  honest = f.honest;
  accounts = map account f.accounts.items;
  sound = f.sound;
}
