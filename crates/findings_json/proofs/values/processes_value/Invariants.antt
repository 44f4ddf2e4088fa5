use Rattle.std.proofs.Common.{◌≡◌, ◌++◌, map, drop}
use Rattle.serde_json.specs.View.{view}
use Rattle.findings_laws.specs.Values.{process_data}
use Rattle.accounts.specs.Views.{account}
use Rattle.findings_json.proofs.values.processes_value.Given as goal

-- with those that are left, all have their values
abbrev pub invariant-accounts : goal.invariant-accounts
invariant-accounts l = map view l.all.items ++ map process_data (map account (drop l.a-index l.accounts)) ≡ map process_data (map account l.accounts)
