use Rattle.std.proofs.Common.{◌≡◌, ◌++◌, map, drop}
use Rattle.serde_json.specs.View.{view}
use Rattle.findings_laws.specs.Values.{number_of}
use Rattle.findings_json.proofs.values.members_value.Given as goal

-- with those that are left, all have their values
abbrev pub invariant-members : goal.invariant-members
invariant-members l = map view l.all.items ++ map number_of ((drop l.p-index l.members)) ≡ map number_of (l.members)
