use Rattle.std.proofs.Common.{◌≡◌, ◌++◌, map, drop}
use Rattle.std.specs.List.{AllByRecursion}
use Rattle.serde_json.specs.View.{view}
use Rattle.findings_laws.specs.Values.{reported_data}
use Rattle.findings_laws.specs.Laws.{AreBytes}
use Rattle.findings_json.specs.Views.{reported}
use Rattle.findings_json.proofs.values.convicted_value.Given as goal

-- with those that are left, all have their values, and are of bytes
abbrev pub invariant-convicted : goal.invariant-convicted
invariant-convicted l = (map view l.all.items ++ map reported_data (map reported (drop l.c-index l.convicted)) ≡ map reported_data (map reported l.convicted))
    × (AllByRecursion AreBytes (map reported (drop l.c-index l.convicted)) → AllByRecursion AreBytes (map reported l.convicted))
