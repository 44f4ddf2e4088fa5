use Rattle.std.proofs.Common.{◌≡◌, ◌++◌, map, drop}
use Rattle.serde_json.specs.View.{view}
use Rattle.findings_laws.specs.Values.{view_data}
use Rattle.findings_json.proofs.values.views_value.Given as goal

-- with those that are left, all have their values
abbrev pub invariant-views : goal.invariant-views
invariant-views l = map view l.all.items ++ map view_data ((drop l.v-index l.views)) ≡ map view_data (l.views)
