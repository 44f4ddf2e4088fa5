use Rattle.std.proofs.Common.{◌-◌, ◌≤◌}
use Rattle.rule_laws.specs.Heard.{IsPool}
use Rattle.multicast_rules.proofs.Placing.{AreClosed}
use Rattle.multicast_rules.proofs.places.first_fitting.Given as goal

abbrev pub invariant-orders : goal.invariant-orders
invariant-orders l = record {
  closed : IsPool l.pool.pool → AreClosed l.pool.pool l.signed l.from;
  few : l.from ≤ 1024;
}

abbrev pub decreases-orders : goal.decreases-orders
decreases-orders l = 1024 - l.from
