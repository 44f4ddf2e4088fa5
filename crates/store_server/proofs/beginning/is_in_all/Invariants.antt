use Rattle.std.proofs.Common.{◌≡◌, ◌≤◌, length, true}
use Rattle.accounts.specs.Views.{account}
use Rattle.store_defs.specs.Holding.{stayed}
use Rattle.store_server.proofs.beginning.is_in_all.Given as goal

-- it was a member of the views so far
abbrev pub invariant-views : goal.invariant-views
invariant-views l = record {
  so_far : stayed (account l.reported) 0 l.view-index ≡ true;
  within : l.view-index ≤ length l.reported.views.items;
}
