use Rattle.std.proofs.Common.{◌≡◌, ◌≤◌, length}
use Rattle.std.specs.Prelude.{min}
use Rattle.accounts.specs.Views.{account}
use Rattle.store_defs.specs.Holding.{delivered_below}
use Rattle.store_replies.specs.Words.{most_counted}
use Rattle.store_server.proofs.beginning.count.Given as goal

-- the messages of the views so far
abbrev pub invariant-views : goal.invariant-views
invariant-views l = record {
  so_far : l.total ≡ min (delivered_below (account l.reported) l.delivered-index) most_counted;
  within : l.delivered-index ≤ length l.reported.delivered.items;
}
