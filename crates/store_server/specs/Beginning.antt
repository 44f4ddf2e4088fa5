-- What was delivered in the views of an account.
use Rattle.std.specs.Prelude.{List, map, Vec}
use Rattle.std.specs.declared.alloc.Global.{Global}
use Rattle.accounts.specs.Views.{delivery}
use Rattle.group_defs.specs.Process as process
use Rattle.member_events.specs.declared.events.Delivered.{Delivered}

-- in each view
abbrev pub lists_of : List (Vec Delivered Global) → List (List process.Delivered)
lists_of lists = map (λ ds. map delivery ds.items) lists
