-- The row of specs/OrdersAhead.antt, computed.
use Rattle.std.proofs.Common.{◌≡◌, refl, [], ◌∷◌, map}
use Rattle.std.specs.List.{range_with_len}
use native.Mathlib.Decide.{ℕ_discrete}
use Rattle.byte_defs.specs.Equality.{bytes_discrete, list_discrete, option_discrete, pair_discrete}
use Rattle.message_defs.specs.Updates.{Value-discrete}
use Rattle.message_defs.specs.Statements.{Message-discrete, Batch-discrete}
use Rattle.group_defs.specs.Certified.{own_orders, placed}
use Rattle.group_defs.specs.Due.{least_due, next_messages}
use Rattle.group_defs.specs.Hearing.{hear_all}
use Rattle.group_defs.specs.Signing.{sign_kind, sign_kinds, sign_all}
use Rattle.group_defs.specs.Settle.{deliver_more, settle}
use Rattle.group_defs.specs.Events.{after, run}
use Rattle.group_rows.specs.Scripts.{msg}
use Rattle.group_rows.specs.OrdersAhead.{s, first, turns, end, OrdersAhead}

orders : own_orders end ≡ first ∷ map (λ l. msg 0 l ∷ []) (range_with_len 2 32)
unfolding ℕ_discrete bytes_discrete option_discrete pair_discrete Value-discrete Message-discrete list_discrete Batch-discrete placed
    next_messages least_due hear_all sign_kind sign_kinds sign_all deliver_more settle after run s turns end
orders = refl

pub orders_ahead : OrdersAhead
orders_ahead = record { orders = orders }
