use Rattle.std.proofs.Common.{ℕ, List, ◌++◌, ap, ◌∙◌}
use Rattle.store_defs.specs.Stores.{store_bytes}
use Rattle.interop_store.proofs.States.{again, not-none}
use Rattle.interop_store.proofs.records.spelled_again.Goals as goal

pub unreachable-requires : goal.unreachable-requires
unreachable-requires c = not-none c.args.state.now c.requires (rw c.in_default.is at c.in_ok-store.ensures)

pub returns : goal.returns
returns c =
    c.in_ok-state_into.ensures.pushed
    ∙ ap (λ (l : List ℕ). l ++ store_bytes c.in-Some.store) c.new-again.ensures.items
    ∙ again c.args.state.now c.in-Some.store c.requires (rw c.in-Some.is at c.in_ok-store.ensures)
