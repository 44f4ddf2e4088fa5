use Rattle.std.proofs.Common.{◌≡◌, ◌++◌, drop}
use Rattle.std.specs.Prelude.{filter, not}
use Rattle.group_defs.specs.Process.{Process}
use Rattle.group_defs.specs.Sending.{was_delivered}
use Rattle.sent_claims.specs.Beside.{chosen}
use Rattle.member_sending.specs.Began.{HasDone}
use Rattle.member_sending.proofs.base.repeated.Given as goal

abbrev pub invariant-claims : goal.invariant-claims
invariant-claims l = (began : Process) → HasDone l.state began
    → chosen l.state.said.claims l.places.items
    ++ filter (λ c. not (was_delivered began c.statement)) (drop l.place l.state.said.claims)
    ≡ filter (λ c. not (was_delivered began c.statement)) l.state.said.claims
