use Rattle.std.proofs.Common.{◌≡◌, ◌++◌, ◌-◌, drop, length}
use Rattle.sent_claims.specs.Beside.{chosen}
use Rattle.member_sending.proofs.base.last_places.Given as goal

abbrev pub invariant-claims : goal.invariant-claims
invariant-claims l = chosen l.state.said.claims l.places.items
    ++ drop l.place l.state.said.claims ≡ drop (length l.state.said.claims - l.newly) l.state.said.claims
