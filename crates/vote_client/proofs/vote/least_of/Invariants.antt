use Rattle.std.proofs.Common.{◌≡◌, map, drop, None}
use Rattle.std.specs.Prelude.{option_map}
use Rattle.vote_client.specs.Counted.{counted}
use Rattle.vote_client.specs.Views.{content}
use Rattle.vote_client.proofs.Leasts.{chosen}
use Rattle.vote_client.proofs.vote.least_of.Given as goal

-- after the least so far, the contents that are left give what all give
abbrev pub invariant-counted : goal.invariant-counted
invariant-counted l = chosen l.vote (option_map content l.least) (map (λ g. g.1) (counted (drop l.given-index l.counted)))
    ≡ chosen l.vote None (map (λ g. g.1) (counted l.counted))
