use Rattle.std.proofs.Common.{◌≡◌, drop}
use Rattle.std.specs.Prelude.{◌==◌, ◌&&◌}
use Rattle.std.specs.List.{list_any}
use Rattle.store_defs.specs.Votes.{same_content}
use Rattle.vote_client.specs.Counted.{counted}
use Rattle.vote_client.specs.Views.{content}
use Rattle.vote_client.proofs.vote.has_given.Given as goal

-- it is among all exactly where it is among those that are left
abbrev pub invariant-counted : goal.invariant-counted
invariant-counted l = list_any (λ g. (g.0 == l.signer) && same_content (content l.content) g.1) (counted (drop l.given-index l.counted))
    ≡ list_any (λ g. (g.0 == l.signer) && same_content (content l.content) g.1) (counted l.counted)
