-- How many bytes a line has at most, as the code computes it.
use Rattle.std.proofs.Common.{◌≡◌, ℕ, List, ap, subst, ◌∙◌}
use Rattle.node_traces.specs.Service.{Asked, HeardBy}
use Rattle.node_script.specs.Sources.{line_limit}

-- what is so of a run whose lines have at most so many bytes is so with the service's limit
pub at-limit : {V : Type 0} (heard : V → List Asked → Type 0) (service : V) (P : ℕ → List Asked → Type 0) (most longest limit : ℕ)
    → most ≡ line_limit longest → longest ≡ limit → HeardBy heard service (P most) → HeardBy heard service (P (line_limit limit))
at-limit heard service P most longest limit is same ends =
    subst (λ (m : ℕ). HeardBy heard service (P m)) (is ∙ ap line_limit same) ends
