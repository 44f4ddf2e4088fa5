use Rattle.std.proofs.Common.{◌≡◌, ℕ, List, ◌+◌, ◌-◌, ◌*◌, [], slice_index_or, inl, inr, arith, subst}
use Rattle.std.proofs.lemmas.Bool.{cases_lt}
use Rattle.sha2.specs.Sha256.{digest_bytes}
use Rattle.sha256_lanes.proofs.Four.{below_four}
use Rattle.lms_chains.specs.Walks.{end_of}
use Rattle.lms_chains.proofs.walks.walk_in_order.Goals as goal

pub groups-init : goal.groups-init
groups-init c = λ i low among. absurd (omega arith)

pub groups-preserved : goal.groups-preserved
groups-preserved c = λ i low among.
    let g : ℕ = c.groups.group in
    let last : ℕ = c.args.count - 1 in
    let ends : List (List ℕ) = c.walk_into.new.ends in
    let end : ℕ → List ℕ = end_of (digest_bytes c.key_words-words.result 5) c.args.steps.now.from c.args.steps.now.to c.args.starts.now in
    elim (cases_lt i (4 * g)) [
      | inl lt ↦ c.walk_into.ensures.kept i (c.groups.invariant i lt among)
      | inr ge ↦
          below_four (λ l. 4 * g + l ≡ i → slice_index_or ends i [] ≡ end i)
          (λ e. subst (λ k. slice_index_or ends k [] ≡ end k) (omega arith) (c.walk_into.ensures.there 0 (omega arith)))
          (λ e. subst (λ k. slice_index_or ends k [] ≡ end k) (omega (arith, c.min.ensures)) (c.walk_into.ensures.there 1 (omega arith)))
          (λ e. subst (λ k. slice_index_or ends k [] ≡ end k) (omega (arith, c.min-in-groups.ensures)) (c.walk_into.ensures.there 2 (omega arith)))
          (λ e. subst (λ k. slice_index_or ends k [] ≡ end k) (omega (arith, c.min-in-groups-2.ensures)) (c.walk_into.ensures.there 3 (omega arith)))
          (i - 4 * g) (omega arith) (omega arith)
    ]

pub returns : goal.returns
returns c = λ i among.
    rw (← c.key_words-words.ensures) (c.groups.invariant i (omega arith) among)
