use Rattle.std.proofs.Common.{◌≡◌, ℕ, List, ◌-◌, ◌++◌, min, slice_index, ap, sym, inl, inr, arith}
use Rattle.std.proofs.lemmas.Bool.{cases_lt}
use Rattle.sha2.specs.Sha256.{digest_bytes}
use Rattle.sha256_lanes.specs.Lanes.{lane}
use Rattle.signature_defs.specs.Strings.{u16str}
use Rattle.signature_defs.proofs.ChainLaws.{chain_none}
use Rattle.lms_chains.proofs.ChainSteps.{step_on, step_before, step_after}
use Rattle.lms_chains.proofs.lanes.walk_four.Goals as goal

pub steps-init : goal.steps-init
steps-init c = λ n low small begun forward ended.
    sym (chain_none _ _ (slice_index c.args.from n) _ (omega arith))

pub steps-preserved : goal.steps-preserved
steps-preserved c = λ n low small begun forward ended.
    let head : List ℕ = digest_bytes c.args.key.now 5 ++ u16str (slice_index c.args.number n) in
    let start : List ℕ = digest_bytes (lane n c.args.start) 8 in
    let from : ℕ = slice_index c.args.from n in
    let to : ℕ = slice_index c.args.to n in
    let j : ℕ = c.steps.j in
    let before = c.steps.invariant n low small begun forward ended in
    let next = c.go_on-next.ensures in
    elim (cases_lt j from) [
      | inl lt ↦ step_before head start from to j _ _ lt forward before (ap (λ (l : List ℕ). digest_bytes l 8) (next.before n low lt))
      | inr le ↦ elim (cases_lt j to) [
        | inl lt ↦ step_on head start from to j _ _ le lt before (next.on n low small le lt)
        | inr ge ↦ step_after head start from to j _ _ ge before (ap (λ (l : List ℕ). digest_bytes l 8) (next.after n low ge))
      ]
    ]

pub returns : goal.returns
returns c = λ n low small begun forward ended.
    let from : ℕ = slice_index c.args.from n in
    let to : ℕ = slice_index c.args.to n in
    let all : min c.steps.j to - from ≡ to - from = omega arith in
    rw all at (c.steps.invariant n low small begun forward ended)
