use Rattle.std.proofs.Common.{ℕ, ◌<◌, ◌+◌, List, All, sym, subst, arith}
use Rattle.std.proofs.lemmas.List.Elements.{All-nil, All-same, All-push, All-weaker}
use Rattle.chain_measures.proofs.signing.roster.Goals as goal

pub add-requires : goal.add-requires
add-requires c =
    let P : ℕ → Type 0 = λ m. All (λ (k : ℕ × List ℕ). k.0 < m) c.processes.roster in
    subst P (sym c.process-next.ensures) c.processes.invariant.below

pub processes-init : goal.processes-init
processes-init c =
    let P : ℕ × List ℕ → Type 0 = λ k. k.0 < 0 in
    record {
      below = All-same P _ _ c.in_ok-roster.ensures (All-nil P);
    }

pub processes-preserved : goal.processes-preserved
processes-preserved c =
    let P : ℕ × List ℕ → Type 0 = λ k. k.0 < c.processes.number in
    let Q : ℕ × List ℕ → Type 0 = λ k. k.0 < c.processes.number + 1 in
    let before : All Q c.processes.roster = All-weaker P Q (λ k low. omega (arith, low)) c.processes.roster c.processes.invariant.below in
    record {
      below = All-same Q _ _ c.in_ok-add.ensures.added (All-push Q c.processes.roster _ before (omega (arith, c.process-next.ensures)));
    }
