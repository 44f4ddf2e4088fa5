use Rattle.std.proofs.Common.{ℕ, ◌≡◌, ◌<◌, ◌+◌, List, [], ◌∷◌, ◌++◌, All, sym, subst, ap, ◌∙◌, arith}
use Rattle.std.proofs.lemmas.List.Elements.{All-nil, All-same, All-push, All-weaker}
use Rattle.bench_parts.proofs.Growing.{no_keys, one_more_key}
use Rattle.bench_parts.proofs.processes.plain_roster.Goals as goal

pub add-requires : goal.add-requires
add-requires c =
    let P : ℕ → Type 0 = λ m. All (λ (k : ℕ × List ℕ). k.0 < m) c.processes.roster in
    subst P (sym c.process-next.ensures) c.processes.invariant.below

pub processes-init : goal.processes-init
processes-init c =
    let P : ℕ × List ℕ → Type 0 = λ k. k.0 < 0 in
    record {
      below = All-same P _ _ c.in_ok-roster.ensures (All-nil P);
      keys = c.in_ok-roster.ensures ∙ sym no_keys;
    }

pub processes-preserved : goal.processes-preserved
processes-preserved c =
    let P : ℕ × List ℕ → Type 0 = λ k. k.0 < c.processes.n in
    let Q : ℕ × List ℕ → Type 0 = λ k. k.0 < c.processes.n + 1 in
    let before : All Q c.processes.roster = All-weaker P Q (λ k low. omega (arith, low)) c.processes.roster c.processes.invariant.below in
    record {
      below = All-same Q _ _ c.in_ok-add.ensures.added (All-push Q c.processes.roster _ before (omega (arith, c.process-next.ensures)));
      keys = c.in_ok-add.ensures.added ∙ rw (c.processes.invariant.keys, c.key_of.ensures, c.process-next.ensures)
          (sym (one_more_key c.processes.n));
    }
