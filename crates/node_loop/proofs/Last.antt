-- The last line, written or not.
use Rattle.std.proofs.Common.{◌≡◌, ◌⊎◌, inl, inr, ℕ, ◌==◌, Bool, true, false, length, ap, ◌∙◌, List, [], ◌∷◌, Result, Ok, Err, refl, sym, subst}
use Rattle.std.specs.Prelude.{OnOk, OnErr}
use Rattle.std.proofs.Math.Dec.{eqb-suc-zero}
use Rattle.std.specs.Io.KnownBytes.{Appends}
use Rattle.rp_base.specs.Causes.{Rose}
use Rattle.rp_base.specs.Streams.{AppendsPrefix}
use Rattle.node_traces.specs.Outside.{SinkSeen, SinkWrote, SinkFailed}
use Rattle.node_loop.specs.Ended.{SaysLast}

-- by what the call answered
written : {T E : Type 0} (r : Result T E) (line : List ℕ) (old new : SinkSeen) → OnOk r (Appends old.written new.written line)
    → OnErr r (AppendsPrefix old.written new.written line) → OnErr r (Rose old.faults new.faults) → OnOk r (new.faults ≡ old.faults)
    → SinkWrote old new line ⊎ SinkFailed old new line
written (Ok x) line old new bytes part failed steady = inl (record { appended = bytes; steady = steady })
written (Err e) line old new bytes part failed steady = inr (record { front = part; rose = failed })

some-line : (line : List ℕ) (old new : SinkSeen) → (line ≡ [] → ⊥) → SinkWrote old new line ⊎ SinkFailed old new line → SaysLast line old new
some-line [] old new some said = absurd (some refl)
some-line (b ∷ line) old new some said = said

pub says : {T E : Type 0} (r : Result T E) (line : List ℕ) (old new : SinkSeen) → (line ≡ [] → ⊥) → OnOk r (Appends old.written new.written line)
    → OnErr r (AppendsPrefix old.written new.written line) → OnErr r (Rose old.faults new.faults) → OnOk r (new.faults ≡ old.faults)
    → SaysLast line old new
says r line old new some bytes part failed steady = some-line line old new some (written r line old new bytes part failed steady)

pub says-nothing : (line : List ℕ) (sink : SinkSeen) → line ≡ [] → SaysLast line sink sink
says-nothing line sink none = subst (λ (l : List ℕ). SaysLast l sink sink) (sym none) refl

-- by the test of whether there is a line
pub has-line : (b : Bool) (line : List ℕ) → b ≡ (length line == 0) → b ≡ false → line ≡ [] → ⊥
has-line b line is some none = let bad : false ≡ true = sym some ∙ is ∙ ap (λ (l : List ℕ). length l == 0) none in absurd cc

pub has-none : (b : Bool) (line : List ℕ) → b ≡ (length line == 0) → b ≡ true → line ≡ []
has-none b [] is empty = refl
has-none b (x ∷ line) is empty = let bad : true ≡ false = sym empty ∙ is ∙ eqb-suc-zero (length line) in absurd cc
