-- What a process tells that has halted.
use Rattle.std.proofs.Common.{◌≡◌, ℕ, [], ◌∷◌, Bool, true, false, Option, Some, None, ap}
use Rattle.std.specs.Prelude.{if◌then◌else◌, option_and_then}
use Rattle.std.specs.Option.{option_map_or}
use Rattle.message_defs.specs.Updates.{Value}
use Rattle.group_defs.specs.Events.{Halts, note_if}

-- how many places it delivered, and the cut
pub halting-reported : (stops : Bool) (o : Option (ℕ × Value)) (places n cut : ℕ)
    → option_and_then {U = ℕ × ℕ} (λ d. if stops then Some (places, d.1.cut) else None) o ≡ Some (n, cut)
    → note_if stops (Halts places (option_map_or (λ d. d.1.cut) o 0)) ≡ Halts n cut ∷ []
halting-reported stops None places n cut is = absurd cc
halting-reported false (Some d) places n cut is = absurd cc
halting-reported true (Some d) places n cut is = let same : (places, d.1.cut) ≡ (n, cut) = cc in ap (λ (x : ℕ × ℕ). Halts x.0 x.1 ∷ []) same
