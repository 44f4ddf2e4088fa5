-- What is drawn, appended to what was there.
use Rattle.std.specs.Prelude.{◌≡◌, ℕ, List, ◌++◌}
use Rattle.replay_defs.specs.Generator.{Drawn}

-- The list is what was there and what is drawn, and this is the state after the draws.
abbrev pub Behind : {A : Type 0} → List A → Drawn (List A) → List A → ℕ → Type 0
Behind before drawn after state = (after ≡ before ++ drawn.0) × (state ≡ drawn.1)
