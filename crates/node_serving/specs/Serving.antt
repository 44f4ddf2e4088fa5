-- A line for the service to which it has no answer.
use Rattle.std.specs.Prelude.{◌≡◌, ℕ, List, [], ◌∷◌, ◌++◌}
use Rattle.group_defs.specs.Process.{Process}
use Rattle.node_defs.specs.Casts.{Cast}
use Rattle.node_defs.specs.Lines.{Stop, NoMemory, BadLine}
use Rattle.node_defs.specs.Nodes.{Words, Done}
use Rattle.node_traces.specs.Service.{Asked, one_asked}

-- Either the service was shown process p and its line, and had no answer; or memory ran out, and the service was not asked.
abbrev pub HasNoAnswer : {V : Type 0} → (V → List Asked → Type 0) → V → List Asked → Cast → Process → ℕ → List ℕ → ℕ → Stop → Type 0
HasNoAnswer heard service h c now p line number (BadLine n) = (n ≡ number) × heard service (h ++ one_asked c (now ∷ []) (Words p line) Done)
HasNoAnswer heard service h c now p line number NoMemory = heard service h
HasNoAnswer heard service h c now p line number _ = ⊥
