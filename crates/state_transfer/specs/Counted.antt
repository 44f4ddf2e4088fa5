-- Who is counted with which state.
use Rattle.std.specs.Prelude.{ℕ, List, map}
use Rattle.state_transfer.specs.declared.transfer.Given.{Given}

-- a signer with the state that it gave
abbrev pub given : Given → ℕ × List ℕ
given g = (g.signer, g.state.value.items)

-- in order
abbrev pub counted : List Given → List (ℕ × List ℕ)
counted gs = map given gs
