-- What is written of a process's views, as a chain of them.
use Rattle.std.specs.Prelude.{◌≡◌, ℕ, ◌+◌, ◌≤◌, List, [], ◌∷◌, ◌++◌, length, take, flat_map, All, Contains, Ok}
use Rattle.group_defs.specs.Process.{Left, Process, views_of}
use Rattle.group_defs.specs.Family.{ends}
use Rattle.input_defs.specs.Fronts.{Front, front_of}
use Rattle.chain_text_defs.specs.Chains.{chain_of, setting_of, view_line}
use Rattle.audit_defs.specs.Audits.{Audited}
use Rattle.proof_defs.specs.Lines.{proof_frames, proof_line}

-- its commit certificate is one frame, so its line is not large
abbrev pub IsOneFrame : Left → Type 0
IsOneFrame l = (frame : List ℕ) × (proof_frames l ≡ frame ∷ [])

-- What `chain` says to the lines of the processes that an audit takes as correct. After any lines that are read as a kit of the audit's
-- setting it takes the lines of a process from the first view on, as many as are not large, and says the views that the process installed,
-- up to the one after them.
abbrev pub ChainTakes : Audited → Type 0
ChainTakes a = (front : List ℕ) (f : Front) (p : Process) (n : ℕ) → front_of front ≡ Ok f → f.rest ≡ [] → setting_of f.kit ≡ a.family.setting
    → Contains (ends a.family) p → n ≤ length p.left → All IsOneFrame (take n p.left)
    → chain_of (front ++ flat_map (proof_line p.me) (take n p.left))
    ≡ record { written = flat_map view_line (take (n + 1) (views_of p)); status = 0 }
