-- What a guard reads and writes beyond what a node does, whose `expel` line it also writes:
--   P accuse Q        a script line: P's conflict of Q goes to the other members
--   accuse P Q        the conflict is sent
--   accuse P none     P keeps none
use Rattle.std.specs.Prelude.{ℕ, ◌==◌, List, [], ◌∷◌, find, Option, Some, None, if◌then◌else◌, codes}
use Rattle.std.specs.Fmt.{decimal}
use Rattle.byte_defs.specs.Equality.{same_bytes}
use Rattle.text_defs.specs.Words.{line_text, process_of}
use Rattle.message_defs.specs.Statements.{Claim}
use Rattle.group_defs.specs.Process.{Process}
use Rattle.group_defs.specs.Sending.{Sending, Bundle, others, sends_to}

-- ---- accuse

-- the words after a hosted process: whom it is to accuse
abbrev pub accused_by : List (List ℕ) → Option ℕ
accused_by (word ∷ q ∷ []) = if same_bytes word (codes "accuse") then process_of q else None
accused_by _ = None

-- the conflict that the process keeps of q
abbrev pub conflict_of : Process → ℕ → Option (Claim × Claim)
conflict_of p q = find (λ pair. pair.0.signer == q) p.conflicts

-- the line
abbrev pub accuse_line : Process → ℕ → List ℕ
accuse_line p q = elim (conflict_of p q) [
  | None ↦ line_text (codes "accuse" ∷ decimal p.me ∷ codes "none" ∷ [])
  | Some pair ↦ line_text (codes "accuse" ∷ decimal p.me ∷ decimal q ∷ [])
]

-- the two claims in one Bundle, the heard one first, to the other members of the current view; nothing where there is no conflict
abbrev pub accusation : Process → ℕ → List Sending
accusation p q = elim (conflict_of p q) [
  | None ↦ []
  | Some pair ↦ sends_to (others p p.pool.view) (Bundle (pair.0 ∷ pair.1 ∷ []))
]
