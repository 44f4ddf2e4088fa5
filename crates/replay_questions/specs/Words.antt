-- Whose word a statement is among players, by the statement's bytes.
use Rattle.std.specs.Prelude.{◌≡◌, ℕ, Bool, true, ◌||◌, not, ◌==◌, List}
use Rattle.std.specs.List.{list_all}
use Rattle.message_defs.specs.Statements.{Claim}
use Rattle.message_defs.specs.Frames.{Group}
use Rattle.message_defs.specs.Spelling.{IsStatement, spelling}
use Rattle.said_index.specs.Said.{is_said}
use Rattle.replay_world.specs.Cast.{Player}

-- the player is not this process, or said the statement with these bytes
abbrev pub says : ℕ → List ℕ → Player → Bool
says signer bytes p = not (p.process == signer) || is_said bytes p.said

-- the process is none of these players, or said the statement with these bytes
abbrev pub is_word : List Player → ℕ → List ℕ → Bool
is_word ps signer bytes = list_all (says signer bytes) ps

-- the claim's statement is in its ranges, and its signer is none of these players, or said it
abbrev pub IsWord : List Player → Claim → Type 0
IsWord ps c = IsStatement c.statement × (is_word ps c.signer (spelling c.statement) ≡ true)

-- the group with these bytes of a statement, and these signers and signatures
abbrev pub group_of : List ℕ → List (ℕ × List ℕ) → Group
group_of statement signatures = record { statement = statement; signatures = signatures }
