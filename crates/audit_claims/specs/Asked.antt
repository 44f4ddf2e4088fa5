-- A rule of signatures with claims that were seen: what is known of a signature before the rule is asked.
use Rattle.std.specs.Prelude.{ℕ, ◌==◌, ◌&&◌, ◌||◌, nat_lt, if◌then◌else◌, Bool, List, [], ◌∷◌, drop, find, Option, Some, None, option_map, Result, Ok, Err}
use Rattle.byte_defs.specs.Choices.{is_some_and}
use Rattle.byte_defs.specs.Equality.{same_bytes}
use Rattle.message_defs.specs.Statements.{Claim, Statement}
use Rattle.message_defs.specs.declared.FrameFault.{FrameFault}
use Rattle.message_defs.specs.Spelling.{body}
use Rattle.message_defs.specs.Reading.{statement_of}
use Rattle.claim_firsts.specs.First.{is_first}
use Rattle.claim_firsts.specs.Tables.{Table}

-- the claim of this signer with this signature and this statement, where one was read
abbrev pub claim_by : ℕ → List ℕ → Result Statement FrameFault → Option Claim
claim_by signer signature (Ok st) = Some (record { signer = signer; statement = st; signature = signature })
claim_by signer signature (Err fault) = None

-- a body, without its head of 20 bytes, is its signer, which is a process, and its statement
abbrev pub claim_in : List ℕ → List ℕ → Option Claim
claim_in [] signature = None
claim_in (signer ∷ bytes) signature = if nat_lt signer 64 then claim_by signer signature (statement_of bytes) else None

-- the key of the process, in this roster
abbrev pub key_in : List (ℕ × List ℕ) → ℕ → Option (List ℕ)
key_in roster p = option_map (λ k. k.1) (find (λ k. k.0 == p) roster)

-- the claim has this body in the group, and its signer this key
abbrev pub is_under : (group : List ℕ) → (roster : List (ℕ × List ℕ)) → (key bytes : List ℕ) → Claim → Bool
is_under group roster key bytes c = same_bytes bytes (body group c.signer c.statement) && is_some_and (key_in roster c.signer) (same_bytes key)

-- The body is that of a claim in the group, the key is its signer's, and the table has the claim, with this signature, as the first one of
-- its signer on its slot.
abbrev pub is_known : (group : List ℕ) → (roster : List (ℕ × List ℕ)) → Table → (key bytes signature : List ℕ) → Bool
is_known group roster t key bytes signature =
    is_some_and (claim_in (drop 20 bytes) signature) (λ c. is_under group roster key bytes c && is_first t c)

-- what is known is valid, and all else is judged by the rule
abbrev pub known_or_valid : (List ℕ → List ℕ → List ℕ → Bool) → (group : List ℕ) → (roster : List (ℕ × List ℕ)) → Table
    → (key bytes signature : List ℕ) → Bool
known_or_valid valid group roster t key bytes signature = is_known group roster t key bytes signature || valid key bytes signature
