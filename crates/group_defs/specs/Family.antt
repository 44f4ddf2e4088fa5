-- Families of correct processes, and the premises on what was handed to them.
-- Names here (* for this crate alone):
--   Correct, Family, numbers, end_of, ends, accounts, statements_of
--   the premises: claims_in, handed_to, handed, IsOwned, Honest, honest, HonestIsTested
use Rattle.std.specs.Prelude.{◌≡◌, ℕ, Bool, ◌||◌, not, ◌==◌, List, [], map, flat_map, IsTrue, ◌↔◌, All, Contains}
use Rattle.std.specs.List.{list_any, list_all}
use Rattle.message_defs.specs.Statements.{Statement, Claim, same_statement}
use Rattle.group_defs.specs.Process.{Setting, Process, start}
use Rattle.group_defs.specs.Hearing.{is_valid}
use Rattle.message_defs.specs.Claims.{Claims}
use Rattle.group_defs.specs.Events.{Event, Hand, Turn, run}
use Rattle.group_defs.specs.Accounts.{Account, account_of}

-- a correct process, its batch limit and its turns
pub record Correct : Type 0 where
  pub me : ℕ
  pub batch_limit : ℕ
  pub turns : List Turn

-- correct processes of one setting
pub record Family : Type 0 where
  pub setting : Setting
  pub correct : List Correct

-- the numbers of the correct processes
abbrev pub numbers : Family → List ℕ
numbers f = map (λ c. c.me) f.correct

-- a correct process at the end
abbrev pub end_of : Setting → Correct → Process
end_of s c = run s (start s c.me c.batch_limit) c.turns

-- the correct processes at the end
abbrev pub ends : Family → List Process
ends f = map (end_of f.setting) f.correct

-- their accounts at the end
abbrev pub accounts : Family → List Account
accounts f = map account_of (ends f)

-- what the process signed, in order
abbrev pub statements_of : Process → List Statement
statements_of p = map (λ c. c.statement) p.signed

-- ---- the premises

-- the claims of the frame that the event hands over
abbrev pub claims_in : Event → List Claim
claims_in (Hand from (Claims claims)) = claims
claims_in _ = []

-- the claims that were handed over in these events
abbrev pub handed_to : List Turn → List Claim
handed_to ts = flat_map (λ t. claims_in t.event) ts

-- the claims that were handed to correct processes
abbrev pub handed : Family → List Claim
handed f = flat_map (λ c. handed_to c.turns) f.correct

-- what was handed over of a correct process is its own word
abbrev pub IsOwned : Family → Claim → Type 0
IsOwned f c = IsTrue (is_valid f.setting c) → All (λ p. p.me ≡ c.signer → Contains (statements_of p) c.statement) (ends f)

-- each valid claim that was handed over and has a correct signer is one of what that signer has signed at the end
abbrev pub Honest : Family → Type 0
Honest f = All (IsOwned f) (handed f)

-- as `Honest`, as the report computes it
abbrev pub honest : Family → Bool
honest f = list_all (λ c. not (is_valid f.setting c)
    || list_all (λ p. not (p.me == c.signer) || list_any (same_statement c.statement) (statements_of p)) (ends f)) (handed f)

-- the two say the same
abbrev pub HonestIsTested : Type 0
HonestIsTested = (f : Family) → IsTrue (honest f) ↔ Honest f
