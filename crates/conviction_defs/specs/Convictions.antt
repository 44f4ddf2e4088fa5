-- Who is convicted by claims, and by which two. Only valid claims count: what anyone may write proves nothing.
--
-- A signer is convicted by a list of claims where two of them are its own, valid, and conflict: kind and slot are equal, and the contents
-- differ. Of several such pairs one is given: `second` is the first claim of the signer that conflicts with one before it, and `first` the
-- earliest one of that kind and slot.
-- Names here (* for this crate alone):
--   Conviction
--   as a relation: Convicts
--   as a test: is_on_slot, is_conflict, claims_by, has_conflict, is_convicted, convicted
--   and which two: earliest_with, pair_behind, conviction_of, convictions
--   by the first claims alone, as they are kept: firsts_behind, firsts*
use Rattle.std.specs.Prelude.{◌≡◌, ℕ, ◌==◌, ◌&&◌, not, if◌then◌else◌, Bool, List, [], ◌∷◌, ◌++◌, filter, find, Option, None, option_map, Contains, IsTrue}
use Rattle.std.specs.List.{list_any, filter_map}
use Rattle.message_defs.specs.Statements.{Claim, Conflicts, slot_of, same_slot, same_statement}
use Rattle.group_defs.specs.Process.{Setting, keyed}
use Rattle.group_defs.specs.Hearing.{is_valid}

-- two claims that convict their signer
pub record Conviction : Type 0 where
  pub process : ℕ
  pub first : Claim
  pub second : Claim

-- ---- as a relation

-- these claims convict the process
pub record Convicts (s : Setting) (claims : List Claim) (q : ℕ) : Type 0 where
  pub one : Claim
  pub other : Claim
  pub one_of : Contains claims one
  pub other_of : Contains claims other
  pub signer : one.signer ≡ q
  pub one_valid : IsTrue (is_valid s one)
  pub other_valid : IsTrue (is_valid s other)
  pub conflict : Conflicts one other

-- ---- as a test

-- the claim is on the slot of the other
abbrev pub is_on_slot : Claim → Claim → Bool
is_on_slot c b = same_slot (slot_of b.statement) (slot_of c.statement)

-- of one signer, the two conflict
abbrev pub is_conflict : Claim → Claim → Bool
is_conflict c b = is_on_slot c b && not (same_statement b.statement c.statement)

-- the valid claims of a signer, in order
abbrev pub claims_by : Setting → List Claim → ℕ → List Claim
claims_by s claims q = filter (λ c. (c.signer == q) && is_valid s c) claims

-- of these claims of one signer, two conflict
abbrev pub has_conflict : List Claim → Bool
has_conflict claims = list_any (λ c. list_any (is_conflict c) claims) claims

-- the claims convict the process
abbrev pub is_convicted : Setting → List Claim → ℕ → Bool
is_convicted s claims q = has_conflict (claims_by s claims q)

-- all whom the claims convict, in the roster's order; nobody without a key has valid claims
abbrev pub convicted : Setting → List Claim → List ℕ
convicted s claims = filter (is_convicted s claims) (keyed s)

-- ---- and which two

-- the earliest of these claims that is on the claim's slot, and the claim
abbrev pub earliest_with : List Claim → Claim → Option (Claim × Claim)
earliest_with before c = option_map (λ b. (b, c)) (find (is_on_slot c) before)

-- the first claim that conflicts with one before it, after the earliest one of its slot; these claims come before all of them
unfoldable pub pair_behind : List Claim → List Claim → Option (Claim × Claim)
pair_behind before [] = None
pair_behind before (c ∷ cs) =
    if list_any (is_conflict c) before then earliest_with before c else pair_behind (before ++ c ∷ []) cs

-- the conviction of the process, where the claims convict it
abbrev pub conviction_of : Setting → List Claim → ℕ → Option Conviction
conviction_of s claims q = option_map (λ pair. record { process = q; first = pair.0; second = pair.1 }) (pair_behind [] (claims_by s claims q))

-- one conviction of each whom the claims convict, in the same order
abbrev pub convictions : Setting → List Claim → List Conviction
convictions s claims = filter_map (conviction_of s claims) (keyed s)

-- ---- by the first claims alone, as they are kept

-- the claims but those that come after one of the same signer and slot
unfoldable pub firsts_behind : List Claim → List Claim → List Claim
firsts_behind before [] = before
firsts_behind before (c ∷ cs) =
    if list_any (λ b. (b.signer == c.signer) && is_on_slot c b) before then firsts_behind before cs else firsts_behind (before ++ c ∷ []) cs

-- the first valid claim of each signer and slot, in order
abbrev pub firsts : Setting → List Claim → List Claim
firsts s claims = firsts_behind [] (filter (is_valid s) claims)
