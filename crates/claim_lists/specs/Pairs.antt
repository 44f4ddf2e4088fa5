-- Pairs of conflicting claims.
use Rattle.std.specs.Prelude.{◌≡◌, ℕ, Bool, ◌==◌, List, [], ◌∷◌, ◌++◌, length, if◌then◌else◌}
use Rattle.std.specs.List.{list_any}
use Rattle.message_defs.specs.Statements.{Claim}
use Rattle.claim_lists.specs.Lists.{Listing}

-- the pairs in order, in each the claim that was heard and the other one; those that were there at the mark; and for how many pairs more,
-- with how many bytes of statements and signatures on each side in all, there is room
pub record Pairing : Type 0 where
  pub pairs : List (Claim × Claim)
  pub marked : List (Claim × Claim)
  pub pairs_left : ℕ
  pub bytes_left : ℕ

-- a pair of this signer is among them
abbrev pub has_pair : List (Claim × Claim) → ℕ → Bool
has_pair pairs signer = list_any (λ pair. pair.1.signer == signer) pairs

-- the pair after them, where none of its signer is among them
abbrev pub with_pair : List (Claim × Claim) → Claim → Claim → List (Claim × Claim)
with_pair pairs heard other = if has_pair pairs other.signer then pairs else pairs ++ (heard, other) ∷ []

-- each claim of the one list has its partner in the other, and the signers of these are noted
pub record ArePaired (heard others : List Claim) (signers : List ℕ) : Type 0 where
  pub even : length heard ≡ length others
  pub noted : (q : ℕ) → list_any (λ p. p == q) signers ≡ list_any (λ c. c.signer == q) others

-- so are they now, and so they were at the mark
pub record AreMarkedPairs (heard others : Listing) (signers marked : List ℕ) : Type 0 where
  pub here : ArePaired heard.claims others.claims signers
  pub there : ArePaired heard.marked others.marked marked
