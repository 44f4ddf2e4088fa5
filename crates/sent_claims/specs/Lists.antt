-- How a list of claims is kept: their bytes one after the other, and of each claim where its bytes are.
-- Names here (* for this crate alone):
--   what contracts see: lent_claim, IsShort*, same_signed*, joined*
--   where the bytes are: middle*, past*, listed_claim*, listed_claims*, IsListed*, AreListed*, added*, extended
use Rattle.std.specs.Prelude.{ℕ, ◌+◌, ◌≤◌, Bool, ◌&&◌, ◌==◌, List, ◌∷◌, [], ◌++◌, length, map, slice_range, fold, if◌then◌else◌}
use Rattle.std.specs.List.{AllByRecursion, list_any}
use Rattle.byte_defs.specs.Equality.{same_bytes}
use Rattle.message_defs.specs.Packing.{Signed, signed}
use Rattle.sent_claims.specs.declared.list.Listed.{Listed}
use Rattle.sent_claims.specs.declared.list.Lent.{Lent}

-- ---- what contracts see

-- the claim that is borrowed
abbrev pub lent_claim : Lent → Signed
lent_claim c = signed c.statement.now c.signer c.signature.now

-- a statement has at most 1,032 bytes, and a signature at most 16,384
pub record IsShort (c : Signed) : Type 0 where
  pub statement : length c.statement ≤ 1032
  pub signature : length c.signature ≤ 16384

-- signer, statement and signature are equal
abbrev pub same_signed : Signed → Signed → Bool
same_signed c d = c.signer == d.signer && (same_bytes c.statement d.statement && same_bytes c.signature d.signature)

-- after the others, where it is not among them
abbrev pub joined : List Signed → Signed → List Signed
joined cs c = if list_any (same_signed c) cs then cs else cs ++ c ∷ []

-- ---- where the bytes are

-- where the statement ends, and the signature begins
abbrev pub middle : Listed → ℕ
middle l = l.start + l.said

-- where the signature ends
abbrev pub past : Listed → ℕ
past l = middle l + l.signed

-- the claim whose bytes are there
abbrev pub listed_claim : List ℕ → Listed → Signed
listed_claim bytes l = signed (slice_range bytes l.start (middle l)) l.signer (slice_range bytes (middle l) (past l))

-- the claims, in their order
abbrev pub listed_claims : List ℕ → List Listed → List Signed
listed_claims bytes ls = map (listed_claim bytes) ls

-- the claim's bytes are there, and are not more than a claim has
pub record IsListed (bytes : List ℕ) (l : Listed) : Type 0 where
  pub within : past l ≤ length bytes
  pub said : l.said ≤ 1032
  pub signed : l.signed ≤ 16384

abbrev pub AreListed : List ℕ → List Listed → Type 0
AreListed bytes ls = AllByRecursion (IsListed bytes) ls

-- the claim after the others; and only where it is not among them, where each is to be there once
abbrev pub added : Bool → List Signed → Signed → List Signed
added once cs c = if once then joined cs c else cs ++ c ∷ []

-- these claims after the others, one by one
abbrev pub extended : Bool → List Signed → List Signed → List Signed
extended once cs ds = fold (added once) cs ds
