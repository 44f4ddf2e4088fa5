-- A list of claims, with its room.
use Rattle.std.specs.Prelude.{ℕ, ◌≤◌, List, length, take}
use Rattle.message_defs.specs.Statements.{Claim}
use Rattle.claim_index.specs.declared.key.Key.{Key}
use Rattle.claim_index.specs.declared.index.Kept.{Kept}
use Rattle.claim_index.specs.Kept.{AreKept}
use Rattle.claim_lists.specs.declared.list.Filled.{Filled}

-- the claims in order; those that were there at the mark; and how many more, with how many bytes in all, can be added without memory
pub record Listing : Type 0 where
  pub claims : List Claim
  pub marked : List Claim
  pub claims_left : ℕ
  pub bytes_left : ℕ

-- each is kept now; and each was at the mark, of the bytes and the entries that there were then
pub record AreMarkedKept (bytes : List ℕ) (es : List (Key × Kept)) (m : Filled) : Type 0 where
  pub here : AreKept bytes es
  pub there : AreKept (take m.bytes bytes) (take m.claims es)
  pub few_bytes : m.bytes ≤ length bytes
  pub few : m.claims ≤ length es
