-- How claims are kept: their bytes one after the other, and by key where a claim's bytes are among them.
-- Names here (* for this crate alone):
--   what contracts see: claim_bytes, Holding, by_number, empty_pool, with_heard, is_kind_heard
--   where the bytes are: spelled*, middle*, past*, statement_bytes*, claim_with, claim_at, heard_in, pool_of*
--   what holds of them: IsKept*, AreKept, AreNoted*, IsIndex*, IsMarkedIndex*
use Rattle.std.specs.Prelude.{◌≡◌, ℕ, ◌+◌, ◌≤◌, ◌==◌, Bool, false, List, [], ◌∷◌, ◌++◌, length, map, take, slice_index_or, slice_range, Ok, Err, IsOk}
use Rattle.std.specs.List.{AllByRecursion, list_any, sum_by}
use Rattle.message_defs.specs.Statements.{Statement, End, Claim, kind_number, slot_of}
use Rattle.message_defs.specs.Spelling.{spelling}
use Rattle.message_defs.specs.Reading.{statement_of}
use Rattle.group_defs.specs.Views.{View}
use Rattle.group_defs.specs.Process.{Pool}
use Rattle.claim_index.specs.declared.key.Key.{Key}
use Rattle.claim_index.specs.declared.index.Kept.{Kept}
use Rattle.claim_index.specs.declared.index.Filled.{Filled}
use Rattle.claim_index.specs.Keys.{key_of}

-- ---- what contracts see

-- how many bytes a claim's statement and signature have
abbrev pub claim_bytes : Claim → ℕ
claim_bytes c = length (spelling c.statement) + length c.signature

-- the view and its heard claims in order; those that were heard at the mark; and how many claims more, with how many bytes in all, are
-- heard without memory
pub record Holding : Type 0 where
  pub pool : Pool
  pub marked : Pool
  pub claims_left : ℕ
  pub bytes_left : ℕ

-- processes are ordered by their numbers
abbrev pub by_number : ℕ → List ℕ
by_number p = p ∷ []

-- nothing is heard of the view
abbrev pub empty_pool : View → Pool
empty_pool v = record { view = v; heard = [] }

-- the pool with the claim after those that are heard
abbrev pub with_heard : Pool → Claim → Pool
with_heard h c = record { view = h.view; heard = h.heard ++ c ∷ [] }

-- some heard claim says a statement of the kind of this number
abbrev pub is_kind_heard : List Claim → ℕ → Bool
is_kind_heard cs kind = list_any (λ c. kind_number c.statement == kind) cs

-- ---- where the bytes are

-- the statement that the bytes spell
abbrev pub spelled : List ℕ → Statement
spelled bytes = elim (statement_of bytes) [ Ok st ↦ st | Err e ↦ End 0 0 ]

-- where the statement ends, and the signature begins
abbrev pub middle : Kept → ℕ
middle k = k.start + k.said

-- where the signature ends
abbrev pub past : Kept → ℕ
past k = middle k + k.signed

-- the bytes of its statement
abbrev pub statement_bytes : List ℕ → Kept → List ℕ
statement_bytes bytes k = slice_range bytes k.start (middle k)

-- the signer's claim whose bytes are there
abbrev pub claim_with : List ℕ → ℕ → Kept → Claim
claim_with bytes signer k = record {
  signer = signer;
  statement = spelled (statement_bytes bytes k);
  signature = slice_range bytes (middle k) (past k);
}

-- the claim of an entry
abbrev pub claim_at : List ℕ → Key × Kept → Claim
claim_at bytes e = claim_with bytes e.0.signer e.1

-- the claims of the entries, in their order
abbrev pub heard_in : List ℕ → List (Key × Kept) → List Claim
heard_in bytes es = map (claim_at bytes) es

-- what is heard of the view
abbrev pub pool_of : View → List ℕ → List (Key × Kept) → Pool
pool_of v bytes es = record { view = v; heard = heard_in bytes es }

-- ---- what holds of them

-- the claim's bytes are there and are a statement's, and its key is that of its signer and slot
pub record IsKept (bytes : List ℕ) (e : Key × Kept) : Type 0 where
  pub within : past e.1 ≤ length bytes
  pub readable : IsOk (statement_of (statement_bytes bytes e.1))
  pub written : statement_bytes bytes e.1 ≡ spelling (spelled (statement_bytes bytes e.1))
  pub keyed : e.0 ≡ key_of e.0.signer (slot_of (spelled (statement_bytes bytes e.1)))

abbrev pub AreKept : List ℕ → List (Key × Kept) → Type 0
AreKept bytes es = AllByRecursion (IsKept bytes) es

-- at a kind's number it is noted whether a claim of the kind is heard
abbrev pub AreNoted : List Bool → List Claim → Type 0
AreNoted kinds cs = (kind : ℕ) → slice_index_or kinds kind false ≡ is_kind_heard cs kind

-- each claim is kept, there are no other bytes, and the kinds of the claims are noted
pub record IsIndex (bytes : List ℕ) (es : List (Key × Kept)) (kinds : List Bool) : Type 0 where
  pub kept : AreKept bytes es
  pub filled : length bytes ≡ sum_by claim_bytes (heard_in bytes es)
  pub noted : AreNoted kinds (heard_in bytes es)

-- so it is now; and so it was at the mark, of the bytes and the entries that there were then
pub record IsMarkedIndex (bytes : List ℕ) (es : List (Key × Kept)) (kinds : List Bool) (m : Filled) : Type 0 where
  pub now : IsIndex bytes es kinds
  pub then : IsIndex (take m.bytes bytes) (take m.claims es) m.kinds
  pub few_bytes : m.bytes ≤ length bytes
  pub few : m.claims ≤ length es
