-- The table of one who saw these claims.
use Rattle.std.specs.Prelude.{◌≡◌, ℕ, ◌==◌, ◌&&◌, Bool, List, [], find, Option, option_map, Contains, IsTrue}
use Rattle.std.specs.List.{list_any}
use Rattle.message_defs.specs.Statements.{Claim, slot_of}
use Rattle.group_defs.specs.Process.{Setting}
use Rattle.group_defs.specs.Hearing.{is_valid}
use Rattle.conviction_defs.specs.Convictions as defs
use Rattle.conviction_defs.specs.Convictions.{Convicts, is_on_slot, pair_behind, claims_by}
use Rattle.claim_index.specs.Keys.{same_key}
use Rattle.claim_firsts.specs.Tables.{Table, key}

-- the other claim is of the same signer, on the same slot
abbrev pub is_beside : Claim → Claim → Bool
is_beside c b = (b.signer == c.signer) && is_on_slot c b

-- the first valid claim of the process that conflicts with one before it
abbrev pub second_of : Setting → List Claim → ℕ → Option Claim
second_of s claims q = option_map (λ pair. pair.1) (pair_behind [] (claims_by s claims q))

-- These claims were seen, in this order, and of them these are own words of their signers: the table has the first valid claim of each
-- signer and slot, in order, of each whom the claims convict the second claim of its conviction, and the slots of the own words.
pub record Saw (s : Setting) (claims own : List Claim) (t : Table) : Type 0 where
  pub firsts : t.firsts ≡ defs.firsts s claims
  pub seconds : (q : ℕ) → find (λ c. c.signer == q) t.seconds ≡ second_of s claims q
  pub answered : (c : Claim) → list_any (same_key (key c)) t.answered ≡ list_any (is_beside c) own

-- None of these processes is convicted by the claims, and of each slot on which a valid claim of one of them is, the process's own word is
-- there. Where the claims are what was handed to these processes and what they signed, and the own words are the latter, this says that
-- all that was handed over of them is their own word.
pub record IsAnswered (s : Setting) (claims own : List Claim) (listed : List ℕ) : Type 0 where
  pub spared : (q : ℕ) → Contains listed q → ¬ Convicts s claims q
  pub said : (c : Claim) → Contains claims c → IsTrue (is_valid s c) → Contains listed c.signer
      → (d : Claim) × Contains own d × (d.signer ≡ c.signer) × (slot_of d.statement ≡ slot_of c.statement)
