-- What contracts see of a table of first claims.
use Rattle.std.specs.Prelude.{List}
use Rattle.message_defs.specs.Statements.{Claim, slot_of}
use Rattle.claim_index.specs.declared.key.Key.{Key}
use Rattle.claim_index.specs.Keys.{key_of}

-- the key of the claim's signer and slot
abbrev pub key : Claim → Key
key c = key_of c.signer (slot_of c.statement)

-- The first claim of each signer and slot, in the order in which they were seen; of each signer with two claims that conflict the first
-- claim that conflicts with an earlier one; and by their keys the slots on which a signer's own word was seen.
pub record Table : Type 0 where
  pub firsts : List Claim
  pub seconds : List Claim
  pub answered : List Key
