-- Heard claims in order of kind, slot and signer.
use Rattle.std.specs.Prelude.{◌≡◌, ℕ, suc, List, [], ◌∷◌, map, filter, drop, Some, slice_get, if◌then◌else◌}
use Rattle.std.specs.List.{AllByRecursion}
use Rattle.byte_defs.specs.Orders.{numbers_below, sorted}
use Rattle.message_defs.specs.Statements.{Claim}
use Rattle.group_defs.specs.Sending.{claim_numbers, is_beside}
use Rattle.sent_claims.specs.Beside.{chosen}
use Rattle.sent_claims.specs.declared.beside.Entry.{Entry}

-- where the entries' claims are
abbrev pub places_of : List Entry → List ℕ
places_of es = map (λ e. e.place) es

-- the place of the first entry that is above these numbers, or after the last one
abbrev pub first_above : List ℕ → List Entry → ℕ
first_above ns [] = 0
first_above ns (e ∷ es) = if numbers_below ns e.numbers.items then 0 else suc (first_above ns es)

-- there is a claim at the entry's place, and the numbers are its
pub record IsEntry (heard : List Claim) (e : Entry) : Type 0 where
  pub claim : Claim
  pub at : slice_get heard e.place ≡ Some claim
  pub numbers : e.numbers.items ≡ claim_numbers claim

-- the entries are those of the heard claims from this place on that a Suggest of this cut takes along, by kind, slot and signer
pub record StandFrom (cut : ℕ) (heard : List Claim) (from : ℕ) (es : List Entry) : Type 0 where
  pub each : AllByRecursion (IsEntry heard) es
  pub in_order : chosen heard (places_of es) ≡ sorted claim_numbers (filter (λ c. is_beside cut c.statement) (drop from heard))
