-- The row of specs/PlacesOfAccounts.antt, computed.
use Rattle.std.proofs.Common.{◌≡◌, refl, [], ◌∷◌, map, true, false, arith}
use Rattle.std.specs.List.{range_with_len}
use native.Mathlib.Decide.{ℕ_discrete}
use Rattle.byte_defs.specs.Equality.{bytes_discrete, list_discrete}
use Rattle.message_defs.specs.Statements.{Message-discrete, Batch-discrete}
use Rattle.group_defs.specs.Views.{View-discrete}
use Rattle.group_defs.specs.Process.{Letter-discrete, Delivered-discrete}
use Rattle.group_defs.specs.Accounts.{Sound}
use Rattle.group_rows.specs.PlacesOfAccounts.{at, of, is_sound, PlacesOfAccounts}

whole : is_sound ((at 0 0 ∷ at 0 1 ∷ at 1 2 ∷ []) ∷ (at 0 0 ∷ at 0 1 ∷ []) ∷ []) ≡ true
unfolding ℕ_discrete bytes_discrete list_discrete Message-discrete Batch-discrete View-discrete Letter-discrete Delivered-discrete
whole = refl

sixteen : is_sound (map (at 0) (range_with_len 0 16) ∷ []) ≡ true
unfolding ℕ_discrete bytes_discrete list_discrete Message-discrete Batch-discrete View-discrete Letter-discrete Delivered-discrete
sixteen = refl

seventeen : is_sound (map (at 0) (range_with_len 0 17) ∷ []) ≡ false
unfolding ℕ_discrete bytes_discrete list_discrete Message-discrete Batch-discrete View-discrete Letter-discrete Delivered-discrete
seventeen = refl

begins_late : is_sound ((at 1 0 ∷ []) ∷ []) ≡ false
unfolding ℕ_discrete bytes_discrete list_discrete Message-discrete Batch-discrete View-discrete Letter-discrete Delivered-discrete
begins_late = refl

skips : is_sound ((at 0 0 ∷ at 2 1 ∷ []) ∷ []) ≡ false
unfolding ℕ_discrete bytes_discrete list_discrete Message-discrete Batch-discrete View-discrete Letter-discrete Delivered-discrete
skips = refl

falls : is_sound ((at 1 0 ∷ at 0 1 ∷ []) ∷ []) ≡ false
unfolding ℕ_discrete bytes_discrete list_discrete Message-discrete Batch-discrete View-discrete Letter-discrete Delivered-discrete
falls = refl

comes_back : is_sound ((at 0 0 ∷ at 1 1 ∷ at 0 2 ∷ []) ∷ []) ≡ false
unfolding ℕ_discrete bytes_discrete list_discrete Message-discrete Batch-discrete View-discrete Letter-discrete Delivered-discrete
comes_back = refl

cut_through : is_sound ((at 0 0 ∷ at 0 1 ∷ []) ∷ (at 0 0 ∷ []) ∷ []) ≡ false
unfolding ℕ_discrete bytes_discrete list_discrete Message-discrete Batch-discrete View-discrete Letter-discrete Delivered-discrete
cut_through = refl

other_batches : is_sound ((at 0 0 ∷ at 0 1 ∷ []) ∷ (at 0 0 ∷ at 1 1 ∷ []) ∷ []) ≡ false
unfolding ℕ_discrete bytes_discrete list_discrete Message-discrete Batch-discrete View-discrete Letter-discrete Delivered-discrete
other_batches = refl

not_placed : Sound (of 0 (at 0 0 ∷ at 0 1 ∷ []) ∷ of 1 (at 0 0 ∷ at 1 1 ∷ []) ∷ []) [] → ⊥
not_placed so = absurd (let two = so.placed.same 0 (of 0 []) (omega arith) 1 (of 0 []) (omega arith) 0 0 (omega arith) (omega arith) in cc)

pub places_of_accounts : PlacesOfAccounts
places_of_accounts = record {
  whole = whole;
  sixteen = sixteen;
  seventeen = seventeen;
  begins_late = begins_late;
  skips = skips;
  falls = falls;
  comes_back = comes_back;
  cut_through = cut_through;
  other_batches = other_batches;
  not_placed = not_placed;
}
