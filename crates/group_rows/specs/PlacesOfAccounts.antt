-- What soundness asks of places: they are 0, 1, 2 and so on, each whole, with 1 to 16 messages, and the same for all.
use Rattle.std.specs.Prelude.{◌≡◌, ℕ, List, [], ◌∷◌, map, Bool, true, false}
use Rattle.std.specs.List.{range_with_len}
use Rattle.group_defs.specs.Process.{Delivered}
use Rattle.group_defs.specs.Accounts.{Account, Sound, sound}
use Rattle.group_rows.specs.Scripts.{msg}

-- a message of process 0, which says nothing, at a place
abbrev pub at : ℕ → ℕ → Delivered
at k l = record { place = k; message = msg 0 l; payload = [] }

-- an account of one view, where process 0 is the only member
abbrev pub of : ℕ → List Delivered → Account
of me ds = record {
  me = me;
  views = record { number = 0; members = 0 ∷ [] } ∷ [];
  delivered = ds ∷ [];
  accepted = map (λ l. []) (range_with_len 0 20);
  perceived = [];
}

abbrev pub is_sound : List (List Delivered) → Bool
is_sound dss = sound (map (of 0) dss) []

-- the row: what the definitions give
pub record PlacesOfAccounts : Type 0 where
  pub whole : is_sound ((at 0 0 ∷ at 0 1 ∷ at 1 2 ∷ []) ∷ (at 0 0 ∷ at 0 1 ∷ []) ∷ []) ≡ true
  pub sixteen : is_sound (map (at 0) (range_with_len 0 16) ∷ []) ≡ true
  -- a place with one message more than there may be
  pub seventeen : is_sound (map (at 0) (range_with_len 0 17) ∷ []) ≡ false
  pub begins_late : is_sound ((at 1 0 ∷ []) ∷ []) ≡ false
  pub skips : is_sound ((at 0 0 ∷ at 2 1 ∷ []) ∷ []) ≡ false
  pub falls : is_sound ((at 1 0 ∷ at 0 1 ∷ []) ∷ []) ≡ false
  pub comes_back : is_sound ((at 0 0 ∷ at 1 1 ∷ at 0 2 ∷ []) ∷ []) ≡ false
  pub cut_through : is_sound ((at 0 0 ∷ at 0 1 ∷ []) ∷ (at 0 0 ∷ []) ∷ []) ≡ false
  pub other_batches : is_sound ((at 0 0 ∷ at 0 1 ∷ []) ∷ (at 0 0 ∷ at 1 1 ∷ []) ∷ []) ≡ false
  -- two processes that delivered different batches at place 0 are not sound, whatever the test computes
  pub not_placed : Sound (of 0 (at 0 0 ∷ at 0 1 ∷ []) ∷ of 1 (at 0 0 ∷ at 1 1 ∷ []) ∷ []) [] → ⊥
