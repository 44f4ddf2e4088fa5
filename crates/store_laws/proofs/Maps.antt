-- What a store has of a key that is set or removed, and of the others.
use Rattle.std.proofs.Common.{◌≡◌, ◌≢◌, ℕ, List, [], ◌∷◌, Option, Some, None, Bool, true, false, refl, sym, ap, ◌∙◌, subst}
use Rattle.std.specs.Prelude.{if◌then◌else◌, not, find, filter, option_map}
use Rattle.std.proofs.lemmas.Slice.Eq.{bytes_eq-Decides}
use Rattle.byte_defs.specs.Equality.{same_bytes}
use Rattle.byte_defs.specs.Orders.{numbers_below}
use Rattle.store_defs.specs.Stores.{Pair, Store, is_of_key, value_of, with_pair, without}
use Rattle.store_defs.specs.Laws.{SetIsFound, SetLeavesOthers, RemovedIsAbsent, RemoveLeavesOthers}

pub same-is : (a b : List ℕ) → same_bytes a b ≡ true → a ≡ b
same-is a b e = (bytes_eq-Decides a b).0 e

pub is-same : (a b : List ℕ) → a ≡ b → same_bytes a b ≡ true
is-same a b e = (bytes_eq-Decides a b).1 e

pub other-than : (a b : List ℕ) → (a ≡ b → ⊥) → same_bytes a b ≡ false
other-than a b differ = go (same_bytes a b) refl
  where
    go : (t : Bool) → same_bytes a b ≡ t → t ≡ false
    go true e = absurd (differ (same-is a b e))
    go false e = refl

-- the value that a test of pairs finds first
abbrev pub found-by : (Pair → Bool) → Store → Option (List ℕ)
found-by test s = option_map (λ (e : Pair). e.1) (find test s)

-- the first pair passes the test or not
pub first : (test : Pair → Bool) (e : Pair) (s : Store) (b : Bool) → test e ≡ b
    → found-by test (e ∷ s) ≡ (if b then Some e.1 else found-by test s)
first test e s b is = ap (λ (t : Bool). option_map (λ (e : Pair). e.1) (if t then Some e else find test s)) is ∙ go b
  where
    go : (b : Bool) → option_map (λ (e : Pair). e.1) (if b then Some e else find test s) ≡ (if b then Some e.1 else found-by test s)
    go true = refl
    go false = refl

pub set_is_found : SetIsFound
unfolding with_pair
set_is_found [] key value = first (is_of_key key) (key, value) [] true (is-same key key refl)
set_is_found (e ∷ s) key value = go (numbers_below key e.0) (same_bytes e.0 key) refl (set_is_found s key value)
  where
    go : (b c : Bool) → same_bytes e.0 key ≡ c → found-by (is_of_key key) (with_pair key value s) ≡ Some value
        → found-by (is_of_key key) (if b then (key, value) ∷ e ∷ s else if c then (key, value) ∷ s else e ∷ with_pair key value s) ≡ Some value
    go true c is rest = first (is_of_key key) (key, value) (e ∷ s) true (is-same key key refl)
    go false true is rest = first (is_of_key key) (key, value) s true (is-same key key refl)
    go false false is rest = first (is_of_key key) e (with_pair key value s) false is ∙ rest

pub set_leaves_others : SetLeavesOthers
unfolding with_pair
set_leaves_others [] key value other differ = first (is_of_key other) (key, value) [] false (other-than key other differ)
set_leaves_others (e ∷ s) key value other differ = go (numbers_below key e.0) (same_bytes e.0 key) refl (set_leaves_others s key value other differ)
  where
    skip : (t : Store) → found-by (is_of_key other) ((key, value) ∷ t) ≡ found-by (is_of_key other) t
    skip t = first (is_of_key other) (key, value) t false (other-than key other differ)

    on : (b : Bool) → is_of_key other e ≡ b → found-by (is_of_key other) (with_pair key value s) ≡ found-by (is_of_key other) s
        → found-by (is_of_key other) (e ∷ with_pair key value s) ≡ found-by (is_of_key other) (e ∷ s)
    on true is rest = first (is_of_key other) e (with_pair key value s) true is ∙ sym (first (is_of_key other) e s true is)
    on false is rest = first (is_of_key other) e (with_pair key value s) false is ∙ rest ∙ sym (first (is_of_key other) e s false is)

    go : (b c : Bool) → same_bytes e.0 key ≡ c → found-by (is_of_key other) (with_pair key value s) ≡ found-by (is_of_key other) s
        → found-by (is_of_key other) (if b then (key, value) ∷ e ∷ s else if c then (key, value) ∷ s else e ∷ with_pair key value s)
        ≡ found-by (is_of_key other) (e ∷ s)
    go true c is rest = skip (e ∷ s)
    go false true is rest =
        skip s ∙ sym (first (is_of_key other) e s false (other-than e.0 other (λ same. differ (sym (same-is e.0 key is) ∙ same))))
    go false false is rest = on (is_of_key other e) refl rest

pub removed_is_absent : RemovedIsAbsent
removed_is_absent [] key = refl
removed_is_absent (e ∷ s) key = go (is_of_key key e) refl (removed_is_absent s key)
  where
    go : (b : Bool) → is_of_key key e ≡ b → found-by (is_of_key key) (without key s) ≡ None
        → found-by (is_of_key key) (if not b then e ∷ without key s else without key s) ≡ None
    go true is rest = rest
    go false is rest = first (is_of_key key) e (without key s) false is ∙ rest

pub remove_leaves_others : RemoveLeavesOthers
remove_leaves_others [] key other differ = refl
remove_leaves_others (e ∷ s) key other differ = go (is_of_key key e) refl (remove_leaves_others s key other differ)
  where
    on : (b : Bool) → is_of_key other e ≡ b → found-by (is_of_key other) (without key s) ≡ found-by (is_of_key other) s
        → found-by (is_of_key other) (e ∷ without key s) ≡ found-by (is_of_key other) (e ∷ s)
    on true is rest = first (is_of_key other) e (without key s) true is ∙ sym (first (is_of_key other) e s true is)
    on false is rest = first (is_of_key other) e (without key s) false is ∙ rest ∙ sym (first (is_of_key other) e s false is)

    go : (b : Bool) → is_of_key key e ≡ b → found-by (is_of_key other) (without key s) ≡ found-by (is_of_key other) s
        → found-by (is_of_key other) (if not b then e ∷ without key s else without key s) ≡ found-by (is_of_key other) (e ∷ s)
    go true is rest =
        rest ∙ sym (first (is_of_key other) e s false (other-than e.0 other (λ same. differ (sym (same-is e.0 key is) ∙ same))))
    go false is rest = on (is_of_key other e) refl rest
