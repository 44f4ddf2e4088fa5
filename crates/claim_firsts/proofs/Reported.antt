-- The convictions that a table tells are those of the claims.
use Rattle.std.proofs.Common.{◌≡◌, inl, inr, ℕ, List, [], ◌∷◌, ◌++◌, Option, Some, None, Bool, true, false, refl, sym, ap, ◌∙◌}
use Rattle.std.specs.Prelude.{if◌then◌else◌, cond, filter, filter_map, find, is_some, option_map, option_and_then}
use Rattle.std.specs.List.{cons_option}
use Rattle.message_defs.specs.Statements.{Claim, slot_of}
use Rattle.group_defs.specs.Process.{Setting, keyed}
use Rattle.pool_laws.proofs.Members.{Mem}
use Rattle.pool_laws.proofs.Slots.{is-same_slot, same_slot-is}
use Rattle.conviction_defs.specs.Convictions as plain
use Rattle.conviction_defs.specs.Convictions.{claims_by, conviction_of, convicted, convictions, is_convicted, is_on_slot, pair_behind}
use Rattle.conviction_laws.proofs.Pairs.{pair-some}
use Rattle.conviction_laws.proofs.Convicted.{of-signer}
use Rattle.claim_firsts.specs.Tables.{Table}
use Rattle.claim_firsts.specs.Seen.{Saw}
use Rattle.claim_firsts.specs.Reported.{conviction_by, conviction_with}
use Rattle.claim_firsts.proofs.Seeing.{found}
use Rattle.claim_firsts.proofs.Convicting.{convicted-by, pair-within}

-- a search ends at the first one that passes
pub find-at : {A : Type 0} (test : A → Bool) (front : List A) (y : A) (back : List A) → ((x : A) → Mem x front → test x ≡ false)
    → test y ≡ true → find test (front ++ y ∷ back) ≡ Some y
find-at {A} test [] y back fails t = ap (λ (b : Bool). if b then Some y else find test back) t
find-at {A} test (x ∷ xs) y back fails t =
    ap (λ (b : Bool). if b then Some x else find test (xs ++ y ∷ back)) (fails x (inl refl))
    ∙ find-at test xs y back (λ z m. fails z (inr m)) t

-- ---- lists

same-filter_map : {B : Type 0} (f g : ℕ → Option B) → ((q : ℕ) → f q ≡ g q) → (xs : List ℕ) → filter_map f xs ≡ filter_map g xs
same-filter_map f g same [] = refl
same-filter_map f g same (x ∷ xs) = λ i. cons_option (same x i) (same-filter_map f g same xs i)

-- those that give nothing may be left out before
thinned : {B : Type 0} (f : ℕ → Option B) (p : ℕ → Bool) → ((q : ℕ) → p q ≡ is_some (f q)) → (xs : List ℕ)
    → filter_map f (filter p xs) ≡ filter_map f xs
thinned f p same [] = refl
thinned {B} f p same (x ∷ xs) = go (f x) refl (p x) (same x) (thinned f p same xs)
  where
    go : (o : Option B) → f x ≡ o → (b : Bool) → b ≡ is_some (f x) → filter_map f (filter p xs) ≡ filter_map f xs
        → filter_map f (cond b (x ∷ filter p xs) (filter p xs)) ≡ cons_option (f x) (filter_map f xs)
    go (Some y) e true is rest = ap (λ ys. cons_option (f x) ys) rest
    go (Some y) e false is rest = absurd (let some : is_some (f x) ≡ true = ap is_some e in cc)
    go None e true is rest = absurd (let none : is_some (f x) ≡ false = ap is_some e in cc)
    go None e false is rest = rest ∙ ap (λ o. cons_option o (filter_map f xs)) (sym e)

module _ (s : Setting) (claims own : List Claim) (t : Table) (saw : Saw s claims own t) where
  -- the first claim beside the second one of the pair
  beside-second : (q : ℕ) (pair : Claim × Claim) → pair_behind [] (claims_by s claims q) ≡ Some pair
      → find (is_on_slot pair.1) (claims_by s claims q) ≡ Some pair.0
  beside-second q pair e =
      let first = pair-some [] (claims_by s claims q) pair (λ d f m. absurd m) e in
      ap (find (is_on_slot pair.1)) first.parts
      ∙ find-at (is_on_slot pair.1) first.front pair.0 (first.between ++ pair.1 ∷ first.back)
      (λ d m. off d (first.earliest d m) (is_on_slot pair.1 d) refl)
      (is-same_slot (slot_of pair.0.statement) (slot_of pair.1.statement) first.slots)
    where
      off : (d : Claim) → (slot_of d.statement ≡ slot_of pair.1.statement → ⊥) → (b : Bool) → is_on_slot pair.1 d ≡ b
          → is_on_slot pair.1 d ≡ false
      off d apart false e = e
      off d apart true e = absurd (apart (same_slot-is (slot_of d.statement) (slot_of pair.1.statement) e))

  abbrev reported-of : ℕ → Claim × Claim → plain.Conviction
  reported-of q pair = record { process = q; first = pair.0; second = pair.1 }

  with-second : (q : ℕ) (pair : Claim × Claim) → pair_behind [] (claims_by s claims q) ≡ Some pair
      → conviction_with t q pair.1 ≡ Some (reported-of q pair)
  with-second q pair e =
      let other = of-signer s claims q pair.1 (pair-within s claims q pair e).1 in
      ap (option_map (λ (b : Claim). reported-of q (b, pair.1)))
      (found s claims own t saw pair.1 other.2
      ∙ ap (λ p. find (is_on_slot pair.1) (claims_by s claims p)) other.1
      ∙ beside-second q pair e)

  reported-is : (q : ℕ) → conviction_by t q ≡ conviction_of s claims q
  reported-is q = ap (option_and_then (conviction_with t q)) (saw.seconds q) ∙ go (pair_behind [] (claims_by s claims q)) refl
    where
      go : (o : Option (Claim × Claim)) → pair_behind [] (claims_by s claims q) ≡ o
          → option_and_then (conviction_with t q) (option_map (λ (pair : Claim × Claim). pair.1) o) ≡ option_map (reported-of q) o
      go None e = refl
      go (Some pair) e = with-second q pair e

  some-reported : (q : ℕ) → is_convicted s claims q ≡ is_some (conviction_of s claims q)
  some-reported q = sym (convicted-by s claims q) ∙ both (pair_behind [] (claims_by s claims q))
    where
      both : (o : Option (Claim × Claim)) → is_some (option_map (λ (pair : Claim × Claim). pair.1) o) ≡ is_some (option_map (reported-of q) o)
      both None = refl
      both (Some pair) = refl

  pub all-reported : filter_map (conviction_by t) (convicted s claims) ≡ convictions s claims
  all-reported = same-filter_map (conviction_by t) (conviction_of s claims) reported-is (convicted s claims)
      ∙ thinned (conviction_of s claims) (is_convicted s claims) some-reported (keyed s)
