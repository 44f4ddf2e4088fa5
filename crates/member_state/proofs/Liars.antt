-- The signers of pairs, as a rising set.
use Rattle.std.proofs.Common.{◌≡◌, ◌≢◌, ℕ, zero, suc, ◌+◌, ◌<◌, ◌≤◌, List, [], ◌∷◌, map, length, drop, Option, Some, None, Bool, true, false, refl, sym, ap, subst, ◌∙◌, arith, inl, inr, slice_get}
use Rattle.std.proofs.lemmas.List.{length-drop, get_or-drop}
use lib.ListN.{get_or, drop_of_length-le}
use Rattle.pool_laws.proofs.Places.{slice_get-length, get-some}
use Rattle.std.specs.Prelude.{if◌then◌else◌, nat_lt, ◌==◌, ◌&&◌, ◌||◌, option_map, All, AllPairs}
use Rattle.std.proofs.lemmas.Bool.{ltb-true, ltb-false, eqb-true}
use Rattle.byte_defs.specs.Orders.{numbers_below, put, sorted}
use Rattle.message_defs.specs.Statements.{Claim}
use Rattle.rp_base.specs.Pids.{put_once}
use Rattle.pool_laws.proofs.Members.{Mem}
use Rattle.pool_laws.proofs.Sorting.{by_number, below-by_number, mem-sorted}
use Rattle.member_state.specs.States.{ArePairs, signers_in}

-- a number that is not there is put in its place
pub put-new : (q : ℕ) (xs : List ℕ) → (Mem q xs → ⊥) → put_once q xs ≡ put by_number q xs
put-new q [] new = refl
put-new q (x ∷ xs) new =
    go (nat_lt x q) refl (nat_lt q x) refl (put-new q xs (λ m. new (inr m)))
  where
    both : (a b : Bool) → nat_lt x q ≡ a → nat_lt q x ≡ b → put_once q xs ≡ put by_number q xs
        → (if a then x ∷ put_once q xs else if x == q then x ∷ xs else q ∷ x ∷ xs) ≡ (if b then q ∷ x ∷ xs else x ∷ put by_number q xs)
    both true true ea eb rest = absurd (let lt = ltb-true x q ea in let gt = ltb-true q x eb in omega (arith, lt, gt))
    both true false ea eb rest = ap (λ ys. x ∷ ys) rest
    both false true ea eb rest = same (x == q) refl
      where
        same : (e : Bool) → (x == q) ≡ e → (if e then x ∷ xs else q ∷ x ∷ xs) ≡ q ∷ x ∷ xs
        same true ee = absurd (new (inl (eqb-true x q ee)))
        same false ee = refl
    both false false ea eb rest = absurd (let le = ltb-false x q ea in let ge = ltb-false q x eb in new (inl (omega (arith, le, ge))))

    go : (a : Bool) → nat_lt x q ≡ a → (b : Bool) → nat_lt q x ≡ b → put_once q xs ≡ put by_number q xs
        → put_once q (x ∷ xs) ≡ put by_number q (x ∷ xs)
    go a ea b eb rest = ap (λ c. if c then x ∷ put_once q xs else if x == q then x ∷ xs else q ∷ x ∷ xs) ea ∙ both a b ea eb rest ∙ sym
        (ap (λ c. if c then q ∷ x ∷ xs else x ∷ put by_number q xs) (below-by_number q x ∙ eb))

mem-signer : (q : ℕ) (pairs : List (Claim × Claim)) → Mem q (map (λ (pair : Claim × Claim). pair.0.signer) pairs)
    → (pair : Claim × Claim) × Mem pair pairs × (pair.0.signer ≡ q)
mem-signer q [] m = absurd m
mem-signer q (x ∷ xs) (inl e) = (x, inl refl, e)
mem-signer q (x ∷ xs) (inr m) = let found = mem-signer q xs m in (found.0, inr found.1, found.2)

-- the place of a member of a list
mem-at : {A : Type 0} (xs : List A) (y d : A) → Mem y xs → (j : ℕ) × (j < length xs) × (get_or xs j d ≡ y)
mem-at [] y d m = absurd m
mem-at (x ∷ xs) y d (inl e) = (0, omega arith, e)
mem-at (x ∷ xs) y d (inr m) = let at = mem-at xs y d m in (suc at.0, (let lt = at.1 in omega (arith, lt)), at.2)

drop-next : {A : Type 0} (xs : List A) (i : ℕ) (d : A) → i < length xs → drop i xs ≡ get_or xs i d ∷ drop (suc i) xs
drop-next [] i d lt = absurd (omega (arith, lt))
drop-next (x ∷ xs) zero d lt = refl
drop-next (x ∷ xs) (suc i) d lt = drop-next xs i d (omega (arith, lt))

-- the pair at this place adds its signer, which none behind it has
pub next-liar : (pairs : List (Claim × Claim)) (i : ℕ) (pair : Claim × Claim) → ArePairs pairs → i < length pairs
    → get_or pairs i pair ≡ pair
    → put_once pair.0.signer (signers_in (drop (i + 1) pairs)) ≡ signers_in (drop i pairs)
next-liar pairs i pair are lt at =
    let one : suc i ≡ i + 1 = omega arith in
    put-new pair.0.signer (signers_in (drop (i + 1) pairs)) new
    ∙ sym (ap signers_in (drop-next pairs i pair lt ∙ ap (λ (k : ℕ). get_or pairs i pair ∷ drop k pairs) one ∙ ap
    (λ x. x ∷ drop (i + 1) pairs) at))
  where
    new : Mem pair.0.signer (signers_in (drop (i + 1) pairs)) → ⊥
    new m =
        let by = mem-signer pair.0.signer (drop (i + 1) pairs) (mem-sorted by_number _ pair.0.signer m) in
        let there = mem-at (drop (i + 1) pairs) by.0 pair by.1 in
        let within : i + 1 + there.0 < length pairs = (let inside = there.1 in let long = length-drop (i + 1) pairs in omega
        (arith, inside, long, lt)) in
        let is : get_or pairs (i + 1 + there.0) pair ≡ by.0 = sym (get_or-drop (i + 1) pairs there.0 pair) ∙ there.2 in
        let mine : pair.0.signer ≡ pair.1.signer = subst (λ (x : Claim × Claim). x.0.signer ≡ x.1.signer) at (are.same i pair lt) in
        let other : by.0.0.signer ≡ by.0.1.signer = subst (λ (x : Claim × Claim). x.0.signer ≡ x.1.signer) is
        (are.same (i + 1 + there.0) pair within) in
        are.once i (i + 1 + there.0) pair (omega arith) within
        (ap (λ (x : Claim × Claim). x.1.signer) at ∙ sym mine ∙ sym by.2 ∙ other ∙ sym (ap (λ (x : Claim × Claim). x.1.signer) is))

get-is : {A : Type 0} (xs : List A) (i : ℕ) (y : A) → slice_get xs i ≡ Some y → get_or xs i y ≡ y
get-is [] i y e = absurd cc
get-is (x ∷ xs) zero y e = cc
get-is (x ∷ xs) (suc i) y e = get-is xs i y e

-- the pairs from this place on are told
pub record Rest (pairs : List (Claim × Claim)) (left : ℕ) (liars : List ℕ) : Type 0 where
  pub within : left ≤ length pairs
  pub reported : ArePairs pairs → liars ≡ signers_in (drop left pairs)

pub none-reported : (pairs : List (Claim × Claim)) (n : ℕ) (liars : List ℕ) → n ≡ length pairs → liars ≡ [] → Rest pairs n liars
none-reported pairs n liars e none = record {
  within = omega (arith, e);
  reported = λ are. none ∙ sym (ap signers_in (ap (λ k. drop k pairs) e ∙ drop_of_length-le pairs (omega arith)));
}

-- one pair more
pub one-reported : (pairs : List (Claim × Claim)) (n m : ℕ) (liars more : List ℕ) (c : Claim) → Rest pairs n liars → n ≡ m + 1
    → Some c ≡ option_map (λ (pair : Claim × Claim). pair.0) (slice_get pairs m) → more ≡ put_once c.signer liars → Rest pairs m more
one-reported pairs n m liars more c rest e at put' = record {
  within = (let le = rest.within in omega (arith, le, e));
  reported = λ are. go are (slice_get pairs m) refl at;
}
  where
    go : ArePairs pairs → (o : Option (Claim × Claim)) → slice_get pairs m ≡ o → Some c ≡ option_map (λ (pair : Claim × Claim). pair.0) o
        → more ≡ signers_in (drop m pairs)
    go are None is there = absurd cc
    go are (Some pair) is there =
        let lt = slice_get-length pairs m pair is in
        let at' : get_or pairs m pair ≡ pair = get-is pairs m pair is in
        put' ∙ ap (put_once c.signer) (rest.reported are ∙ ap (λ k. signers_in (drop k pairs)) e)
        ∙ ap (λ (q : ℕ). put_once q (signers_in (drop (m + 1) pairs)))
        (ap (λ (o : Option Claim). elim o [ None ↦ 0 | Some d ↦ d.signer ]) there)
        ∙ next-liar pairs m pair are lt at'

-- no pair there: that can't be
pub none-there : (pairs : List (Claim × Claim)) (n m : ℕ) (liars : List ℕ) → Rest pairs n liars → n ≡ m + 1
    → None ≡ option_map (λ (pair : Claim × Claim). pair.0) (slice_get pairs m) → ⊥
none-there pairs n m liars rest e none = go (slice_get pairs m) refl none
  where
    go : (o : Option (Claim × Claim)) → slice_get pairs m ≡ o → None ≡ option_map (λ (pair : Claim × Claim). pair.0) o → ⊥
    go None is there = let le = rest.within in (let some = get-some pairs m (omega (arith, le, e)) in cc)
    go (Some pair) is there = absurd cc
