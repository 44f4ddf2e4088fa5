-- Two lists of claims as one list of pairs, and the signers of their pairs.
use Rattle.std.proofs.Common.{◌≡◌, ℕ, zero, suc, List, [], ◌∷◌, ◌++◌, length, Some, None, Bool, true, false, refl, sym, ap, ◌∙◌, arith}
use Rattle.std.specs.Prelude.{◌==◌, ◌||◌, if◌then◌else◌, slice_get, option_map}
use Rattle.std.specs.List.{list_any, zip}
use Rattle.rp_base.specs.Pids.{put_once}
use Rattle.claim_index.proofs.Sets.{has-put_once, or-swap}
use Rattle.group_defs.specs.Process.{Process}
use Rattle.group_defs.specs.Certified.{claim_on}
use Rattle.group_defs.specs.Hearing.{kept_conflicts}
use Rattle.message_defs.specs.Statements.{Claim, slot_of}
use Rattle.claim_lists.specs.Pairs.{ArePaired, has_pair, with_pair}

-- ---- pairs

pub zip-push : {A B : Type 0} (xs : List A) (ys : List B) (x : A) (y : B) → length xs ≡ length ys
    → zip (xs ++ x ∷ []) (ys ++ y ∷ []) ≡ zip xs ys ++ (x, y) ∷ []
zip-push [] [] x y e = refl
zip-push [] (b ∷ ys) x y e = absurd (omega (arith, e))
zip-push (a ∷ xs) [] x y e = absurd (omega (arith, e))
zip-push (a ∷ xs) (b ∷ ys) x y e = ap (λ ps. (a, b) ∷ ps) (zip-push xs ys x y (omega (arith, e)))

pub zip-length : {A B : Type 0} (xs : List A) (ys : List B) → length xs ≡ length ys → length xs ≡ length (zip xs ys)
zip-length [] [] e = refl
zip-length [] (b ∷ ys) e = refl
zip-length (a ∷ xs) [] e = absurd (omega (arith, e))
zip-length (a ∷ xs) (b ∷ ys) e = ap suc (zip-length xs ys (omega (arith, e)))

pub zip-first : {A B : Type 0} (xs : List A) (ys : List B) (k : ℕ) → length xs ≡ length ys
    → slice_get xs k ≡ option_map (λ (p : A × B). p.0) (slice_get (zip xs ys) k)
zip-first [] [] k e = refl
zip-first [] (b ∷ ys) k e = refl
zip-first (a ∷ xs) [] k e = absurd (omega (arith, e))
zip-first (a ∷ xs) (b ∷ ys) zero e = refl
zip-first (a ∷ xs) (b ∷ ys) (suc k) e = zip-first xs ys k (omega (arith, e))

pub zip-second : {A B : Type 0} (xs : List A) (ys : List B) (k : ℕ) → length xs ≡ length ys
    → slice_get ys k ≡ option_map (λ (p : A × B). p.1) (slice_get (zip xs ys) k)
zip-second [] [] k e = refl
zip-second [] (b ∷ ys) k e = absurd (omega (arith, e))
zip-second (a ∷ xs) [] k e = refl
zip-second (a ∷ xs) (b ∷ ys) zero e = refl
zip-second (a ∷ xs) (b ∷ ys) (suc k) e = zip-second xs ys k (omega (arith, e))

pub zip-any : {A B : Type 0} (test : B → Bool) (xs : List A) (ys : List B) → length xs ≡ length ys
    → list_any test ys ≡ list_any (λ (p : A × B). test p.1) (zip xs ys)
zip-any test [] [] e = refl
zip-any test [] (b ∷ ys) e = absurd (omega (arith, e))
zip-any test (a ∷ xs) [] e = refl
zip-any test (a ∷ xs) (b ∷ ys) e = ap (λ t. test b || t) (zip-any test xs ys (omega (arith, e)))

-- ---- signers

-- one more at the end of a list
pub any-push : {A : Type 0} (test : A → Bool) (xs : List A) (x : A) → list_any test (xs ++ x ∷ []) ≡ (test x || list_any test xs)
any-push test [] x = refl
any-push test (y ∷ ys) x = ap (λ t. test y || t) (any-push test ys x) ∙ or-swap (test y) (test x) (list_any test ys)

-- with one pair more
pub paired-push : (heard others : List Claim) (signers : List ℕ) (a b : Claim) → ArePaired heard others signers
    → ArePaired (heard ++ a ∷ []) (others ++ b ∷ []) (put_once b.signer signers)
paired-push heard others signers a b are = record {
  even = longer heard others are.even;
  noted = λ q. has-put_once b.signer q signers ∙ ap (λ t. (b.signer == q) || t)
      (are.noted q) ∙ sym (any-push (λ (c : Claim). c.signer == q) others b);
}
  where
    longer : (xs ys : List Claim) → length xs ≡ length ys → length (xs ++ a ∷ []) ≡ length (ys ++ b ∷ [])
    longer [] [] e = refl
    longer [] (y ∷ ys) e = absurd (omega (arith, e))
    longer (x ∷ xs) [] e = absurd (omega (arith, e))
    longer (x ∷ xs) (y ∷ ys) e = ap suc (longer xs ys (omega (arith, e)))

-- whose pairs are kept
pub noted-is : (heard others : List Claim) (signers : List ℕ) → ArePaired heard others signers → (q : ℕ)
    → list_any (λ p. p == q) signers ≡ has_pair (zip heard others) q
noted-is heard others signers are q = are.noted q ∙ zip-any (λ (c : Claim). c.signer == q) heard others are.even

-- ---- what hearing a conflict does

pub as-heard : (p : Process) (pairs : List (Claim × Claim)) (heard other : Claim) → p.conflicts ≡ pairs
    → claim_on p.pool.heard other.signer (slot_of other.statement) ≡ Some heard → with_pair pairs heard other ≡ kept_conflicts p other
as-heard p pairs heard other same on =
    λ i. if has_pair (sym same i) other.signer then sym same i
    else sym same i ++ elim (sym on i) [ None ↦ [] | Some first ↦ (first, other) ∷ [] ]

-- ---- the pair is put behind the others, or not

pub kept-before : (pairs : List (Claim × Claim)) (heard other : Claim) → has_pair pairs other.signer ≡ true
    → pairs ≡ with_pair pairs heard other
kept-before pairs heard other e = ap (λ b. if b then pairs else pairs ++ (heard, other) ∷ []) (sym e)

pub kept-now : (pairs : List (Claim × Claim)) (heard other : Claim) → has_pair pairs other.signer ≡ false
    → pairs ++ (heard, other) ∷ [] ≡ with_pair pairs heard other
kept-now pairs heard other e = ap (λ b. if b then pairs else pairs ++ (heard, other) ∷ []) (sym e)
