-- The last of a list, one more behind others, and how many are taken of one.
use Rattle.std.proofs.Common.{◌≡◌, ℕ, zero, suc, ◌-◌, ◌≤◌, Bool, true, false, Option, None, List, [], ◌∷◌, ◌++◌, map, take, drop, length, Some, sym, ap, ◌∙◌, arith, get_or, slice_get}
use Rattle.std.specs.Prelude.{if◌then◌else◌, filter_map, slice_set}
use Rattle.std.specs.List.{cons_option}
use Rattle.std.proofs.lemmas.List.{append-nil, length-map}
use Rattle.std.proofs.lemmas.List.Concat.{flat_map-append}
use Rattle.byte_defs.specs.Orders.{sorted}
use Rattle.message_defs.specs.Statements.{Statement, slot_of}
use Rattle.group_defs.specs.Views.{quorum}
use Rattle.group_defs.specs.Process.{Pool}
use Rattle.group_defs.specs.Certified.{backers, certificate, claim_on, is_certified, number_of_members}
use Rattle.accounts.proofs.Lists.{last-changed}
use Rattle.member_state.specs.declared.left.SaidBefore.{SaidBefore}
use Rattle.member_state.specs.States.{claims_of}
use Rattle.pool_laws.proofs.Places.{length-snoc, map-get, slice_get-last}
use Rattle.pool_laws.proofs.Tests.{some-is}

-- there is one
pub some-last : {A B : Type 0} (f : A → B) (xs : List A) (before : List B) (last : B) → map f xs ≡ before ++ last ∷ []
    → length xs ≡ suc (length before)
some-last f xs before last e = sym (length-map xs f) ∙ ap length e ∙ length-snoc before last

-- it is what stands at the last place
pub last-is : {A B : Type 0} (f : A → B) (xs : List A) (before : List B) (last : B) (a : A) → map f xs ≡ before ++ last ∷ []
    → slice_get xs (length xs - 1) ≡ Some a → f a ≡ last
last-is f xs before last a e at =
    let place : length xs - 1 ≡ length before = (let n = some-last f xs before last e in omega (arith, n)) in
    some-is (f a) last (slice_get (map f xs) (length xs - 1)) (map-get f xs (length xs - 1) a at)
    (ap (λ ys. slice_get ys (length xs - 1)) e ∙ slice_get-last before last (length xs - 1) place)

-- more is put behind the last
pub put-last : {A B : Type 0} (f : A → List B) (xs : List A) (n : ℕ) (h g : A) (before : List (List B)) (last ds : List B)
    → suc n ≡ length xs → h ≡ get_or xs n h → f g ≡ f h ++ ds → map f xs ≡ before ++ last ∷ []
    → map f (slice_set xs n g) ≡ before ++ (last ++ ds) ∷ []
put-last f xs n h g before last ds count at more e =
    let is = last-changed f xs n h g before last count at e in
    is.1 ∙ ap (λ y. before ++ y ∷ []) (more ∙ ap (λ y. y ++ ds) is.0)

-- the claims of one list more stand behind those of the others
pub one-more : (lists : List SaidBefore) (l : SaidBefore) → claims_of (lists ++ l ∷ []) ≡ claims_of lists ++ drop l.from l.claims.claims
one-more lists l =
    flat_map-append (λ (m : SaidBefore). drop m.from m.claims.claims) lists (l ∷ [])
    ∙ ap (λ cs. claims_of lists ++ cs) (append-nil (drop l.from l.claims.claims))

-- ---- how many claims a certificate has

few-made : {A B : Type 0} (f : A → Option B) (xs : List A) → length (filter_map f xs) ≤ length xs
few-made f [] = omega arith
few-made {A} {B} f (x ∷ xs) = go (f x) (few-made f xs)
  where
    go : (o : Option B) → length (filter_map f xs) ≤ length xs → length (cons_option o (filter_map f xs)) ≤ suc (length xs)
    go None le = omega (arith, le)
    go (Some b) le = omega (arith, le)

few-taken : {A : Type 0} (n : ℕ) (xs : List A) → length (take n xs) ≤ n
few-taken zero xs = omega arith
few-taken (suc n) [] = omega arith
few-taken (suc n) (x ∷ xs) = let le = few-taken n xs in omega (arith, le)

-- at most as many as the view has members
pub certificate-few : (h : Pool) (st : Statement) → length (certificate h st) ≤ length h.view.members
certificate-few h st = go (is_certified h st)
  where
    go : (b : Bool) → length (if b then filter_map (λ m. claim_on h.heard m (slot_of st))
        (take (quorum (number_of_members h)) (sorted (λ m. m ∷ []) (backers h st))) else []) ≤ length h.view.members
    go true =
        let made = few-made (λ m. claim_on h.heard m (slot_of st))
        (take (quorum (number_of_members h)) (sorted (λ m. m ∷ []) (backers h st))) in
        let taken = few-taken (quorum (number_of_members h)) (sorted (λ m. m ∷ []) (backers h st)) in
        omega (arith, made, taken)
    go false = omega arith
