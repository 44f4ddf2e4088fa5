-- Elements at places, one place after another; and what holds of each element of lists that are made of others.
use Rattle.std.proofs.Common.{◌≡◌, inl, inr, ℕ, List, [], ◌∷◌, ◌++◌, map, Option, Some, None, slice_get, refl, sym, ap, ◌∙◌}
use Rattle.std.specs.Prelude.{flat_map}
use Rattle.std.specs.List.{AllByRecursion, cons_option}
use Rattle.std.proofs.lemmas.List.{map-append}
use Rattle.message_defs.specs.Statements.{Statement, Claim}
use Rattle.message_defs.specs.Packing.{signed_of}
use Rattle.pool_laws.proofs.Members.{Mem}
use Rattle.sent_claims.specs.Certificates.{all_signed}
use Rattle.sent_claims.specs.Beside.{chosen, statements_at}
use Rattle.sent_claims.proofs.Walks.{all-get}

-- ---- places

pub chosen-next : {A : Type 0} (xs : List A) (p : ℕ) (ps : List ℕ) → chosen xs (p ∷ ps) ≡ chosen xs (p ∷ []) ++ chosen xs ps
chosen-next xs p ps = go (slice_get xs p)
  where
    go : (o : Option _) → cons_option o (chosen xs ps) ≡ cons_option o [] ++ chosen xs ps
    go None = refl
    go (Some x) = refl

pub signed-chosen : (cs : List Claim) (p : ℕ) (ps : List ℕ)
    → all_signed (chosen cs (p ∷ ps)) ≡ all_signed (chosen cs (p ∷ [])) ++ all_signed (chosen cs ps)
signed-chosen cs p ps = ap all_signed (chosen-next cs p ps) ∙ map-append signed_of (chosen cs (p ∷ [])) (chosen cs ps)

pub flat-append : {A B : Type 0} (f : A → List B) (xs ys : List A) → flat_map f (xs ++ ys) ≡ flat_map f xs ++ flat_map f ys
flat-append f [] ys = refl
flat-append f (x ∷ xs) ys = ap (λ rest. f x ++ rest) (flat-append f xs ys) ∙ sym (shifted (f x))
  where
    shifted : (zs : List _) → (zs ++ flat_map f xs) ++ flat_map f ys ≡ zs ++ (flat_map f xs ++ flat_map f ys)
    shifted [] = refl
    shifted (z ∷ zs) = ap (λ more. z ∷ more) (shifted zs)

-- what goes beside the claims at these places
pub beside-next : (f : Statement → List Claim) (cs : List Claim) (p : ℕ) (ps : List ℕ)
    → all_signed (flat_map f (statements_at cs (p ∷ ps))) ≡ all_signed (flat_map f (statements_at cs (p ∷ [])))
    ++ all_signed (flat_map f (statements_at cs ps))
beside-next f cs p ps =
    let say : Claim → Statement = λ c. c.statement in
    ap (λ es. all_signed (flat_map f (map say es))) (chosen-next cs p ps)
    ∙ ap (λ sts. all_signed (flat_map f sts)) (map-append say (chosen cs (p ∷ [])) (chosen cs ps))
    ∙ ap all_signed (flat-append f (statements_at cs (p ∷ [])) (statements_at cs ps))
    ∙ map-append signed_of (flat_map f (statements_at cs (p ∷ []))) (flat_map f (statements_at cs ps))

-- ---- what holds of each

pub mem-all : {A : Type 0} (P : A → Type 0) (xs : List A) → ((x : A) → Mem x xs → P x) → AllByRecursion P xs
mem-all P [] each = tt
mem-all P (x ∷ xs) each = (each x (inl refl), mem-all P xs (λ y m. each y (inr m)))

pub all-append : {A : Type 0} (P : A → Type 0) (xs ys : List A) → AllByRecursion P xs → AllByRecursion P ys → AllByRecursion P (xs ++ ys)
all-append P [] ys a b = b
all-append P (x ∷ xs) ys a b = (a.0, all-append P xs ys a.1 b)

pub all-flat : {A B : Type 0} (P : B → Type 0) (f : A → List B) (xs : List A) → ((x : A) → AllByRecursion P (f x))
    → AllByRecursion P (flat_map f xs)
all-flat P f [] each = tt
all-flat P f (x ∷ xs) each = all-append P (f x) (flat_map f xs) (each x) (all-flat P f xs each)

pub all-chosen : {A : Type 0} (P : A → Type 0) (xs : List A) (ps : List ℕ) → AllByRecursion P xs → AllByRecursion P (chosen xs ps)
all-chosen P xs [] all = tt
all-chosen P xs (p ∷ ps) all = go (slice_get xs p) refl (all-chosen P xs ps all)
  where
    go : (o : Option _) → slice_get xs p ≡ o → AllByRecursion P (chosen xs ps) → AllByRecursion P (cons_option o (chosen xs ps))
    go None e rest = rest
    go (Some x) e rest = (all-get P xs p x e all, rest)
