-- What holds of a result that may be none.
use Rattle.std.proofs.Common.{◌≡◌, Option, Some, None, Result, Ok, Err, refl, sym, ◌∙◌, subst}
use Rattle.std.specs.Prelude.{◌↔◌, is_some, IfOk, IfSome, IsTrue}

-- what is there where something is so
pub ok-some : {A E : Type 0} (r : Result (Option A) E) (P Q : A → Type 0) (C : Type 0) → (C → (a : A) → P a → Q a)
    → IfOk r (λ o. IsTrue (is_some o) ↔ C) → IfOk r (λ o. IfSome o P) → IfOk r (λ o. IfSome o Q)
ok-some (Err e) P Q C f exact is = tt
ok-some (Ok None) P Q C f exact is = tt
ok-some (Ok (Some a)) P Q C f exact is = f (exact.0 refl) a is

-- another word for what is so
pub ok-same : {A E : Type 0} (r : Result (Option A) E) (C D : Type 0) → (C → D) → (D → C)
    → IfOk r (λ o. IsTrue (is_some o) ↔ C) → IfOk r (λ o. IsTrue (is_some o) ↔ D)
ok-same (Err e) C D there back exact = tt
ok-same (Ok o) C D there back exact = ((λ some. there (exact.0 some)), (λ so. exact.1 (back so)))

-- there is something exactly where there is something else
pub some-as : {A B E : Type 0} (r : Result (Option A) E) (o : Option B) (C : Type 0) → IfOk r (λ q. is_some q ≡ is_some o)
    → (IsTrue (is_some o) ↔ C) → IfOk r (λ q. IsTrue (is_some q) ↔ C)
some-as (Err e) o C same exact = tt
some-as (Ok q) o C same exact = ((λ some. exact.0 (sym same ∙ some)), (λ so. same ∙ exact.1 so))

-- what is there has two parts, the second of which is what is there of something else
pub both-as : {A B V E : Type 0} (r : Result (Option A) E) (o : Option B) (first : A → V) (second : A → B) (v w : V) (P : B → Type 0)
    → IfOk r (λ q. IfSome q (λ a. first a ≡ v)) → IfOk r (λ q. IfSome q (λ a. o ≡ Some (second a))) → v ≡ w → IfSome o P
    → IfOk r (λ q. IfSome q (λ a. (first a ≡ w) × P (second a)))
both-as (Err e) o first second v w P is has same so = tt
both-as (Ok None) o first second v w P is has same so = tt
both-as {B = B} (Ok (Some a)) o first second v w P is has same so = (is ∙ same, subst (λ (q : Option B). IfSome q P) has so)
