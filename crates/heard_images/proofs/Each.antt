-- Claims heard new, one more after the other.
use Rattle.std.proofs.Common.{◌≡◌, ℕ, zero, suc, ◌+◌, ◌<◌, ◌≤◌, List, [], ◌∷◌, ◌++◌, length, take, drop, get_or, Bool, true, false, refl, sym, ap, subst, ◌∙◌, arith}
use Rattle.std.specs.Prelude.{◌↔◌, IsTrue}
use Rattle.std.proofs.lemmas.List.{append_assoc, drop_all}
use Rattle.message_defs.specs.Statements.{Claim}
use Rattle.group_defs.specs.Process.{Setting, Pool, Process}
use Rattle.group_defs.specs.Hearing.{Heard, verdict, with_heard}
use Rattle.claim_pool.specs.Kept.{HasDelivered, Own}
use Rattle.heard_images.specs.Hearing.{AreNew, with_more}

take-more : {A : Type 0} (xs : List A) (i : ℕ) (x : A) → i < length xs → x ≡ get_or xs i x → take (i + 1) xs ≡ take i xs ++ x ∷ []
take-more [] i x lt is = absurd (omega (arith, lt))
take-more (y ∷ ys) zero x lt is = ap (λ z. z ∷ []) (sym is)
take-more (y ∷ ys) (suc i) x lt is =
    let next : suc i + 1 ≡ suc (i + 1) = omega arith in
    ap (λ k. take k (y ∷ ys)) next ∙ ap (λ zs. y ∷ zs) (take-more ys i x (omega (arith, lt)) is)

drop-more : {A : Type 0} (xs : List A) (i : ℕ) (x : A) → i < length xs → x ≡ get_or xs i x → drop i xs ≡ x ∷ drop (i + 1) xs
drop-more [] i x lt is = absurd (omega (arith, lt))
drop-more (y ∷ ys) zero x lt is = ap (λ z. z ∷ ys) (sym is)
drop-more (y ∷ ys) (suc i) x lt is =
    let next : suc (i + 1) ≡ suc i + 1 = omega arith in
    drop-more ys i x (omega (arith, lt)) is ∙ ap (λ k. x ∷ drop k (y ∷ ys)) next

take-whole : {A : Type 0} (xs : List A) (i : ℕ) → length xs ≤ i → take i xs ≡ xs
take-whole [] zero le = refl
take-whole [] (suc i) le = refl
take-whole (x ∷ xs) zero le = absurd (omega (arith, le))
take-whole (x ∷ xs) (suc i) le = ap (λ ys. x ∷ ys) (take-whole xs i (omega (arith, le)))

pub pool-more : (h old new : Pool) (cs : List Claim) (i : ℕ) (x c : Claim) → i < length cs → x ≡ get_or cs i x → c ≡ x
    → h ≡ with_more old (take i cs) → new ≡ with_more h (c ∷ []) → new ≡ with_more old (take (i + 1) cs)
pool-more h old new cs i x c lt at is here more =
    more ∙ ap (λ (h : Pool). with_more h (c ∷ [])) here
    ∙ ap (λ (heard : List Claim). record { view = old.view; heard = heard }) (append_assoc old.heard (take i cs) (c ∷ [])
    ∙ ap (λ xs. old.heard ++ xs) (ap (λ (d : Claim). take i cs ++ d ∷ []) is ∙ sym (take-more cs i x lt at)))

pub pool-whole : (h old : Pool) (cs : List Claim) (i : ℕ) → length cs ≤ i → h ≡ with_more old (take i cs) → h ≡ with_more old cs
pool-whole h old cs i le here = here ∙ ap (with_more old) (take-whole cs i le)

module _ (s : Setting) (q : Process) (cs : List Claim) (i : ℕ) (P : Type 0) (so : AreNew s q (drop i cs) ↔ P) where
  pub new-whole : length cs ≤ i → IsTrue true ↔ P
  new-whole le = (λ ok. so.0 (subst (AreNew s q) (sym (drop_all i cs le)) tt), λ it. refl)

  module _ (x c : Claim) (lt : i < length cs) (at : x ≡ get_or cs i x) (is : c ≡ x) where
    pub new-more : verdict s q c ≡ Heard → AreNew s (with_heard q c) (drop (i + 1) cs) ↔ P
    new-more heard = (
      λ rest. so.0 (subst (AreNew s q) (sym (drop-more cs i x lt at))
          (subst (λ (d : Claim). (verdict s q d ≡ Heard) × AreNew s (with_heard q d) (drop (i + 1) cs)) is (heard, rest))),
      λ it. subst (λ (d : Claim). AreNew s (with_heard q d) (drop (i + 1) cs)) (sym is) (subst (AreNew s q) (drop-more cs i x lt at) (so.1 it)).1,
    )

    pub none-more : (b : Bool) → b ≡ false → (IsTrue b ↔ (verdict s q c ≡ Heard)) → IsTrue false ↔ P
    none-more b no' heard = (
      λ no_way. absurd cc,
      λ it. sym no' ∙ heard.1 (subst (λ (d : Claim). verdict s q d ≡ Heard) (sym is) (subst (AreNew s q) (drop-more cs i x lt at) (so.1 it)).0),
    )

pub delivered-more : (q : Process) (c : Claim) (own : Own) → HasDelivered own q → HasDelivered own (with_heard q c)
delivered-more q c own has = record { places = has.places; counts = has.counts }
