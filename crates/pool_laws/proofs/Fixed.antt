-- The fixed length, with one claim more: it rises to the place that the claim makes kept.
use Rattle.std.proofs.Common.{◌≡◌, ℕ, ◌+◌, Bool, true, false, List, [], ◌∷◌, ◌++◌, Option, Some, None, ◌⊎◌, inl, inr, refl, sym, ap, ◌∙◌, arith}
use Rattle.std.specs.Prelude.{if◌then◌else◌, fold, filter_map, max}
use Rattle.std.specs.List.{cons_option}
use Rattle.std.proofs.lemmas.List.Sums.{fold-append}
use Rattle.std.proofs.lemmas.List.Elements.{filter_map-append}
use Rattle.group_defs.specs.Below.{Statement, Keep, Claim, slot_of, same_statement}
use Rattle.group_defs.specs.Process.{Pool}
use Rattle.group_defs.specs.Certified.{claim_on, is_certified, place_kept, fixed_length}
use Rattle.pool_laws.proofs.Growing.{is_certified-stays, with_more}
use Rattle.pool_laws.proofs.Slots.{same_statement-is, is-same_statement}
use Rattle.pool_laws.proofs.Grown.{other_certified}

abbrev higher : ℕ → ℕ → ℕ
higher most k = max most (k + 1)

abbrev from : Pool → List Claim → ℕ → ℕ
from g cs most = fold higher most (filter_map (λ d. place_kept g d.statement) cs)

-- the last claim comes last
abbrev pub after_one : ℕ → Option ℕ → ℕ
after_one most None = most
after_one most (Some k) = higher most k

from-push : (g : Pool) (cs : List Claim) (c : Claim) (most : ℕ)
    → from g (cs ++ c ∷ []) most ≡ after_one (from g cs most) (place_kept g c.statement)
from-push g cs c most =
    ap (fold higher most) (filter_map-append (λ d. place_kept g d.statement) cs (c ∷ []))
    ∙ fold-append higher most (filter_map (λ d. place_kept g d.statement) cs) (cons_option (place_kept g c.statement) [])
    ∙ last (place_kept g c.statement) (from g cs most)
  where
    last : (o : Option ℕ) (most : ℕ) → fold higher most (cons_option o []) ≡ after_one most o
    last None most = refl
    last (Some k) most = refl

module _ (h : Pool) (c : Claim) (fresh : claim_on h.heard c.signer (slot_of c.statement) ≡ None) where
  others : (st : Statement) → (st ≡ c.statement → ⊥) → place_kept (with_more h (c ∷ [])) st ≡ place_kept h st
  others (Keep x k m) not = ap (λ (b : Bool). if b then Some k else None) (other_certified h c fresh (Keep x k m) not)
  others _ not = refl

  stays : (st : Statement) (k : ℕ) → place_kept h st ≡ Some k → place_kept (with_more h (c ∷ [])) st ≡ Some k
  stays (Keep x j m) k e = go (is_certified h (Keep x j m)) refl e
    where
      go : (b : Bool) → is_certified h (Keep x j m) ≡ b → (if b then Some j else None) ≡ Some k
          → place_kept (with_more h (c ∷ [])) (Keep x j m) ≡ Some k
      go true is e = ap (λ (b : Bool). if b then Some j else None) (is_certified-stays h (c ∷ []) (Keep x j m) is) ∙ e
      go false is e = absurd cc
  stays _ k e = absurd cc

  -- nothing more is kept
  none_more : place_kept (with_more h (c ∷ [])) c.statement ≡ None → (st : Statement)
      → place_kept (with_more h (c ∷ [])) st ≡ place_kept h st
  none_more none st = go (same_statement st c.statement) refl
    where
      was : (o : Option ℕ) → place_kept h c.statement ≡ o → o ≡ None
      was None e = refl
      was (Some k) e = let both : Some k ≡ None = sym (stays c.statement k e) ∙ none in absurd cc

      go : (b : Bool) → same_statement st c.statement ≡ b → place_kept (with_more h (c ∷ [])) st ≡ place_kept h st
      go true e = ap (place_kept (with_more h (c ∷ [])))
          (same_statement-is st c.statement e) ∙ none ∙ sym (was (place_kept h c.statement) refl) ∙ ap (place_kept h)
          (sym (same_statement-is st c.statement e))
      go false e = others st (λ is. let both : true ≡ false = sym (is-same_statement st c.statement is) ∙ e in cc)

  abbrev Rest : ℕ → List Claim → Type 0
  Rest k ds = (a b : ℕ) → max a (k + 1) ≡ max b (k + 1) → max (from (with_more h (c ∷ [])) ds a) (k + 1) ≡ max (from h ds b) (k + 1)

  -- place k is kept, and no other becomes so
  one_more : (k : ℕ) → place_kept (with_more h (c ∷ [])) c.statement ≡ Some k → (cs : List Claim) (a b : ℕ) → max a (k + 1) ≡ max b (k + 1)
      → max (from (with_more h (c ∷ [])) cs a) (k + 1) ≡ max (from h cs b) (k + 1)
  one_more k is [] a b e = e
  one_more k is (d ∷ ds) a b e = go (same_statement d.statement c.statement) refl (one_more k is ds)
    where
      alike : (o : Option ℕ) → Rest k ds
          → max (fold higher a (cons_option o (filter_map (λ d. place_kept (with_more h (c ∷ [])) d.statement) ds))) (k + 1)
          ≡ max (fold higher b (cons_option o (filter_map (λ d. place_kept h d.statement) ds))) (k + 1)
      alike None rest = rest a b e
      alike (Some j) rest = rest (higher a j) (higher b j) (omega (arith, e))

      its : (o : Option ℕ) → (o ≡ None) ⊎ (o ≡ Some k) → Rest k ds
          → max (fold higher a (cons_option (Some k) (filter_map (λ d. place_kept (with_more h (c ∷ [])) d.statement) ds))) (k + 1)
          ≡ max (fold higher b (cons_option o (filter_map (λ d. place_kept h d.statement) ds))) (k + 1)
      its None which rest = rest (higher a k) b (omega (arith, e))
      its (Some j) (inl none) rest = absurd cc
      its (Some j) (inr same) rest = let one : j ≡ k = cc in rest (higher a k) (higher b j) (omega (arith, e, one))

      before : (o : Option ℕ) → place_kept h d.statement ≡ o → d.statement ≡ c.statement → (o ≡ None) ⊎ (o ≡ Some k)
      before None at same = inl refl
      before (Some j) at same = inr (sym (stays d.statement j at) ∙ ap (place_kept (with_more h (c ∷ []))) same ∙ is)

      go : (t : Bool) → same_statement d.statement c.statement ≡ t → Rest k ds
          → max (from (with_more h (c ∷ [])) (d ∷ ds) a) (k + 1) ≡ max (from h (d ∷ ds) b) (k + 1)
      go true t rest =
          let same : d.statement ≡ c.statement = same_statement-is d.statement c.statement t in
          let kept : place_kept (with_more h (c ∷ [])) d.statement ≡ Some k = ap (place_kept (with_more h (c ∷ []))) same ∙ is in
          ap (λ o. max (fold higher a (cons_option o (filter_map (λ d. place_kept (with_more h (c ∷ [])) d.statement) ds))) (k + 1)) kept
          ∙ its (place_kept h d.statement) (before (place_kept h d.statement) refl same) rest
      go false t rest =
          let old : place_kept (with_more h (c ∷ [])) d.statement
          ≡ place_kept h d.statement = others d.statement
          (λ is. let both : true ≡ false = sym (is-same_statement d.statement c.statement is) ∙ t in cc) in
          ap (λ o. max (fold higher a (cons_option o (filter_map (λ d. place_kept (with_more h (c ∷ [])) d.statement) ds))) (k + 1)) old
          ∙ alike (place_kept h d.statement) rest

  -- the fixed length rises to it
  pub fixed_length-grown : fixed_length (with_more h (c ∷ [])) ≡ after_one (fixed_length h) (place_kept (with_more h (c ∷ [])) c.statement)
  fixed_length-grown = from-push (with_more h (c ∷ [])) h.heard c 0 ∙ go (place_kept (with_more h (c ∷ [])) c.statement) refl
    where
      go : (o : Option ℕ) → place_kept (with_more h (c ∷ [])) c.statement ≡ o
          → after_one (from (with_more h (c ∷ [])) h.heard 0) o ≡ after_one (fixed_length h) o
      go None is = λ i. fold higher 0 (filter_map (λ d. none_more is d.statement i) h.heard)
      go (Some k) is = one_more k is h.heard 0 0 refl
