-- The line of what became of a state.
use Rattle.std.proofs.Common.{◌≡◌, ℕ, List, [], ◌∷◌, ◌++◌, refl, sym, ap, ◌∙◌}
use Rattle.std.specs.Prelude.{codes}
use Rattle.std.specs.Fmt.{decimal}
use Rattle.text_defs.specs.Words.{line_text}
use Rattle.store_defs.specs.Serving.{Grammar, Held, Known, OfferWord, OtherView, Ready, Stranger, TakenSoFar, Unsigned}
use Rattle.store_defs.specs.Words.{offered_text}

-- the line of a word, which this one is
pub said-so : (p : ℕ) (w v : OfferWord) (text before after : List ℕ) → w ≡ v → text ≡ offered_text p v → after ≡ before ++ text
    → after ≡ before ++ offered_text p w
said-so p w v text before after is line said = said ∙ ap (λ (t : List ℕ). before ++ t) (line ∙ ap (offered_text p) (sym is))

module _ (p : ℕ) where
  pub grammar-line : line_text (codes "state" ∷ decimal p ∷ codes "refused grammar" ∷ []) ≡ offered_text p Grammar
  unfolding offered_text
  grammar-line = refl

  pub held-line : line_text (codes "state" ∷ decimal p ∷ codes "refused held" ∷ []) ≡ offered_text p Held
  unfolding offered_text
  held-line = refl

  pub view-line : line_text (codes "state" ∷ decimal p ∷ codes "refused view" ∷ []) ≡ offered_text p OtherView
  unfolding offered_text
  view-line = refl

  pub stranger-line : line_text (codes "state" ∷ decimal p ∷ codes "refused stranger" ∷ []) ≡ offered_text p Stranger
  unfolding offered_text
  stranger-line = refl

  pub unsigned-line : line_text (codes "state" ∷ decimal p ∷ codes "refused unsigned" ∷ []) ≡ offered_text p Unsigned
  unfolding offered_text
  unsigned-line = refl

  pub known-line : line_text (codes "state" ∷ decimal p ∷ codes "refused known" ∷ []) ≡ offered_text p Known
  unfolding offered_text
  known-line = refl

  pub ready-line : line_text (codes "state" ∷ decimal p ∷ codes "ready" ∷ []) ≡ offered_text p Ready
  unfolding offered_text
  ready-line = refl

  pub taken-line : (n : ℕ) → line_text (codes "state" ∷ decimal p ∷ codes "taken" ∷ decimal n ∷ []) ≡ offered_text p (TakenSoFar n)
  unfolding offered_text
  taken-line n = refl
