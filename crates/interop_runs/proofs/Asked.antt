-- The words of a question on a run.
use Rattle.std.proofs.Common.{◌≡◌, ◌≢◌, ◌==◌, ℕ, ◌<◌, ◌≤◌, Bool, true, false, nat_eq, List, [], ◌∷◌, length, map, get_or, Bor, refl, sym, ap, ◌∙◌, arith}
use Rattle.std.specs.Prelude.{codes}
use Rattle.std.proofs.lemmas.Slice.Eq.{bytes_eq-Decides}
use lib.Pointwise.{pointwise}
use Rattle.text_defs.specs.Words.{words_of}
use Rattle.interop_runs.specs.Questions.{words_in}

-- the six words behind `run`, of two equal lists
module _ (a b c d e f s i j m w t : List ℕ)
    (same : codes "run" ∷ a ∷ b ∷ c ∷ d ∷ e ∷ f ∷ [] ≡ codes "run" ∷ s ∷ i ∷ j ∷ m ∷ w ∷ t ∷ []) where
  pub first : s ≡ a
  first = sym (ap (λ (l : List (List ℕ)). get_or l 1 []) same)

  pub second : i ≡ b
  second = sym (ap (λ (l : List (List ℕ)). get_or l 2 []) same)

  pub third : j ≡ c
  third = sym (ap (λ (l : List (List ℕ)). get_or l 3 []) same)

  pub fourth : m ≡ d
  fourth = sym (ap (λ (l : List (List ℕ)). get_or l 4 []) same)

  pub fifth : w ≡ e
  fifth = sym (ap (λ (l : List (List ℕ)). get_or l 5 []) same)

  pub sixth : t ≡ f
  sixth = sym (ap (λ (l : List (List ℕ)). get_or l 6 []) same)

-- a text that is not empty is its words
pub words_in-some : (r : Bool) (text : List ℕ) → r ≡ (length text == 0) → r ≡ false → words_in text ≡ words_of text
words_in-some r [] is other = absurd cc
words_in-some r (c ∷ text) is other = refl

seven : (ws : List (Bor (List ℕ))) (d : Bor (List ℕ)) → 7 ≤ length ws → length ws < 8 → (get_or ws 0 d).now ≡ codes "run"
    → map (λ w. w.now) ws ≡ codes "run" ∷ (get_or ws 1 d).now ∷ (get_or ws 2 d).now ∷ (get_or ws 3 d).now ∷ (get_or ws 4 d).now
    ∷ (get_or ws 5 d).now ∷ (get_or ws 6 d).now ∷ []
seven (a ∷ b ∷ c ∷ e ∷ f ∷ g ∷ h ∷ []) d more less is = ap
    (λ (v : List ℕ). v ∷ b.now ∷ c.now ∷ e.now ∷ f.now ∷ g.now ∷ h.now ∷ []) is
seven [] d more less is = absurd (omega (arith, more))
seven (a ∷ []) d more less is = absurd (omega (arith, more))
seven (a ∷ b ∷ []) d more less is = absurd (omega (arith, more))
seven (a ∷ b ∷ c ∷ []) d more less is = absurd (omega (arith, more))
seven (a ∷ b ∷ c ∷ e ∷ []) d more less is = absurd (omega (arith, more))
seven (a ∷ b ∷ c ∷ e ∷ f ∷ []) d more less is = absurd (omega (arith, more))
seven (a ∷ b ∷ c ∷ e ∷ f ∷ g ∷ []) d more less is = absurd (omega (arith, more))
seven (a ∷ b ∷ c ∷ e ∷ f ∷ g ∷ h ∷ x ∷ ws) d more less is = absurd (omega (arith, less))

-- seven words, the first of which is `run`
pub seven_words : (ws : List (Bor (List ℕ))) (d : Bor (List ℕ)) (b : List ℕ) (r : Bool) → 7 ≤ length ws → length ws < 8
    → r ≡ pointwise nat_eq (get_or ws 0 d).now b → r ≡ true → b ≡ codes "run"
    → map (λ w. w.now) ws ≡ codes "run" ∷ (get_or ws 1 d).now ∷ (get_or ws 2 d).now ∷ (get_or ws 3 d).now ∷ (get_or ws 4 d).now
    ∷ (get_or ws 5 d).now ∷ (get_or ws 6 d).now ∷ []
seven_words ws d b r more less e passes is = seven ws d more less ((bytes_eq-Decides (get_or ws 0 d).now b).0 (sym e ∙ passes) ∙ is)
