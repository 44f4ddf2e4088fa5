-- Questions on pools and convictions, by the words of a line.
use Rattle.std.proofs.Common.{◌≡◌, ℕ, ◌<◌, ◌≤◌, inl, inr, Bool, true, nat_eq, List, [], ◌∷◌, length, get_or, map, Bor, refl, sym, ap, subst, ◌∙◌, arith}
use Rattle.std.specs.Prelude.{codes}
use lib.Pointwise.{pointwise}
use Rattle.std.specs.Fmt.{decimal}
use Rattle.std.proofs.lemmas.Fmt.{decimal_injective}
use Rattle.std.proofs.lemmas.Slice.Eq.{bytes_eq-Decides}
use Rattle.text_defs.specs.Words.{Spells, bytes_word}
use Rattle.text_codec.proofs.Spelled.{spelled_once}
use Rattle.interop_pool.specs.Questions.{Answers, IsAnswerTo, IsQuestion, OfConvicted, OfPool, Question, SaysOfPool, claims_in, convicted_words, spelled}

-- the line of these words behind `pool`
abbrev pub asking : List ℕ → List ℕ → List ℕ → List ℕ → List (List ℕ)
asking number members counts frame = codes "pool" ∷ number ∷ members ∷ counts ∷ frame ∷ []

pub pool_answers : (n m c f : List ℕ) (number : ℕ) (members counts frame reported : List ℕ) → n ≡ decimal number → number ≤ 1023
    → Spells m members → Spells c counts → Spells f frame → SaysOfPool number members counts frame reported
    → Answers (asking n m c f) reported
pool_answers n m c f number members counts frame reported sn low sm sc sf says = record {
  question = OfPool number members counts frame;
  fits = (low, sm.0, sc.0, sf.0);
  asked = λ i. asking (sn i) (sm.1 i) (sc.1 i) (sf.1 i);
  is_reported = says;
}

pub convicted_answers : (word bytes reported : List ℕ) → Spells word bytes → reported ≡ convicted_words (claims_in bytes)
    → Answers (codes "convicted" ∷ word ∷ []) reported
convicted_answers word bytes reported s is = record {
  question = OfConvicted bytes;
  fits = s.0;
  asked = ap (λ (w : List ℕ). codes "convicted" ∷ w ∷ []) s.1;
  is_reported = is;
}

-- ---- the words of a line

five : (ws : List (Bor (List ℕ))) (d : Bor (List ℕ)) (verb : List ℕ) → 5 ≤ length ws → length ws < 6 → (get_or ws 0 d).now ≡ verb
    → map (λ w. w.now) ws ≡ verb ∷ (get_or ws 1 d).now ∷ (get_or ws 2 d).now ∷ (get_or ws 3 d).now ∷ (get_or ws 4 d).now ∷ []
five (a ∷ b ∷ c ∷ e ∷ f ∷ []) d verb more less is = ap (λ (v : List ℕ). v ∷ b.now ∷ c.now ∷ e.now ∷ f.now ∷ []) is
five (a ∷ b ∷ c ∷ e ∷ f ∷ g ∷ ws) d verb more less is = absurd (omega (arith, less))
five _ d verb more less is = absurd (omega (arith, more))

-- five words, the first of which is this verb
pub five_words : (ws : List (Bor (List ℕ))) (d : Bor (List ℕ)) (b verb : List ℕ) (r : Bool) → 5 ≤ length ws → length ws < 6
    → r ≡ pointwise nat_eq (get_or ws 0 d).now b → r ≡ true → b ≡ verb
    → map (λ w. w.now) ws ≡ verb ∷ (get_or ws 1 d).now ∷ (get_or ws 2 d).now ∷ (get_or ws 3 d).now ∷ (get_or ws 4 d).now ∷ []
five_words ws d b verb r more less e passes is = five ws d verb more less ((bytes_eq-Decides (get_or ws 0 d).now b).0 (sym e ∙ passes) ∙ is)

-- ---- one answer

one_said : (number : ℕ) (members counts frame x y : List ℕ) → SaysOfPool number members counts frame x
    → SaysOfPool number members counts frame y → x ≡ y
one_said number members counts frame x y (inl a) (inl b) = a.1 ∙ sym b.1
one_said number members counts frame x y (inl a) (inr b) = absurd (b.0 a.0)
one_said number members counts frame x y (inr a) (inl b) = absurd (a.0 b.0)
one_said number members counts frame x y (inr a) (inr b) = a.1 ∙ sym b.1

pub one_answer : (words : List (List ℕ)) (x y : List ℕ) → Answers words x → Answers words y → x ≡ y
one_answer words x y a b = of a.question b.question a.fits b.fits a.asked b.asked a.is_reported b.is_reported
  where
    of : (p q : Question) → IsQuestion p → IsQuestion q → words ≡ spelled p → words ≡ spelled q → IsAnswerTo p x → IsAnswerTo q y → x ≡ y
    of (OfPool m ms cs f) (OfPool n ns ds g) fm fn is also t u =
        let number : m ≡ n = decimal_injective m n (omega (arith, fm.0)) (omega (arith, fn.0)) cc in
        let members : ms ≡ ns = spelled_once (bytes_word ms) ms ns (fm.1, refl) (fn.1, cc) in
        let counts : cs ≡ ds = spelled_once (bytes_word cs) cs ds (fm.2, refl) (fn.2, cc) in
        let frame : f ≡ g = spelled_once (bytes_word f) f g (fm.3, refl) (fn.3, cc) in
        let says : SaysOfPool m ms cs f y = subst (λ (n : ℕ). SaysOfPool n ms cs f y) (sym number)
        (subst (λ (ns : List ℕ). SaysOfPool n ns cs f y) (sym members) (subst (λ (ds : List ℕ). SaysOfPool n ns ds f y) (sym counts)
        (subst (λ (g : List ℕ). SaysOfPool n ns ds g y) (sym frame) u))) in
        one_said m ms cs f x y t says
    of (OfConvicted m) (OfConvicted n) fm fn is also t u =
        t ∙ ap (λ (f : List ℕ). convicted_words (claims_in f)) (spelled_once (bytes_word m) m n (fm, refl) (fn, cc)) ∙ sym u
    of (OfPool m ms cs f) (OfConvicted n) fm fn is also t u = absurd cc
    of (OfConvicted n) (OfPool m ms cs f) fm fn is also t u = absurd cc
