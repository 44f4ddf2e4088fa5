-- Questions on signatures, by the words of a line.
use Rattle.std.proofs.Common.{◌≡◌, ℕ, List, [], ◌∷◌, get_or, refl, sym, ap, ◌∙◌, subst, arith}
use Rattle.std.specs.Prelude.{codes, if◌then◌else◌}
use Rattle.text_defs.specs.Words.{Spells, bytes_word}
use Rattle.text_codec.proofs.Spelled.{spelled_once}
use Rattle.interop_signatures.specs.declared.verifying.Scheme.{Scheme}
use Rattle.interop_signatures.specs.declared.verifying.Scheme.TheVariants.{Lms, Hss}
use Rattle.interop_signatures.specs.Schemes.{is_valid, scheme_word}
use Rattle.interop_signatures.specs.Trees.{tree_signed, tree_words}
use Rattle.interop_signatures.specs.Levels.{level_signed, level_words}
use Rattle.interop_signatures.specs.Signatures.{Answers, IsQuestion, Question, SignByLevels, SignByTree, Verify, answer_to, spelled}
use Rattle.interop_signatures.proofs.TreeLaws as of_trees
use Rattle.interop_signatures.proofs.LevelLaws as of_levels

-- ---- verify

abbrev pub verify_words : List ℕ → List ℕ → List ℕ → List ℕ → List (List ℕ)
verify_words name key body sig = codes "verify" ∷ name ∷ key ∷ body ∷ sig ∷ []

abbrev pub verdict : Scheme → List ℕ → List ℕ → List ℕ → List ℕ
verdict scheme key body sig = if is_valid scheme key body sig then codes "true" else codes "false"

-- the four words name a scheme and spell bytes, and this is what is answered
pub record Verified (name k b s reported : List ℕ) : Type 0 where
  pub scheme : Scheme
  pub key : List ℕ
  pub body : List ℕ
  pub sig : List ℕ
  pub named : name ≡ scheme_word scheme
  pub has_key : Spells k key
  pub has_body : Spells b body
  pub has_sig : Spells s sig
  pub reported_is : reported ≡ verdict scheme key body sig

pub verified : (name k b s reported : List ℕ) → Answers (verify_words name k b s) reported → Verified name k b s reported
verified name k b s reported a = of a.question a.fits a.asked a.reported_is
  where
    of : (q : Question) → IsQuestion q → verify_words name k b s ≡ spelled q → reported ≡ answer_to q → Verified name k b s reported
    of (Verify scheme key body sig) fits is t = record {
      scheme = scheme;
      key = key;
      body = body;
      sig = sig;
      named = cc;
      has_key = (fits.0, cc);
      has_body = (fits.1, cc);
      has_sig = (fits.2, cc);
      reported_is = t;
    }
    of (SignByTree asked) fits is t = absurd cc
    of (SignByLevels asked) fits is t = absurd cc

pub verify_answers : (scheme : Scheme) (name k b s key body sig : List ℕ) → name ≡ scheme_word scheme → Spells k key → Spells b body
    → Spells s sig → Answers (verify_words name k b s) (verdict scheme key body sig)
verify_answers scheme name k b s key body sig named hk hb hs = record {
  question = Verify scheme key body sig;
  fits = (hk.0, hb.0, hs.0);
  asked = cc (named, hk.1, hb.1, hs.1);
  reported_is = refl;
}

-- ---- one answer

-- no two schemes have one word
same_scheme : (a b : Scheme) → scheme_word a ≡ scheme_word b → a ≡ b
same_scheme Lms Lms is = refl
same_scheme Hss Hss is = refl
same_scheme Lms Hss is = let letters : 108 ≡ 104 = ap (λ (w : List ℕ). get_or w 0 0) is in absurd (omega (arith, letters))
same_scheme Hss Lms is = let letters : 104 ≡ 108 = ap (λ (w : List ℕ). get_or w 0 0) is in absurd (omega (arith, letters))

-- what was verified is the same twice
same_verdict : (name k b s x y : List ℕ) → Verified name k b s x → Verified name k b s y → x ≡ y
same_verdict name k b s x y v w =
    let scheme = same_scheme v.scheme w.scheme (sym v.named ∙ w.named) in
    let key = spelled_once k v.key w.key v.has_key w.has_key in
    let body = spelled_once b v.body w.body v.has_body w.has_body in
    let sig = spelled_once s v.sig w.sig v.has_sig w.has_sig in
    v.reported_is ∙ rw (scheme, key, body, sig) (sym w.reported_is)

pub one_answer : (words : List (List ℕ)) (x y : List ℕ) → Answers words x → Answers words y → x ≡ y
one_answer words x y a b = of a.question a.fits a.asked a.reported_is
  where
    of : (q : Question) → IsQuestion q → words ≡ spelled q → x ≡ answer_to q → x ≡ y
    of (Verify scheme key body sig) fits is t =
        let first : Answers (verify_words (scheme_word scheme) (bytes_word key) (bytes_word body) (bytes_word sig)) x =
        subst (λ (ws : List (List ℕ)). Answers ws x) is a in
        let second : Answers (verify_words (scheme_word scheme) (bytes_word key) (bytes_word body) (bytes_word sig)) y =
        subst (λ (ws : List (List ℕ)). Answers ws y) is b in
        same_verdict _ _ _ _ x y (verified _ _ _ _ x first) (verified _ _ _ _ y second)
    of (SignByTree s) fits is t =
        let second : Answers (codes "lms" ∷ tree_words s) y = subst (λ (ws : List (List ℕ)). Answers ws y) is b in
        let other = of_trees.sign_asked _ _ _ _ _ _ y second in
        t ∙ ap tree_signed (of_trees.same_signing s other.0 fits other.1.fits other.1.words) ∙ sym other.2
    of (SignByLevels s) fits is t =
        let second : Answers (codes "hss" ∷ level_words s) y = subst (λ (ws : List (List ℕ)). Answers ws y) is b in
        let other = of_levels.sign_asked _ _ _ _ _ _ _ y second in
        t ∙ ap level_signed (of_levels.same_signing s other.0 fits.0 other.1.fits other.1.words) ∙ sym other.3
