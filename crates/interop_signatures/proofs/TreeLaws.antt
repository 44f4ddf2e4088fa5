-- Questions on what a tree signs, by the words of a line.
use Rattle.std.proofs.Common.{◌≡◌, ◌⊎◌, inl, inr, ℕ, ◌^◌, ◌<◌, ◌≤◌, List, [], ◌∷◌, Some, Result, Ok, Err, refl, sym, ap, ◌∙◌, subst, arith}
use Rattle.std.specs.Prelude.{codes, IfOk}
use Rattle.std.specs.Fmt.{decimal}
use Rattle.std.proofs.lemmas.Fmt.{decimal_injective}
use Rattle.signature_defs.specs.Lms.{lms_height_of, lms_valid}
use Rattle.rp_base.specs.Signer.{KeyKeeps}
use Rattle.lms_tree.specs.declared.key.LmsKey.{LmsKey}
use Rattle.lms_tree.specs.Key.{IsMadeFrom, length_of, public_of, signature_of}
use Rattle.interop_words.specs.declared.line_fault.LineFault.{LineFault}
use Rattle.text_defs.specs.Words.{bytes_word}
use Rattle.text_codec.proofs.Spelled.{digits_once, spelled_once}
use Rattle.interop_signatures.specs.Views.{IsTreeReady}
use Rattle.interop_signatures.specs.Trees.{IsTreeSigning, TreeAskedBy, TreeSigning, tree_signed, tree_words}
use Rattle.interop_signatures.specs.Signatures.{Answers, IsQuestion, Question, SignByLevels, SignByTree, Verify, answer_to, spelled}
use Rattle.interop_signatures.proofs.SharedLaws.{same_ots}

-- ---- what is asked

abbrev pub sign_words : List ℕ → List ℕ → List ℕ → List ℕ → List ℕ → List ℕ → List (List ℕ)
sign_words h w i seed q body = codes "lms" ∷ h ∷ w ∷ i ∷ seed ∷ q ∷ body ∷ []

pub sign_answers : (h w i seed q body reported : List ℕ) (s : TreeSigning) → TreeAskedBy h w i seed q body s → reported ≡ tree_signed s
    → Answers (sign_words h w i seed q body) reported
sign_answers h w i seed q body reported s asked is = record {
  question = SignByTree s;
  fits = asked.fits;
  asked = ap (λ (ws : List (List ℕ)). codes "lms" ∷ ws) asked.words;
  reported_is = is;
}

pub sign_asked : (h w i seed q body reported : List ℕ) → Answers (sign_words h w i seed q body) reported
    → (s : TreeSigning) × TreeAskedBy h w i seed q body s × (reported ≡ tree_signed s)
sign_asked h w i seed q body reported a = of a.question a.fits a.asked a.reported_is
  where
    of : (x : Question) → IsQuestion x → sign_words h w i seed q body ≡ spelled x → reported ≡ answer_to x
        → (s : TreeSigning) × TreeAskedBy h w i seed q body s × (reported ≡ tree_signed s)
    of (Verify scheme k b g) fits is t = absurd cc
    of (SignByLevels s) fits is t = absurd cc
    of (SignByTree s) fits is t = (s, record { fits = fits; words = cc }, t)

-- ---- the key

-- a key that was made from these, and counts the leaves before the asked one as used
pub ready : (s : TreeSigning) (made now : LmsKey) → IsTreeSigning s → IsMadeFrom s.typecode s.ots s.id s.seed made
    → lms_height_of made.tree.typecode ≡ Some made.tree.height
    → KeyKeeps (public_of made) (public_of now) (length_of made) (length_of now) (signature_of made) (signature_of now) lms_valid lms_valid
    → now.used ≡ s.leaf → 2 ^ now.tree.height ≡ 2 ^ made.tree.height → IsTreeReady s now
ready s made now fits from known kept used total =
    let tree = from.tree in
    let height : made.tree.height ≡ s.height = cc (known, fits.height, tree.has_typecode) in
    record {
      public = kept.public_key ∙ rw (tree.has_typecode, tree.has_ots, height, tree.has_id, tree.has_seed) refl;
      next =
          ap (λ (f : ℕ → List ℕ → List ℕ). f now.used s.body) kept.signatures
          ∙ rw (used, tree.has_typecode, tree.has_ots, height, tree.has_id, tree.has_seed) refl;
      unspent = rw (used, total, height) fits.leaf;
    }

-- ---- words

pub leaf_read : (r : Result ℕ LineFault) (word : List ℕ) (most leaves : ℕ) → most < leaves
    → IfOk r (λ n. (word ≡ decimal n) × (0 ≤ n) × (n ≤ most)) → IfOk r (λ n. (n < leaves) × (word ≡ decimal n))
leaf_read (Ok n) word most leaves fit read = (omega (arith, read.2, fit), read.0)
leaf_read (Err e) word most leaves fit read = tt

pub leaf_word : (h w i seed q body : List ℕ) (s : TreeSigning) → TreeAskedBy h w i seed q body s → q ≡ decimal s.leaf
leaf_word h w i seed q body s asked = cc (asked.words)

pub height_is : (s : TreeSigning) (n height : ℕ) → IsTreeSigning s → s.typecode ≡ n → lms_height_of n ≡ Some height → s.height ≡ height
height_is s n height fits is known = cc (fits.height, is, known)

pub typecode_is : (h w i seed q body : List ℕ) (s : TreeSigning) (n : ℕ) → TreeAskedBy h w i seed q body s → n ≤ 7 → h ≡ decimal n → s.typecode ≡ n
typecode_is h w i seed q body s n asked small is =
    let word : h ≡ decimal s.typecode = cc (asked.words) in
    let low = asked.fits.built.1 in
    decimal_injective s.typecode n (omega arith) (omega arith) (sym word ∙ is)

leaf_is_small : (s : TreeSigning) → IsTreeSigning s → s.leaf < 2 ^ 64
leaf_is_small s fits =
    elim (built s.typecode s.height fits.built.0 fits.built.1 fits.height) [
      | inl five ↦ let low : s.leaf < 2 ^ 5 = subst (λ h. s.leaf < 2 ^ h) five fits.leaf in omega arith
      | inr (inl ten) ↦ let low : s.leaf < 2 ^ 10 = subst (λ h. s.leaf < 2 ^ h) ten fits.leaf in omega arith
      | inr (inr fifteen) ↦ let low : s.leaf < 2 ^ 15 = subst (λ h. s.leaf < 2 ^ h) fifteen fits.leaf in omega arith
    ]
  where
    built : (code h : ℕ) → 5 ≤ code → code ≤ 7 → lms_height_of code ≡ Some h → (h ≡ 5) ⊎ ((h ≡ 10) ⊎ (h ≡ 15))
    built code h low high is = grind arith

pub same_signing : (s t : TreeSigning) → IsTreeSigning s → IsTreeSigning t → tree_words s ≡ tree_words t → s ≡ t
same_signing s t fs ft is =
    let typecode = decimal_injective s.typecode t.typecode (omega (arith, fs.built.1)) (omega (arith, ft.built.1)) cc in
    let ots = same_ots s.ots t.ots cc in
    let leaf = decimal_injective s.leaf t.leaf (leaf_is_small s fs) (leaf_is_small t ft) cc in
    let id = digits_once s.id t.id fs.id.1 ft.id.1 cc in
    let seed = digits_once s.seed t.seed fs.seed.1 ft.seed.1 cc in
    let body = spelled_once (bytes_word s.body) s.body t.body (fs.body, refl) (ft.body, cc) in
    let height : s.height ≡ t.height = cc (fs.height, ft.height, typecode) in
    λ i. record { typecode = typecode i; height = height i; ots = ots i; id = id i; seed = seed i; leaf = leaf i; body = body i }
