-- Questions on what trees in levels sign, by the words of a line.
use Rattle.std.proofs.Common.{◌≡◌, ℕ, Vec, Global, ◌<◌, List, [], ◌∷◌, Option, None, Some, Result, Ok, Err, refl, sym, ap, ◌∙◌, subst, arith}
use Rattle.std.specs.Prelude.{codes, IfOk}
use Rattle.std.specs.Option.{MatchOption, unwrap_or}
use Rattle.std.proofs.lemmas.Fmt.{decimal_injective}
use Rattle.signature_defs.specs.Lms.{lms_height_of}
use Rattle.signature_defs.specs.Secrets.{height_of}
use Rattle.signature_defs.specs.Hss.{hss_total, hss_valid}
use Rattle.rp_base.specs.Signer.{KeyKeeps}
use Rattle.lms_hss.specs.declared.key.HssKey.{HssKey}
use Rattle.interop_words.specs.declared.line_fault.LineFault.{LineFault}
use Rattle.lms_hss.specs.declared.faults.KeyFault.{KeyFault}
use Rattle.lms_hss.specs.Key.{IsMadeFrom, length_of, public_of, signature_of, total_of}
use Rattle.lms_hss.specs.Refusals.{refusal}
use Rattle.text_defs.specs.Words.{bytes_word}
use Rattle.text_codec.proofs.Spelled.{digits_once, spelled_once}
use Rattle.interop_signatures.specs.Views.{IsLevelsReady}
use Rattle.interop_signatures.specs.Levels.{IsMade, IsSpelled, LevelSigning, LevelsAskedBy, level_signed, level_words, secret}
use Rattle.interop_signatures.specs.Signatures.{Answers, IsQuestion, Question, SignByLevels, SignByTree, Verify, answer_to, spelled}
use Rattle.interop_signatures.proofs.SharedLaws.{same_ots}

-- ---- what is asked

abbrev pub sign_words : List ℕ → List ℕ → List ℕ → List ℕ → List ℕ → List ℕ → List ℕ → List (List ℕ)
sign_words l h w i seed c body = codes "hss" ∷ l ∷ h ∷ w ∷ i ∷ seed ∷ c ∷ body ∷ []

pub sign_answers : (l h w i seed c body reported : List ℕ) (s : LevelSigning) → LevelsAskedBy l h w i seed c body s → IsMade s × (reported ≡ level_signed s)
    → Answers (sign_words l h w i seed c body) reported
sign_answers l h w i seed c body reported s asked made =
    record {
      question = SignByLevels s;
      fits = (asked.fits, made.0);
      asked = ap (λ (ws : List (List ℕ)). codes "hss" ∷ ws) asked.words;
      reported_is = made.1;
    }

-- what is reported, where anything is
pub sign_reported : (r : Result (Vec ℕ Global) LineFault) (l h w i seed c body : List ℕ) (s : LevelSigning) → LevelsAskedBy l h w i seed c body s
    → IfOk r (λ reported. IsMade s × (reported.items ≡ level_signed s)) → IfOk r (λ reported. Answers (sign_words l h w i seed c body) reported.items)
sign_reported (Ok reported) l h w i seed c body s asked made = sign_answers l h w i seed c body reported.items s asked made
sign_reported (Err e) l h w i seed c body s asked made = tt

pub sign_asked : (l h w i seed c body reported : List ℕ) → Answers (sign_words l h w i seed c body) reported
    → (s : LevelSigning) × LevelsAskedBy l h w i seed c body s × IsMade s × (reported ≡ level_signed s)
sign_asked l h w i seed c body reported a = of a.question a.fits a.asked a.reported_is
  where
    of : (x : Question) → IsQuestion x → sign_words l h w i seed c body ≡ spelled x → reported ≡ answer_to x
        → (s : LevelSigning) × LevelsAskedBy l h w i seed c body s × IsMade s × (reported ≡ level_signed s)
    of (Verify scheme k b g) fits is t = absurd cc
    of (SignByTree s) fits is t = absurd cc
    of (SignByLevels s) fits is t = (s, record { fits = fits.0; words = cc }, fits.1, t)

-- ---- the key

-- where a key is made, nothing refuses it
pub granted : (o : Option KeyFault) (P : Type 0) (Q : KeyFault → Type 0) → ((e : KeyFault) → Q e → ⊥) → MatchOption o P Q → o ≡ None
granted None P Q none m = refl
granted (Some e) P Q none m = absurd (none e m)

-- a key of these has their trees' height
made_height : (s : LevelSigning) (key : HssKey) → IsMadeFrom s.levels s.typecode s.ots s.id s.seed key → key.plan.height ≡ height_of s.typecode
made_height s key from =
    let known : lms_height_of s.typecode ≡ Some key.plan.height = ap lms_height_of (sym from.plan.has_typecode) ∙ key.plan.known in
    sym (ap (λ (o : Option ℕ). unwrap_or o 0) known)

-- it makes as many signatures as these determine
pub made_total : (s : LevelSigning) (key : HssKey) → IsMadeFrom s.levels s.typecode s.ots s.id s.seed key → total_of key ≡ hss_total (secret s)
made_total s key from = rw (made_height s key from, from.plan.has_levels) refl

-- a key that was made from these, and counts the signatures before the asked one as made
pub ready : (s : LevelSigning) (made now : HssKey) → IsMadeFrom s.levels s.typecode s.ots s.id s.seed made
    → refusal s.levels s.typecode s.ots ≡ None → s.number < total_of made
    → KeyKeeps (public_of made) (public_of now) (length_of made) (length_of now) (signature_of made) (signature_of now) hss_valid hss_valid
    → now.used ≡ s.number → total_of now ≡ total_of made → IsLevelsReady s now
ready s made now from granted low kept used total =
    let plan = from.plan in
    let height = made_height s made from in
    record {
      made = record { made = granted; unspent = rw (made_total s made from) at low };
      public = kept.public_key ∙ rw (plan.has_levels, plan.has_typecode, plan.has_ots, height, plan.has_id, plan.has_seed) refl;
      next =
          ap (λ (f : ℕ → List ℕ → List ℕ). f now.used s.body) kept.signatures
          ∙ rw (used, plan.has_levels, plan.has_typecode, plan.has_ots, height, plan.has_id, plan.has_seed) refl;
      unspent = rw (used, total) low;
    }

-- ---- one answer

pub same_signing : (s t : LevelSigning) → IsSpelled s → IsSpelled t → level_words s ≡ level_words t → s ≡ t
same_signing s t fs ft is =
    let levels = decimal_injective s.levels t.levels (omega (arith, fs.levels.1)) (omega (arith, ft.levels.1)) cc in
    let typecode = decimal_injective s.typecode t.typecode (omega (arith, fs.typecode.1)) (omega (arith, ft.typecode.1)) cc in
    let ots = same_ots s.ots t.ots cc in
    let number = decimal_injective s.number t.number (omega (arith, fs.number)) (omega (arith, ft.number)) cc in
    let id = digits_once s.id t.id fs.id.1 ft.id.1 cc in
    let seed = digits_once s.seed t.seed fs.seed.1 ft.seed.1 cc in
    let body = spelled_once (bytes_word s.body) s.body t.body (fs.body, refl) (ft.body, cc) in
    λ i. record { levels = levels i; typecode = typecode i; ots = ots i; id = id i; seed = seed i; number = number i; body = body i }

-- the asked signing is the read one, so what cannot be made has no answer
pub not_made : (l h w i seed c body reported : List ℕ) (s : LevelSigning) → LevelsAskedBy l h w i seed c body s → (IsMade s → ⊥)
    → Answers (sign_words l h w i seed c body) reported → ⊥
not_made l h w i seed c body reported s asked none a =
    let other = sign_asked l h w i seed c body reported a in
    let same : other.0 ≡ s = same_signing other.0 s other.1.fits asked.fits (sym other.1.words ∙ asked.words) in
    none (subst IsMade same other.2)
