-- Questions on frames and statements, by the words of a line.
use Rattle.std.proofs.Common.{◌≡◌, ℕ, List, [], ◌∷◌, refl, sym, ap, ◌∙◌}
use Rattle.std.specs.Prelude.{codes}
use Rattle.text_defs.specs.Words.{Spells, bytes_word}
use Rattle.interop_frames.specs.Frames.{Answers, IsQuestion, OfFrame, OfStatement, Question, answer_to, frame_answer, spelled, statement_answer}
use Rattle.text_codec.proofs.Spelled.{spelled_once}

-- ---- frame

pub frame_answers : (word bytes reported : List ℕ) → Spells word bytes → reported ≡ frame_answer bytes → Answers (codes "frame" ∷ word ∷ []) reported
frame_answers word bytes reported s is = record {
  question = OfFrame bytes;
  fits = s.0;
  asked = ap (λ (w : List ℕ). codes "frame" ∷ w ∷ []) s.1;
  reported_is = is;
}

-- ---- statement

pub statement_answers : (word bytes reported : List ℕ) → Spells word bytes → reported ≡ statement_answer bytes
    → Answers (codes "statement" ∷ word ∷ []) reported
statement_answers word bytes reported s is = record {
  question = OfStatement bytes;
  fits = s.0;
  asked = ap (λ (w : List ℕ). codes "statement" ∷ w ∷ []) s.1;
  reported_is = is;
}

-- ---- one answer

pub one_answer : (words : List (List ℕ)) (x y : List ℕ) → Answers words x → Answers words y → x ≡ y
one_answer words x y a b = of a.question b.question a.fits b.fits a.asked b.asked a.reported_is b.reported_is
  where
    of : (p q : Question) → IsQuestion p → IsQuestion q → words ≡ spelled p → words ≡ spelled q → x ≡ answer_to p → y ≡ answer_to q → x ≡ y
    of (OfFrame m) (OfFrame n) fm fn is also t u = t ∙ ap frame_answer (spelled_once (bytes_word m) m n (fm, refl) (fn, cc)) ∙ sym u
    of (OfStatement m) (OfStatement n) fm fn is also t u = t ∙ ap statement_answer
        (spelled_once (bytes_word m) m n (fm, refl) (fn, cc)) ∙ sym u
    of (OfFrame m) (OfStatement n) fm fn is also t u = absurd cc
    of (OfStatement m) (OfFrame n) fm fn is also t u = absurd cc
