-- Questions on journals and datagrams, by the words of a line.
use Rattle.std.proofs.Common.{◌≡◌, ℕ, true, nat_eq, List, [], ◌∷◌, length, get_or, map, Bor, refl, sym, ap, subst, ◌∙◌, arith}
use Rattle.std.specs.Prelude.{codes}
use lib.Pointwise.{pointwise}
use Rattle.std.proofs.lemmas.Slice.Eq.{bytes_eq-Decides}
use Rattle.hex.specs.Hex.{encode_lower}
use Rattle.text_defs.specs.Words.{AreBytes, Spells, bytes_word}
use Rattle.text_codec.proofs.Spelled.{digits_once, spelled_once}
use Rattle.interop_node.specs.Journals.{SaysOfJournal}
use Rattle.interop_node.specs.Datagrams.{datagram_answer}
use Rattle.interop_node.specs.Questions.{Answers, IsAnswerTo, IsQuestion, OfDatagram, OfJournal, Question, spelled}
use Rattle.interop_node.proofs.JournalLaws.{one_said}

pub journal_answers : (word bytes reported : List ℕ) → Spells word bytes → SaysOfJournal bytes reported
    → Answers (codes "journal" ∷ word ∷ []) reported
journal_answers word bytes reported s says = record {
  question = OfJournal bytes;
  fits = s.0;
  asked = ap (λ (w : List ℕ). codes "journal" ∷ w ∷ []) s.1;
  is_reported = says;
}

pub datagram_answers : (key_word word key bytes reported : List ℕ) → AreBytes 32 key → key_word ≡ encode_lower key → Spells word bytes
    → reported ≡ datagram_answer key bytes → Answers (codes "datagram" ∷ key_word ∷ word ∷ []) reported
datagram_answers key_word word key bytes reported fits spells s is =
    record {
      question = OfDatagram key bytes;
      fits = (fits, s.0);
      asked = ap (λ (w : List ℕ). codes "datagram" ∷ w ∷ word ∷ []) spells ∙ ap
          (λ (w : List ℕ). codes "datagram" ∷ encode_lower key ∷ w ∷ []) s.1;
      is_reported = is;
    }

-- ---- the words of a line

pub one : {A B : Type 0} (f : A → B) (xs : List A) (d : A) → length xs ≡ 1 → map f xs ≡ f (get_or xs 0 d) ∷ []
one f (a ∷ []) d is = refl
one f _ d is = absurd (omega arith)

pub two : {A B : Type 0} (f : A → B) (xs : List A) (d : A) → length xs ≡ 2 → map f xs ≡ f (get_or xs 0 d) ∷ f (get_or xs 1 d) ∷ []
two f (a ∷ b ∷ []) d is = refl
two f _ d is = absurd (omega arith)

-- the first word is this one
pub begun : (words rest : List (Bor (List ℕ))) (v : Bor (List ℕ)) (as_slice word : List ℕ) → words ≡ v ∷ rest
    → true ≡ pointwise nat_eq v.now as_slice → as_slice ≡ word
    → map (λ w. w.now) words ≡ word ∷ map (λ w. w.now) rest
begun words rest v as_slice word is same spelled =
    let first : v.now ≡ word = (bytes_eq-Decides v.now as_slice).0 (sym same) ∙ spelled in
    ap (map (λ (w : Bor (List ℕ)). w.now)) is ∙ ap (λ (w : List ℕ). w ∷ map (λ (u : Bor (List ℕ)). u.now) rest) first

-- ---- one answer

pub one_answer : (words : List (List ℕ)) (x y : List ℕ) → Answers words x → Answers words y → x ≡ y
one_answer words x y a b = of a.question b.question a.fits b.fits a.asked b.asked a.is_reported b.is_reported
  where
    of : (p q : Question) → IsQuestion p → IsQuestion q → words ≡ spelled p → words ≡ spelled q → IsAnswerTo p x → IsAnswerTo q y → x ≡ y
    of (OfJournal m) (OfJournal n) fm fn is also t u = one_said m x y t
        (subst (λ (bytes : List ℕ). SaysOfJournal bytes y) (sym (spelled_once (bytes_word m) m n (fm, refl) (fn, cc))) u)
    of (OfDatagram k m) (OfDatagram l n) fm fn is also t u =
        let key : k ≡ l = digits_once k l fm.0.1 fn.0.1 cc in
        let bytes = spelled_once (bytes_word m) m n (fm.1, refl) (fn.1, cc) in
        t ∙ ap (λ (k : List ℕ). datagram_answer k m) key ∙ ap (datagram_answer l) bytes ∙ sym u
    of (OfJournal m) (OfDatagram l n) fm fn is also t u = absurd cc
    of (OfDatagram k m) (OfJournal n) fm fn is also t u = absurd cc
