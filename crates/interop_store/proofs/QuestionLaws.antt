-- Questions on a store, by the words of a line.
use Rattle.std.proofs.Common.{◌≡◌, ℕ, zero, suc, ◌+◌, ◌<◌, ◌≤◌, List, [], ◌∷◌, ◌++◌, length, get_or, map, take, Bor, Vec, Global, refl, sym, ap, subst, ◌∙◌, arith}
use Rattle.std.specs.Prelude.{codes}
use Rattle.std.specs.List.{AllByRecursion}
use Rattle.std.proofs.lemmas.List.{length-map, map-append, take_more}
use Rattle.hex.specs.Hex.{IsBytes}
use Rattle.text_defs.specs.Words.{Spells, bytes_word}
use Rattle.text_codec.proofs.Spelled.{spelled_once}
use Rattle.interop_store.specs.Telling.{apply_words, payloads_in, reply_answer, state_answer}
use Rattle.interop_store.specs.Questions.{Answers, IsQuestion, OfApply, OfReply, OfState, Question, SpellEach, answer_to, spelled}

-- the letters of words that are lent
abbrev pub letters : List (Bor (List ℕ)) → List (List ℕ)
letters ws = map (λ w. w.now) ws

-- ---- words that are read, one after the other

spell-more : (ws ps : List (List ℕ)) (w p : List ℕ) → SpellEach ws ps → Spells w p → SpellEach (ws ++ w ∷ []) (ps ++ p ∷ [])
spell-more ws ps w p s one =
    (each ps s.0, (λ i. s.1 i ++ one.1 i ∷ []) ∙ sym (map-append bytes_word ps (p ∷ [])))
  where
    each : (ps : List (List ℕ)) → AllByRecursion IsBytes ps → AllByRecursion IsBytes (ps ++ p ∷ [])
    each [] all = (one.0, tt)
    each (q ∷ ps) all = (all.0, each ps all.1)

-- one more was read
pub next-read : (ws : List (Bor (List ℕ))) (i : ℕ) (w : Bor (List ℕ)) (ps : List (Vec ℕ Global)) (p : Vec ℕ Global) → i < length ws
    → w ≡ get_or ws i w → SpellEach (letters (take i ws)) (payloads_in ps) → Spells w.now p.items
    → SpellEach (letters (take (i + 1) ws)) (payloads_in (ps ++ p ∷ []))
next-read ws i w ps p lt is so one =
    let words : letters (take (i + 1) ws) ≡ letters (take i ws) ++ w.now ∷ [] =
    ap letters (take_more ws i w lt ∙ ap (λ (v : Bor (List ℕ)). take i ws ++ v ∷ []) (sym is))
    ∙ map-append (λ (v : Bor (List ℕ)). v.now) (take i ws) (w ∷ []) in
    let payloads : payloads_in (ps ++ p ∷ []) ≡ payloads_in ps ++ p.items ∷ [] = map-append (λ (v : Vec ℕ Global). v.items) ps (p ∷ []) in
    subst (λ (l : List (List ℕ)). SpellEach l (payloads_in (ps ++ p ∷ []))) (sym words)
    (subst (SpellEach (letters (take i ws) ++ w.now ∷ [])) (sym payloads) (spell-more (letters (take i ws)) (payloads_in ps) w.now p.items so one))

-- where all words spell bytes, so does each
spelled-at : (ws : List (Bor (List ℕ))) (i : ℕ) (d : Bor (List ℕ)) (found : List (List ℕ)) → i < length ws → SpellEach (letters ws) found
    → (bytes : List ℕ) × Spells (get_or ws i d).now bytes
spelled-at [] i d found lt s = absurd (omega (arith, lt))
spelled-at (w ∷ ws) i d [] lt s = let none : w.now ∷ letters ws ≡ [] = s.1 in absurd cc
spelled-at (w ∷ ws) zero d (p ∷ found) lt s =
    let all : w.now ∷ letters ws ≡ bytes_word p ∷ map bytes_word found = s.1 in
    let first : w.now ≡ bytes_word p = cc in
    (p, (s.0.0, first))
spelled-at (w ∷ ws) (suc i) d (p ∷ found) lt s =
    let all : w.now ∷ letters ws ≡ bytes_word p ∷ map bytes_word found = s.1 in
    let rest : letters ws ≡ map bytes_word found = cc in
    spelled-at ws i d found (omega (arith, lt)) (s.0.1, rest)

pub none-spelled : (ws : List (Bor (List ℕ))) (i : ℕ) (d : Bor (List ℕ)) → i < length ws
    → ((bytes : List ℕ) → Spells (get_or ws i d).now bytes → ⊥) → (found : List (List ℕ)) → SpellEach (letters ws) found → ⊥
none-spelled ws i d lt none found s =
    let one = spelled-at ws i d found lt s in
    none one.0 one.1

-- no words are those of two lists of payloads
each-once : (ps qs : List (List ℕ)) → AllByRecursion IsBytes ps → AllByRecursion IsBytes qs → map bytes_word ps ≡ map bytes_word qs → ps ≡ qs
each-once [] [] f g e = refl
each-once [] (q ∷ qs) f g e = absurd cc
each-once (p ∷ ps) [] f g e = absurd cc
each-once (p ∷ ps) (q ∷ qs) f g e =
    let all : bytes_word p ∷ map bytes_word ps ≡ bytes_word q ∷ map bytes_word qs = e in
    let first : bytes_word p ≡ bytes_word q = cc in
    let rest : map bytes_word ps ≡ map bytes_word qs = cc in
    let one : p ≡ q = spelled_once (bytes_word p) p q (f.0, refl) (g.0, first) in
    let others : ps ≡ qs = each-once ps qs f.1 g.1 rest in
    λ i. one i ∷ others i

-- ---- what is answered

pub apply_answers : (words : List (Bor (List ℕ))) (payloads : List (List ℕ)) (reported : List ℕ) → 1 ≤ length words
    → SpellEach (letters words) payloads → reported ≡ apply_words payloads → Answers (codes "apply" ∷ letters words) reported
apply_answers words payloads reported some s is = record {
  question = OfApply payloads;
  fits = (omega (arith, some, ap length s.1, length-map words (λ (w : Bor (List ℕ)). w.now), length-map payloads bytes_word), s.0);
  asked = ap (λ (ws : List (List ℕ)). codes "apply" ∷ ws) s.1;
  reported_is = is;
}

pub reply_answers : (word bytes reported : List ℕ) → Spells word bytes → reported ≡ reply_answer bytes → Answers (codes "reply" ∷ word ∷ []) reported
reply_answers word bytes reported s is = record {
  question = OfReply bytes;
  fits = s.0;
  asked = ap (λ (w : List ℕ). codes "reply" ∷ w ∷ []) s.1;
  reported_is = is;
}

pub state_answers : (word bytes reported : List ℕ) → Spells word bytes → reported ≡ state_answer bytes → Answers (codes "state" ∷ word ∷ []) reported
state_answers word bytes reported s is = record {
  question = OfState bytes;
  fits = s.0;
  asked = ap (λ (w : List ℕ). codes "state" ∷ w ∷ []) s.1;
  reported_is = is;
}

-- ---- one answer

-- the first letter of the first word, the words behind it, and the first of these
abbrev initial : List (List ℕ) → ℕ
initial ((letter ∷ word) ∷ words) = letter
initial _ = 0

abbrev behind : List (List ℕ) → List (List ℕ)
behind [] = []
behind (word ∷ words) = words

abbrev second : List (List ℕ) → List ℕ
second (first ∷ word ∷ words) = word
second _ = []

pub one_answer : (words : List (List ℕ)) (x y : List ℕ) → Answers words x → Answers words y → x ≡ y
one_answer words x y a b = of a.question b.question a.fits b.fits (sym a.asked ∙ b.asked) a.reported_is b.reported_is
  where
    of : (p q : Question) → IsQuestion p → IsQuestion q → spelled p ≡ spelled q → x ≡ answer_to p → y ≡ answer_to q → x ≡ y
    of (OfApply ps) (OfApply qs) fm fn is t u =
        let same : map bytes_word ps ≡ map bytes_word qs = ap behind is in
        t ∙ ap apply_words (each-once ps qs fm.1 fn.1 same) ∙ sym u
    of (OfReply m) (OfReply n) fm fn is t u =
        let same : bytes_word m ≡ bytes_word n = ap second is in
        t ∙ ap reply_answer (spelled_once (bytes_word m) m n (fm, refl) (fn, same)) ∙ sym u
    of (OfState m) (OfState n) fm fn is t u =
        let same : bytes_word m ≡ bytes_word n = ap second is in
        t ∙ ap state_answer (spelled_once (bytes_word m) m n (fm, refl) (fn, same)) ∙ sym u
    of (OfApply ps) (OfReply n) fm fn is t u = let letter : 97 ≡ 114 = ap initial is in absurd (omega (arith, letter))
    of (OfApply ps) (OfState n) fm fn is t u = let letter : 97 ≡ 115 = ap initial is in absurd (omega (arith, letter))
    of (OfReply m) (OfApply qs) fm fn is t u = let letter : 114 ≡ 97 = ap initial is in absurd (omega (arith, letter))
    of (OfReply m) (OfState n) fm fn is t u = let letter : 114 ≡ 115 = ap initial is in absurd (omega (arith, letter))
    of (OfState m) (OfApply qs) fm fn is t u = let letter : 115 ≡ 97 = ap initial is in absurd (omega (arith, letter))
    of (OfState m) (OfReply n) fm fn is t u = let letter : 115 ≡ 114 = ap initial is in absurd (omega (arith, letter))
