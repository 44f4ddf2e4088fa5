-- Rising numbers of processes are read of the words that spell them, and of no others.
use Rattle.std.proofs.Common.{◌≡◌, ℕ, zero, suc, ◌+◌, ◌<◌, ◌≤◌, List, [], ◌∷◌, ◌++◌, length, map, Option, Some, None, option_map, get_or, drop, refl, sym, ap, subst, ◌∙◌, append_assoc, add-one, drop-cons, arith}
use Rattle.std.specs.Prelude.{◌==◌, if◌then◌else◌, slice_index, All}
use Rattle.std.specs.Fmt.{decimal}
use Rattle.std.specs.List.Sorted.{IsStrictlyIncreasing}
use Rattle.std.proofs.lemmas.List.Elements.{All-cons, All-nil}
use Rattle.std.proofs.lemmas.Bool.{lt-ltb}
use Rattle.byte_defs.specs.Choices.{and_then}
use Rattle.rp_base.specs.Pids.{put_once}
use Rattle.text_defs.specs.Words.{number_within}
use Rattle.text_defs.proofs.Choosing.{map_some, some_is, then_some}
use Rattle.text_defs.proofs.Numbers.{number_within_found, number_within_spelled}
use Rattle.command_line.specs.Commands.{AreListed}
use Rattle.command_line.specs.Reading.{listed_of, rising_from}

-- rising from this number on, up to 63
abbrev Rises : ℕ → List ℕ → Type 0
Rises least [] = Unit {0}
Rises least (p ∷ ps) = (least ≤ p) × ((p ≤ 63) × Rises (p + 1) ps)

-- ---- what is read

from_found : (least : ℕ) (words : List (List ℕ)) (ps : List ℕ) → rising_from least words ≡ Some ps → (words ≡ map decimal ps) × Rises least ps
from_found least [] ps e = subst (λ qs. ([] ≡ map decimal qs) × Rises least qs) (some_is [] ps e) (refl, tt)
from_found least (word ∷ words) ps e =
    let p = then_some (λ q. option_map (λ qs. q ∷ qs) (rising_from (q + 1) words)) (number_within least 63 word) ps e in
    let rest = map_some (λ qs. p.0 ∷ qs) (rising_from (p.0 + 1) words) ps p.2 in
    let n = number_within_found least 63 word p.0 p.1 in
    let more = from_found (p.0 + 1) words rest.0 rest.1 in
    subst (λ qs. (word ∷ words ≡ map decimal qs) × Rises least qs) rest.2 ((λ i. n.0 i ∷ more.0 i), (n.1, (n.2, more.1)))

all_few : (least : ℕ) (ps : List ℕ) → Rises least ps → All (λ p. p ≤ 63) ps
all_few least [] r = All-nil (λ p. p ≤ 63)
all_few least (p ∷ ps) r = All-cons (λ p. p ≤ 63) p ps r.1.0 (all_few (p + 1) ps r.1.1)

all_rise : (least : ℕ) (ps : List ℕ) → Rises least ps → IsStrictlyIncreasing ps
all_rise least [] r k lt = absurd (omega (arith, lt))
all_rise least (p ∷ []) r k lt = absurd (omega (arith, lt))
all_rise least (p ∷ q ∷ ps) r zero lt = omega (arith, r.1.1.0)
all_rise least (p ∷ q ∷ ps) r (suc k) lt =
    let next : suc k + 1 ≡ suc (k + 1) = omega arith in
    subst (λ j. slice_index (q ∷ ps) k < slice_index (p ∷ q ∷ ps) j) (sym next) (all_rise (p + 1) (q ∷ ps) r.1.1 k (omega (arith, lt)))

some_of : (word : List ℕ) (words : List (List ℕ)) (ps : List ℕ) → word ∷ words ≡ map decimal ps → 1 ≤ length ps
some_of word words [] e = absurd cc
some_of word words (p ∷ ps) e = omega arith

pub listed_found : (words : List (List ℕ)) (ps : List ℕ) → listed_of words ≡ Some ps → (words ≡ map decimal ps) × AreListed ps
listed_found [] ps e = absurd cc
listed_found (word ∷ words) ps e =
    let found = from_found 0 (word ∷ words) ps e in
    (found.0, record { some = some_of word words ps found.0; rising = all_rise 0 ps found.1; few = all_few 0 ps found.1 })

-- ---- what is spelled

from_spelled : (least : ℕ) (ps : List ℕ) → Rises least ps → rising_from least (map decimal ps) ≡ Some ps
from_spelled least [] r = refl
from_spelled least (p ∷ ps) r =
    ap (λ o. and_then o (λ q. option_map (λ qs. q ∷ qs) (rising_from (q + 1) (map decimal ps))))
    (number_within_spelled least 63 p r.0 r.1.0 (omega (arith, r.1.0)))
    ∙ ap (option_map (λ qs. p ∷ qs)) (from_spelled (p + 1) ps r.1.1)

behind_first : (p : ℕ) (ps : List ℕ) → IsStrictlyIncreasing (p ∷ ps) → IsStrictlyIncreasing ps
behind_first p ps up k lt =
    let next : suc k + 1 ≡ suc (k + 1) = omega arith in
    subst (λ j. slice_index ps k < slice_index (p ∷ ps) j) next (up (suc k) (omega (arith, lt)))

rises : (least p : ℕ) (ps : List ℕ) → least ≤ p → IsStrictlyIncreasing (p ∷ ps) → All (λ q. q ≤ 63) (p ∷ ps) → Rises least (p ∷ ps)
rises least p [] low up few = (low, (few 0 0 (omega arith), tt))
rises least p (q ∷ ps) low up few =
    let lower : p < q = up 0 (omega arith) in (
      low,
      (
        few 0 0 (omega arith),
        rises (p + 1) q ps (omega (arith, lower)) (behind_first p (q ∷ ps) up) (λ k d lt. few (suc k) d (omega (arith, lt))),
      ),
    )

pub listed_spelled : (ps : List ℕ) → AreListed ps → listed_of (map decimal ps) ≡ Some ps
listed_spelled [] are = absurd (omega (arith, are.some))
listed_spelled (p ∷ ps) are = from_spelled 0 (p ∷ ps) (rises 0 p ps (omega arith) are.rising are.few)

-- ---- one after another

-- all are below this number
abbrev pub AreBelow : ℕ → List ℕ → Type 0
AreBelow least [] = Unit {0}
AreBelow least (q ∷ qs) = (q < least) × AreBelow least qs

below_later : (least p : ℕ) (qs : List ℕ) → least ≤ p → AreBelow least qs → AreBelow p qs
below_later least p [] low below = tt
below_later least p (q ∷ qs) low below = (omega (arith, low, below.0), below_later least p qs low below.1)

pub below_more : (least p : ℕ) (qs : List ℕ) → least ≤ p → AreBelow least qs → AreBelow (p + 1) (qs ++ p ∷ [])
below_more least p [] low below = (omega arith, tt)
below_more least p (q ∷ qs) low below = (omega (arith, low, below.0), below_more least p qs low below.1)

put_behind : (p : ℕ) (qs : List ℕ) → AreBelow p qs → put_once p qs ≡ qs ++ p ∷ []
put_behind p [] below = refl
put_behind p (q ∷ qs) below =
    ap (λ b. if b then q ∷ put_once p qs else if q == p then q ∷ qs else p ∷ q ∷ qs) (lt-ltb q p below.0)
    ∙ ap (λ t. q ∷ t) (put_behind p qs below.1)

-- a number that is not below those before it goes behind them
pub put_last : (least p : ℕ) (qs : List ℕ) → least ≤ p → AreBelow least qs → put_once p qs ≡ qs ++ p ∷ []
put_last least p qs low below = put_behind p qs (below_later least p qs low below)

-- these numbers, and then those
abbrev pub behind : List ℕ → Option (List ℕ) → Option (List ℕ)
behind qs others = option_map (λ ps. qs ++ ps) others

pub behind_none : (others : Option (List ℕ)) → behind [] others ≡ others
behind_none None = refl
behind_none (Some ps) = refl

behind_both : (p : ℕ) (qs : List ℕ) (others : Option (List ℕ)) → behind qs (option_map (λ ps. p ∷ ps) others) ≡ behind (qs ++ p ∷ []) others
behind_both p qs None = refl
behind_both p qs (Some ps) = ap (λ (t : List ℕ). let o : Option (List ℕ) = Some t in o) (sym (append_assoc qs (p ∷ []) ps))

-- one more
pub next_read : (least p : ℕ) (word : List ℕ) (words : List (List ℕ)) (qs : List ℕ) → number_within least 63 word ≡ Some p
    → behind qs (rising_from least (word ∷ words)) ≡ behind (qs ++ p ∷ []) (rising_from (p + 1) words)
next_read least p word words qs e =
    ap (λ o. behind qs (and_then o (λ q. option_map (λ ps. q ∷ ps) (rising_from (q + 1) words)))) e
    ∙ behind_both p qs (rising_from (p + 1) words)

-- none comes
pub none_read : (least : ℕ) (word : List ℕ) (words : List (List ℕ)) (qs : List ℕ) → number_within least 63 word ≡ None
    → behind qs (rising_from least (word ∷ words)) ≡ None
none_read least word words qs e = ap (λ o. behind qs (and_then o (λ q. option_map (λ ps. q ∷ ps) (rising_from (q + 1) words)))) e

pub at_least : (least p : ℕ) (word : List ℕ) → number_within least 63 word ≡ Some p → least ≤ p
at_least least p word e = (number_within_found least 63 word p e).1

-- the words from a place on
pub words_from : {W : Type 0} (f : W → List ℕ) (words : List W) (i : ℕ) (word : W) → i < length words → word ≡ get_or words i word
    → map f (drop i words) ≡ f word ∷ map f (drop (i + 1) words)
words_from {W} f words i word low at =
    let first : drop i words ≡ word ∷ drop (i + 1) words =
    rw (add-one, drop-cons words i word low) (ap (λ (w : W). w ∷ drop (suc i) words) (sym at)) in
    ap (map f) first

-- one word more, of a list in which the others were read
pub goes_on : (least p : ℕ) (word : List ℕ) (now words : List (List ℕ)) (qs more : List ℕ) (all : Option (List ℕ))
    → behind qs (rising_from least now) ≡ all → now ≡ word ∷ words → number_within least 63 word ≡ Some p → AreBelow least qs
    → more ≡ put_once p qs → (behind more (rising_from (p + 1) words) ≡ all) × AreBelow (p + 1) more
goes_on least p word now words qs more all read is e below put =
    let low = at_least least p word e in
    let last : more ≡ qs ++ p ∷ [] = put ∙ put_last least p qs low below in (
      ap (λ (l : List ℕ). behind l (rising_from (p + 1) words)) last ∙ sym (next_read least p word words qs e)
          ∙ ap (λ (ws : List (List ℕ)). behind qs (rising_from least ws)) (sym is) ∙ read,
      subst (AreBelow (p + 1)) (sym last) (below_more least p qs low below),
    )
