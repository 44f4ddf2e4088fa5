-- Lines that were read: no line feed is in them, and no more replies to the payload than may come. And what a line says, it says in its words.
use Rattle.std.proofs.Common.{◌≡◌, ℕ, ◌+◌, ◌-◌, ◌≤◌, ◌==◌, Bool, true, false, List, [], ◌∷◌, ◌++◌, length, Option, Some, None, Result, Ok, Err, refl, sym, ap, subst, ◌∙◌, arith, reverse}
use Rattle.std.specs.Prelude.{◌&&◌, ◌||◌, cond, filter, find, nat_lt, if◌then◌else◌}
use Rattle.std.specs.List.{list_any, onto_first}
use Rattle.std.proofs.lemmas.Bool.{eqb-true, eqb-false, or_from}
use Rattle.std.proofs.lemmas.List.{reverse-append}
use Rattle.std.proofs.lemmas.List.Folds.{list_any-append}
use Rattle.byte_defs.specs.Fields.{◌>>=◌, refuse_if}
use Rattle.text_defs.specs.Words.{line_feed, parts_of, words_of}
use Rattle.text_defs.proofs.Lines.{has_byte}
use Rattle.text_defs.proofs.Tests.{or_false}
use Rattle.kit_defs.specs.KitReading.{KitFault, Line, most_line_bytes}
use Rattle.store_defs.specs.Words.{most_state_line_bytes}
use Rattle.store_defs.specs.Asking.{line_words, most_replies}
use Rattle.store_question_defs.specs.Lines.{Lines, is_reply, said_words}
use Rattle.store_question_defs.specs.Inputs.{lines_from}

-- no line feed is in them
abbrev pub AreWithout : Lines → Type 0
AreWithout lines = list_any (has_byte line_feed) lines ≡ false

onto_none : (c : ℕ) (parts : Lines) → (c == line_feed) ≡ false → AreWithout parts → AreWithout (onto_first c parts)
onto_none c [] other none = or_from (has_byte line_feed (c ∷ [])) false (or_from (c == line_feed) false other refl) refl
onto_none c (part ∷ parts) other none =
    let both = or_false (has_byte line_feed part) (list_any (has_byte line_feed) parts) none in
    or_from (has_byte line_feed (c ∷ part)) (list_any (has_byte line_feed) parts) (or_from (c == line_feed) (has_byte line_feed part) other both.0) both.1

parts_none : (bytes : List ℕ) → AreWithout (parts_of bytes)
parts_none [] = refl
parts_none (c ∷ bytes) = of (parts_none bytes) (c == line_feed) refl
  where
    of : AreWithout (parts_of bytes) → (b : Bool) → (c == line_feed) ≡ b → AreWithout (cond b ([] ∷ parts_of bytes) (onto_first c (parts_of bytes)))
    of none true is = none
    of none false is = onto_none c (parts_of bytes) is none

-- ---- what was read

pub ok_is : {A : Type 0} (x y : A) → (let r : Result A KitFault = Ok x in r) ≡ Ok y → x ≡ y
ok_is x y e = cc

pub bind_is : {A B : Type 0} (r : Result A KitFault) (f : A → Result B KitFault) (b : B) → (r >>= f) ≡ Ok b → (a : A) × (r ≡ Ok a) × (f a ≡ Ok b)
bind_is (Ok a) f b e = (a, refl, e)
bind_is (Err fault) f b e = absurd cc

-- the parts are these lines and an empty rest
record AreRead (payload : List ℕ) (left : ℕ) (parts lines : Lines) : Type 0 where
  parts_are : parts ≡ lines ++ [] ∷ []
  few : length (filter (is_reply payload) lines) ≤ left

fewer : (b : Bool) (left size : ℕ) → (b && (left == 0)) ≡ false → size ≤ (if b then left - 1 else left) → cond b (size + 1) size ≤ left
fewer true left size some few = let more = eqb-false left 0 some in omega (arith, few, more)
fewer false left size some few = few

counted : (b : Bool) (line : List ℕ) (lines : Lines) → length (cond b (line ∷ lines) lines) ≡ cond b (length lines + 1) (length lines)
counted true line lines = omega arith
counted false line lines = refl

none_is : (rest : List ℕ) → (length rest == 0) ≡ true → rest ≡ []
none_is [] e = refl
none_is (b ∷ rest) e = absurd (omega (arith, eqb-true (length (b ∷ rest)) 0 e))

are_read : (payload : List ℕ) (n left : ℕ) (parts lines : Lines) → lines_from payload n left parts ≡ Ok lines → AreRead payload left parts lines
unfolding lines_from
are_read payload n left [] lines e = absurd cc
are_read payload n left (rest ∷ []) lines e = of (length rest == 0) refl e
  where
    of : (b : Bool) → (length rest == 0) ≡ b → (let r : Result Lines KitFault = if b then Ok [] else Err (Line n) in r) ≡ Ok lines
        → AreRead payload left (rest ∷ []) lines
    of true is e =
        let same : [] ≡ lines = ok_is [] lines e in
        record {
          parts_are = ap (λ (r : List ℕ). r ∷ []) (none_is rest is) ∙ ap (λ (ls : Lines). ls ++ [] ∷ []) same;
          few = subst (λ (ls : Lines). length (filter (is_reply payload) ls) ≤ left) same (omega arith);
        }
    of false is e = absurd cc
are_read payload n left (line ∷ next ∷ more) lines e =
    of (λ m k ls f. are_read payload m k (next ∷ more) ls f) (nat_lt most_state_line_bytes (length line)) (is_reply payload line && (left == 0)) refl e
  where
    after : Result Lines KitFault
    after = lines_from payload (n + 1) (if is_reply payload line then left - 1 else left) (next ∷ more) >>= λ others. Ok (line ∷ others)

    Again : Type 0
    Again = (m k : ℕ) (ls : Lines) → lines_from payload m k (next ∷ more) ≡ Ok ls → AreRead payload k (next ∷ more) ls

    of : Again → (long many : Bool) → (is_reply payload line && (left == 0)) ≡ many
        → (refuse_if (long || many) (Line n) >>= λ _. after) ≡ Ok lines → AreRead payload left (line ∷ next ∷ more) lines
    of again true many is e = absurd cc
    of again false true is e = absurd cc
    of again false false is e =
        let found = bind_is (lines_from payload (n + 1) (if is_reply payload line then left - 1 else left) (next ∷ more))
        (λ others. Ok (line ∷ others)) lines e in
        let same : line ∷ found.0 ≡ lines = ok_is (line ∷ found.0) lines found.2 in
        let rest = again (n + 1) (if is_reply payload line then left - 1 else left) found.0 found.1 in
        record {
          parts_are = ap (λ (ps : Lines). line ∷ ps) rest.parts_are ∙ ap (λ (ls : Lines). ls ++ [] ∷ []) same;
          few = subst (λ (ls : Lines). length (filter (is_reply payload) ls) ≤ left) same
              (subst (λ (k : ℕ). k ≤ left) (sym (counted (is_reply payload line) line (filter (is_reply payload) found.0)))
              (fewer (is_reply payload line) left (length (filter (is_reply payload) found.0)) is rest.few));
        }

pub lines_read : (payload rest : List ℕ) (n : ℕ) (lines : Lines) → lines_from payload n most_replies (parts_of rest) ≡ Ok lines
    → AreWithout lines × (length (filter (is_reply payload) lines) ≤ most_replies)
lines_read payload rest n lines e =
    let read = are_read payload n most_replies (parts_of rest) lines e in
    let none : list_any (has_byte line_feed) (lines ++ [] ∷ []) ≡ false = subst AreWithout read.parts_are (parts_none rest) in
    let parts = sym (list_any-append (has_byte line_feed) lines ([] ∷ [])) ∙ none in
    ((or_false (list_any (has_byte line_feed) lines) (list_any (has_byte line_feed) ([] ∷ [])) parts).0, read.few)

-- ---- lines that are picked

pub filter_without : (test : List ℕ → Bool) (lines : Lines) → AreWithout lines → AreWithout (filter test lines)
filter_without test [] none = refl
filter_without test (line ∷ lines) none =
    let both = or_false (has_byte line_feed line) (list_any (has_byte line_feed) lines) none in
    of (test line) both.0 (filter_without test lines both.1)
  where
    of : (b : Bool) → has_byte line_feed line ≡ false → AreWithout (filter test lines)
        → AreWithout (cond b (line ∷ filter test lines) (filter test lines))
    of true first rest = or_from (has_byte line_feed line) (list_any (has_byte line_feed) (filter test lines)) first rest
    of false first rest = rest

-- a line that is found passes the test, and has no line feed where none has
pub line_found : (test : List ℕ → Bool) (lines : Lines) (line : List ℕ) → AreWithout lines → find test lines ≡ Some line
    → (test line ≡ true) × (has_byte line_feed line ≡ false)
line_found test [] line none e = absurd cc
line_found test (first ∷ lines) line none e =
    let both = or_false (has_byte line_feed first) (list_any (has_byte line_feed) lines) none in
    of (λ f. line_found test lines line both.1 f) both.0 (test first) refl e
  where
    of : (find test lines ≡ Some line → (test line ≡ true) × (has_byte line_feed line ≡ false)) → has_byte line_feed first ≡ false
        → (b : Bool) → test first ≡ b → (let o : Option (List ℕ) = cond b (Some first) (find test lines) in o) ≡ Some line
        → (test line ≡ true) × (has_byte line_feed line ≡ false)
    of again feed true is e =
        let same : first ≡ line = some_is first line e in
        subst (λ (l : List ℕ). (test l ≡ true) × (has_byte line_feed l ≡ false)) same (is, feed)
      where
        some_is : (a b : List ℕ) → (let o : Option (List ℕ) = Some a in o) ≡ Some b → a ≡ b
        some_is a b e = cc
    of again feed false is e = again e

pub reverse_without : (lines : Lines) → AreWithout lines → AreWithout (reverse lines)
reverse_without [] none = refl
reverse_without (line ∷ lines) none =
    let both = or_false (has_byte line_feed line) (list_any (has_byte line_feed) lines) none in
    subst AreWithout (sym (reverse-append (line ∷ []) lines))
    (list_any-append (has_byte line_feed) (reverse lines) (line ∷ [])
    ∙ or_from (list_any (has_byte line_feed) (reverse lines)) (list_any (has_byte line_feed) (line ∷ [])) (reverse_without lines both.1)
    (or_from (has_byte line_feed line) false both.0 refl))

-- ---- words

-- what is said in the words of a line, where no words say nothing: the line is not too long
pub said_in : {A : Type 0} (f : Lines → Option A) (line : List ℕ) (a : A) → f [] ≡ None → f (said_words line) ≡ Some a
    → (nat_lt most_line_bytes (length line) ≡ false) × (f (words_of line) ≡ Some a)
said_in {A = A} f line a nothing e = of (nat_lt most_line_bytes (length line)) refl e
  where
    of : (b : Bool) → nat_lt most_line_bytes (length line) ≡ b → f (if b then [] else words_of line) ≡ Some a
        → (nat_lt most_line_bytes (length line) ≡ false) × (f (words_of line) ≡ Some a)
    of true is e = absurd (apart (f []) nothing e)
      where
        apart : (o : Option A) → o ≡ None → o ≡ Some a → ⊥
        apart o none some = absurd cc
    of false is e = (is, e)

pub short_words : (n : ℕ) (line : List ℕ) → nat_lt most_line_bytes (length line) ≡ false → line_words n line ≡ Ok (words_of line)
short_words n line short = ap (λ (b : Bool). let r : Result Lines KitFault = if b then Err (Line n) else Ok (words_of line) in r) short
