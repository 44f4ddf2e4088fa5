-- A line in parts: its first words, the others, and its end.
use Rattle.std.proofs.Common.{◌≡◌, ℕ, ◌<◌, ◌^◌, List, [], ◌∷◌, ◌++◌, map, refl, sym, ap, ◌∙◌, append_assoc}
use Rattle.std.specs.List.{flat_map, join_with_byte}
use Rattle.std.proofs.lemmas.List.{append-nil}
use Rattle.std.proofs.lemmas.List.Folds.{flat_map-map}
use Rattle.std.proofs.lemmas.Grind.{flat_map-append}
use Rattle.text_defs.specs.Words.{space, line_feed, line_text}
use Rattle.rp_base.specs.Pids.{members, mask_of}
use Rattle.rp_base.specs.Masks.{mask_of-members}
use Rattle.report_lines.proofs.Pieces.{behind, words-behind}
use Rattle.story_words.specs.declared.words.Word.{Word}
use Rattle.story_words.specs.Words.{spelled}

-- each word with the space before it
abbrev pub after_spaces : List (List ℕ) → List ℕ
after_spaces words = flat_map (λ w. space ∷ w) words

-- words of the code, each with the space before it
pub spelled-after : (words : List Word) → flat_map (λ w. space ∷ spelled w) words ≡ after_spaces (map spelled words)
spelled-after words = sym (flat_map-map (λ w. space ∷ w) spelled words)

-- two words, and those of the code behind them
pub two_and_more : (first second : List ℕ) (words : List Word) (before one two new : List ℕ) → one ≡ before ++ first
    → two ≡ one ++ space ∷ second
    → new ≡ two ++ flat_map (λ w. space ∷ spelled w) words → new ≡ before ++ join_with_byte space (first ∷ second ∷ map spelled words)
two_and_more first second words before one two new e f g =
    behind before (first ++ space ∷ second)
    (flat_map (λ w. space ∷ spelled w) words) two new (behind before first (space ∷ second) one two e f) g
    ∙ ap (λ (t : List ℕ). before ++ t)
    (append_assoc first (space ∷ second) (flat_map (λ w. space ∷ spelled w) words)
    ∙ ap (λ (t : List ℕ). first ++ space ∷ (second ++ t)) (spelled-after words)
    ∙ sym (words-behind space first (second ∷ map spelled words)))

-- one word, those of the code behind it, and the end
pub one_and_more : (first : List ℕ) (words : List Word) (before one two new : List ℕ) → one ≡ before ++ first
    → two ≡ one ++ flat_map (λ w. space ∷ spelled w) words → new ≡ two ++ line_feed ∷ []
    → new ≡ before ++ line_text (first ∷ map spelled words)
one_and_more first words before one two new e f g =
    behind before (first ++ flat_map (λ w. space ∷ spelled w) words)
    (line_feed ∷ []) two new (behind before first (flat_map (λ w. space ∷ spelled w) words) one two e f) g
    ∙ ap (λ (t : List ℕ). before ++ (t ++ line_feed ∷ []))
    (ap (λ (t : List ℕ). first ++ t) (spelled-after words) ∙ sym (words-behind space first (map spelled words)))

-- the words that a line begins with, and its end
pub ended : (words : List (List ℕ)) (before one new : List ℕ) → one ≡ before ++ join_with_byte space words → new ≡ one ++ line_feed ∷ []
    → new ≡ before ++ line_text words
ended words before one new e f = behind before (join_with_byte space words) (line_feed ∷ []) one new e f

-- more words behind those that a line begins with
pub more_words : (first : List ℕ) (head tail : List (List ℕ)) (before one new : List ℕ)
    → one ≡ before ++ join_with_byte space (first ∷ head)
    → new ≡ one ++ after_spaces tail → new ≡ before ++ join_with_byte space (first ∷ (head ++ tail))
more_words first head tail before one new e f =
    behind before (join_with_byte space (first ∷ head)) (after_spaces tail) one new e f
    ∙ ap (λ (t : List ℕ). before ++ t)
    (ap (λ (t : List ℕ). t ++ after_spaces tail) (words-behind space first head)
    ∙ append_assoc first (after_spaces head) (after_spaces tail)
    ∙ ap (λ (t : List ℕ). first ++ t) (sym (flat_map-append (λ (w : List ℕ). space ∷ w) head tail))
    ∙ sym (words-behind space first (head ++ tail)))

-- a line that ends with these words
pub with_tail : (first : List ℕ) (head tail : List (List ℕ)) (before one two new : List ℕ)
    → one ≡ before ++ join_with_byte space (first ∷ head)
    → two ≡ one ++ after_spaces tail → new ≡ two ++ line_feed ∷ [] → new ≡ before ++ line_text (first ∷ (head ++ tail))
with_tail first head tail before one two new e f g =
    ended (first ∷ (head ++ tail)) before two new (more_words first head tail before one two e f) g

-- the processes of a mask are those of the set that it is made of
pub named : (to : List ℕ) (mask : ℕ) → mask < 2 ^ 64 → members mask ≡ to → members (mask_of to) ≡ to
named to mask low is = ap (λ (ps : List ℕ). members (mask_of ps)) (sym is) ∙ ap members (mask_of-members mask low) ∙ is
