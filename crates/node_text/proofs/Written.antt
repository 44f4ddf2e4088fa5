-- A text that grows word by word.
use Rattle.std.proofs.Common.{◌≡◌, ℕ, List, [], ◌∷◌, ◌++◌, codes, map, take, length, refl, sym, ap, ◌∙◌, Result, Ok, Err}
use Rattle.std.specs.Prelude.{OnErr}
use Rattle.std.specs.List.{flat_map}
use Rattle.std.proofs.lemmas.List.{append-nil}
use Rattle.std.proofs.Math.Seq.{take-append_seam}
use Rattle.std.proofs.lemmas.Grind.{flat_map-append}
use Rattle.std.specs.Fmt.{decimal}
use Rattle.text_defs.specs.Words.{space, line_feed, line_text, bytes_word}
use Rattle.view_table.specs.Views.{as_view}
use Rattle.replay_defs.specs.Reports.{view_line}
use Rattle.report_lines.proofs.Pieces.{behind, words-behind}
use Rattle.node_text.specs.declared.words.Word.{Word}
use Rattle.node_text.specs.declared.words.Word.TheVariants.{Text, Number, Bytes, Processes}
use Rattle.node_text.specs.Words.{GoesOn, spaced, spelled, spelled_after}

-- ---- what was there before stays at the front

-- what holds wherever a call fails
pub on_err : {A E P : Type 0} (r : Result A E) → P → OnErr r P
on_err (Ok x) p = tt
on_err (Err e) p = p

pub goes_on-same : (before now : List ℕ) → now ≡ before → GoesOn before now
goes_on-same before now e = ([], e ∙ sym (append-nil before))

pub goes_on-by : (before a now : List ℕ) → now ≡ before ++ a → GoesOn before now
goes_on-by before a now e = (a, e)

pub goes_on-more : (before a one now : List ℕ) → one ≡ before ++ a → GoesOn one now → GoesOn before now
goes_on-more before a one now e g = (a ++ g.0, behind before a g.0 one now e g.1)

-- and cutting the text to its old length brings it back
pub rewound : (before now : List ℕ) → GoesOn before now → take (length before) now ≡ before
rewound before now g = ap (take (length before)) g.1 ∙ take-append_seam before g.0

-- ---- a line

one-after : (word : List ℕ) → space ∷ word ≡ spaced (word ∷ [])
one-after word = sym (append-nil (space ∷ word))

word-after : (w : Word) → spelled_after w ≡ spaced (spelled w)
word-after (Text text) = one-after text.now
word-after (Number n) = one-after (decimal n)
word-after (Bytes bytes) = one-after (bytes_word bytes.now)
word-after (Processes ps) = refl

words-after : (words : List Word) → flat_map spelled_after words ≡ spaced (flat_map spelled words)
words-after [] = refl
words-after (w ∷ ws) = (λ i. word-after w i ++ words-after ws i)
    ∙ sym (flat_map-append (λ (w : List ℕ). space ∷ w) (spelled w) (flat_map spelled ws))

-- a name, the words behind it, and the end
pub line-written : (name : List ℕ) (words : List Word) (before one two new : List ℕ) → one ≡ before ++ name
    → two ≡ one ++ flat_map spelled_after words → new ≡ two ++ line_feed ∷ []
    → new ≡ before ++ line_text (name ∷ flat_map spelled words)
line-written name words before one two new e f g =
    let rest : List ℕ = flat_map spelled_after words in
    behind before (name ++ rest) (line_feed ∷ []) two new (behind before name rest one two e f) g
    ∙ ap (λ (t : List ℕ). before ++ (t ++ line_feed ∷ []))
    (ap (λ (t : List ℕ). name ++ t) (words-after words) ∙ sym (words-behind space name (flat_map spelled words)))

-- the line of a view, of which each member has a word
pub view-written : (me view : ℕ) (members : List ℕ) (before new : List ℕ) (word : Word) (n : ℕ) → word ≡ Number me → n ≡ view
    → new ≡ before ++ line_text (codes "view" ∷ (spelled word ++ (decimal n ∷ codes ":" ∷ (map decimal members ++ []))))
    → new ≡ before ++ view_line me (as_view view members)
view-written me view members before new word n w v e =
    e ∙ (λ i. before ++ line_text (codes "view" ∷ (spelled (w i) ++ (decimal (v i) ∷ codes ":" ∷ append-nil (map decimal members) i))))
