-- A line, piece by piece.
use Rattle.std.proofs.Common.{◌≡◌, ℕ, ◌<◌, ◌≤◌, List, [], ◌∷◌, ◌++◌, length, refl, sym, ap, ◌∙◌, append_assoc, arith}
use Rattle.std.proofs.lemmas.Fmt.{length-decimal-le}
use Rattle.std.specs.Fmt.{decimal}
use Rattle.text_defs.specs.Words.{space, line_feed, line_text}
use Rattle.store_words.specs.Lines.{head_of}

-- the number of a process has two digits at most
pub short_process : (p : ℕ) → p < 64 → length (decimal p) ≤ 2
short_process p few = length-decimal-le 2 p (omega arith) (omega (arith, few)) (omega (arith, few))

-- and one below 256 three
pub short_count : (n : ℕ) → n < 256 → length (decimal n) ≤ 3
short_count n few = length-decimal-le 3 n (omega arith) (omega (arith, few)) (omega (arith, few))

-- its pieces, one after the other
pub line_written : (old name said head text line : List ℕ) (p : ℕ) → head ≡ old ++ head_of name p → text ≡ head ++ said
    → line ≡ text ++ line_feed ∷ [] → line ≡ old ++ line_text (name ∷ decimal p ∷ said ∷ [])
line_written old name said head text line p first then last =
    last
    ∙ ap (λ t. t ++ line_feed ∷ []) (then ∙ ap (λ t. t ++ said) first ∙ append_assoc old (head_of name p) said)
    ∙ append_assoc old (head_of name p ++ said) (line_feed ∷ [])
    ∙ ap (λ t. old ++ (t ++ line_feed ∷ [])) (append_assoc name (space ∷ (decimal p ++ space ∷ [])) said
    ∙ ap (λ t. name ++ space ∷ t) (append_assoc (decimal p) (space ∷ []) said))

-- with a number after them
pub count_written : (old name said head text spaced counted line : List ℕ) (p n : ℕ) → head ≡ old ++ head_of name p → text ≡ head ++ said
    → spaced ≡ text ++ space ∷ [] → counted ≡ spaced ++ decimal n → line ≡ counted ++ line_feed ∷ []
    → line ≡ old ++ line_text (name ∷ decimal p ∷ said ∷ decimal n ∷ [])
count_written old name said head text spaced counted line p n first then next number last =
    let more : counted ≡ head ++ (said ++ space ∷ decimal n) =
    number ∙ ap (λ t. t ++ decimal n) (next ∙ ap (λ t. t ++ space ∷ []) then)
    ∙ append_assoc (head ++ said) (space ∷ []) (decimal n)
    ∙ append_assoc head said (space ∷ decimal n) in
    line_written old name (said ++ space ∷ decimal n) head counted line p first more last
