-- Lines, piece by piece.
use Rattle.std.proofs.Common.{◌≡◌, ℕ, List, [], ◌∷◌, ◌++◌, codes, refl, sym, ap, ◌∙◌, append_assoc}
use Rattle.std.specs.Prelude.{Some}
use Rattle.std.specs.Fmt.{decimal, digits}
use Rattle.std.specs.List.{join_with_byte}
use Rattle.hex.specs.Hex.{encode_lower}
use Rattle.text_defs.specs.Words.{line_feed, line_text, space}
use Rattle.store_defs.specs.Votes.{Content}
use Rattle.store_defs.specs.Asking.{answer_text}

-- the number of the status
pub seven : decimal 7 ≡ codes "7"
unfolding digits
seven = refl

-- a stop's line
pub stop_written : (word number one two new : List ℕ) → one ≡ codes "stop 7 " ++ word → two ≡ one ++ space ∷ number
    → new ≡ two ++ line_feed ∷ [] → new ≡ line_text (codes "stop" ∷ decimal 7 ∷ word ∷ number ∷ [])
stop_written word number one two new e f g =
    g ∙ ap (λ (t : List ℕ). t ++ line_feed ∷ []) (f ∙ ap (λ (t : List ℕ). t ++ space ∷ number) e ∙ append_assoc (codes "stop 7 ") word (space ∷ number))
    ∙ ap (λ (t : List ℕ). line_text (codes "stop" ∷ t ∷ word ∷ number ∷ [])) (sym seven)

-- what is behind the view's number
abbrev pub content_words : Content → List ℕ
content_words c = space ∷ decimal c.place ++ (space ∷ decimal c.position ++ space ∷ encode_lower c.answer)

-- an answer's line
pub answer_written : (x : ℕ) (c : Content) (one two new : List ℕ) → one ≡ codes "answer" ++ space ∷ decimal x → two ≡ one ++ content_words c
    → new ≡ two ++ line_feed ∷ [] → new ≡ answer_text x (Some c)
answer_written x c one two new e f g =
    g ∙ ap (λ (t : List ℕ). t ++ line_feed ∷ []) (f ∙ ap (λ (t : List ℕ). t ++ content_words c) e
    ∙ append_assoc (codes "answer") (space ∷ decimal x) (content_words c))

-- the words of a content
pub content_written : (old one two three new place position answer : List ℕ) → one ≡ old ++ space ∷ place → two ≡ one ++ space ∷ position
    → three ≡ two ++ space ∷ [] → new ≡ three ++ answer → new ≡ old ++ (space ∷ place ++ (space ∷ position ++ space ∷ answer))
content_written old one two three new place position answer a b c d =
    d ∙ ap (λ (t : List ℕ). t ++ answer) (c ∙ ap (λ (t : List ℕ). t ++ space ∷ []) (b ∙ ap (λ (t : List ℕ). t ++ space ∷ position) a))
    ∙ append_assoc ((old ++ space ∷ place) ++ space ∷ position) (space ∷ []) answer
    ∙ append_assoc (old ++ space ∷ place) (space ∷ position) (space ∷ answer)
    ∙ append_assoc old (space ∷ place) (space ∷ position ++ space ∷ answer)
