-- The text that asks, piece by piece.
use Rattle.std.proofs.Common.{◌≡◌, ℕ, List, [], ◌∷◌, ◌++◌, map, codes, refl, sym, ap, ◌∙◌, append_assoc}
use Rattle.std.specs.Fmt.{decimal, digits}
use Rattle.std.specs.List.{flat_map, join_with_byte}
use Rattle.text_defs.specs.Words.{line_feed, line_text, space}
use Rattle.kit_defs.specs.Kits.{Kit, kit_text}
use Rattle.store_question_defs.specs.Lines.{first_view}
use Rattle.store_questions.specs.Gathering.{PlainGathered}

-- the number of the status
seven : decimal 7 ≡ codes "7"
unfolding digits
seven = refl

zero_is : decimal 0 ≡ codes "0"
unfolding digits
zero_is = refl

-- a stop's line
pub stop_written : (word number one two new : List ℕ) → one ≡ codes "stop 7 " ++ word → two ≡ one ++ space ∷ number
    → new ≡ two ++ line_feed ∷ [] → new ≡ line_text (codes "stop" ∷ decimal 7 ∷ word ∷ number ∷ [])
stop_written word number one two new e f g =
    g ∙ ap (λ (t : List ℕ). t ++ line_feed ∷ []) (f ∙ ap (λ (t : List ℕ). t ++ space ∷ number) e ∙ append_assoc (codes "stop 7 ") word (space ∷ number))
    ∙ ap (λ (t : List ℕ). line_text (codes "stop" ∷ t ∷ word ∷ number ∷ [])) (sym seven)

-- members, each after a space
members_after : (word : List ℕ) (ms : List ℕ) → join_with_byte space (word ∷ map decimal ms) ≡ word ++ flat_map (λ m. space ∷ decimal m) ms
members_after word [] = sym (append_nil_right word)
  where
    append_nil_right : (xs : List ℕ) → xs ++ [] ≡ xs
    append_nil_right [] = refl
    append_nil_right (x ∷ xs) = ap (λ (t : List ℕ). x ∷ t) (append_nil_right xs)
members_after word (m ∷ ms) = ap (λ (t : List ℕ). word ++ space ∷ t) (members_after (decimal m) ms)

-- the line of a kit's first view
pub first_view_written : (kit : Kit) (members one two : List ℕ) → members ≡ kit.genesis → one ≡ codes "view 0 :"
    → two ≡ one ++ flat_map (λ m. space ∷ decimal m) members → two ≡ first_view kit
first_view_written kit members one two are e f =
    f ∙ (λ i. e i ++ flat_map (λ m. space ∷ decimal m) (are i))
    ∙ ap (λ (t : List ℕ). codes "view 0 " ++ t) (sym (members_after (codes ":") kit.genesis))
    ∙ ap (λ (z : List ℕ). codes "view " ++ (z ++ space ∷ join_with_byte space (codes ":" ∷ map decimal kit.genesis))) (sym zero_is)

-- the whole text
pub text_written : (kit : Kit) (g : PlainGathered) (keys view one two three four five : List ℕ) → one ≡ kit_text kit
    → two ≡ one ++ codes "go\n" → three ≡ two ++ keys → four ≡ three ++ view → five ≡ four ++ g.replies
    → five ≡ (kit_text kit ++ codes "go\n") ++ (keys ++ (view ++ g.replies))
text_written kit g keys view one two three four five a b c d e =
    e ∙ ap (λ (t : List ℕ). t ++ g.replies) (d ∙ ap (λ (t : List ℕ). t ++ view) (c ∙ ap (λ (t : List ℕ). t ++ keys) (b ∙ ap (λ (t : List ℕ). t ++ codes "go\n") a)))
    ∙ append_assoc ((kit_text kit ++ codes "go\n") ++ keys) view g.replies
    ∙ append_assoc (kit_text kit ++ codes "go\n") keys (view ++ g.replies)
