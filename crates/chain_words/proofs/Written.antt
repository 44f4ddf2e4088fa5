-- The line of a view, word by word.
use Rattle.std.proofs.Common.{◌≡◌, ℕ, List, [], ◌∷◌, ◌++◌, map, codes, sym, ap, ◌∙◌, append_assoc}
use Rattle.std.specs.List.{flat_map, join_with_byte}
use Rattle.std.proofs.lemmas.List.Folds.{flat_map-map}
use Rattle.std.specs.Fmt.{decimal}
use Rattle.text_defs.specs.Words.{space, line_feed}
use Rattle.group_defs.specs.Views.{View}
use Rattle.report_lines.proofs.Pieces.{words-behind}
use Rattle.chain_text_defs.specs.Chains.{view_line}

view-line : (v : View)
    → view_line v ≡ (join_with_byte space (codes "view" ∷ decimal v.number ∷ codes ":" ∷ [])
    ++ flat_map (λ m. space ∷ decimal m) v.members) ++ line_feed ∷ []
view-line v =
    ap (λ (t : List ℕ). (codes "view" ++ space ∷ (decimal v.number ++ space ∷ t)) ++ line_feed ∷ [])
    (words-behind space (codes ":") (map decimal v.members) ∙ ap (λ (t : List ℕ). codes ":" ++ t)
    (flat_map-map (λ w. space ∷ w) decimal v.members))
    ∙ simp append_assoc

-- in three pieces
pub view-written : (v : View) (members one two new : List ℕ) → members ≡ v.members
    → one ≡ join_with_byte space (codes "view" ∷ decimal v.number ∷ codes ":" ∷ [])
    → two ≡ one ++ flat_map (λ m. space ∷ decimal m) members → new ≡ two ++ line_feed ∷ [] → new ≡ view_line v
view-written v members one two new are e f g =
    g ∙ ap (λ (t : List ℕ). t ++ line_feed ∷ []) (f ∙ (λ i. e i ++ flat_map (λ m. space ∷ decimal m) (are i))) ∙ sym (view-line v)
