-- Text behind text, and words behind words.
use Rattle.std.proofs.Common.{◌≡◌, ℕ, ◌+◌, ◌<◌, List, [], ◌∷◌, ◌++◌, map, take, length, codes, get_or, refl, sym, ap, ◌∙◌, append_assoc, arith}
use Rattle.std.specs.List.{flat_map, join_with_byte, enumerate_from}
use Rattle.std.specs.Fmt.{decimal}
use Rattle.std.proofs.lemmas.List.{map-append, append-nil, take_more, length-map, length-take-le}
use Rattle.std.proofs.lemmas.List.Folds.{flat_map-map}
use Rattle.std.proofs.lemmas.Grind.{flat_map-append}
use Rattle.text_defs.specs.Words.{space, line_feed, bytes_word}
use Rattle.group_defs.specs.Views.{View}
use Rattle.group_defs.specs.Process.{Delivered}
use Rattle.replay_defs.specs.Reports.{view_line, message_lines, payload_word}

-- one piece more
pub behind : (before a b one new : List ℕ) → one ≡ before ++ a → new ≡ one ++ b → new ≡ before ++ (a ++ b)
behind before a b one new e f = f ∙ ap (λ (t : List ℕ). t ++ b) e ∙ append_assoc before a b

-- the words behind the first one, each with the byte before it
pub words-behind : (c : ℕ) (word : List ℕ) (words : List (List ℕ)) → join_with_byte c (word ∷ words) ≡ word ++ flat_map (λ w. c ∷ w) words
words-behind c word [] = sym (append-nil word)
words-behind c word (next ∷ words) = ap (λ (t : List ℕ). word ++ c ∷ t) (words-behind c next words)

-- the payload is spelled as bytes are
pub payload-bytes : (bytes : List ℕ) → bytes_word bytes ≡ payload_word bytes
payload-bytes [] = refl
payload-bytes (b ∷ bytes) = refl

-- ---- a view

view-line : (me : ℕ) (v : View)
    → view_line me v ≡ (join_with_byte space (codes "view" ∷ decimal me ∷ decimal v.number ∷ codes ":" ∷ [])
    ++ flat_map (λ m. space ∷ decimal m) v.members) ++ line_feed ∷ []
view-line me v =
    ap (λ (t : List ℕ). (codes "view" ++ space ∷ (decimal me ++ space ∷ (decimal v.number ++ space ∷ t))) ++ line_feed ∷ [])
    (words-behind space (codes ":") (map decimal v.members) ∙ ap (λ (t : List ℕ). codes ":" ++ t)
    (flat_map-map (λ w. space ∷ w) decimal v.members))
    ∙ simp append_assoc

-- a view's line, in three pieces
pub view-written : (me : ℕ) (v : View) (members before one two new : List ℕ) → members ≡ v.members
    → one ≡ before ++ join_with_byte space (codes "view" ∷ decimal me ∷ decimal v.number ∷ codes ":" ∷ [])
    → two ≡ one ++ flat_map (λ m. space ∷ decimal m) members → new ≡ two ++ line_feed ∷ [] → new ≡ before ++ view_line me v
view-written me v members before one two new are e f g =
    let name : List ℕ = join_with_byte space (codes "view" ∷ decimal me ∷ decimal v.number ∷ codes ":" ∷ []) in
    let ranks : List ℕ = flat_map (λ m. space ∷ decimal m) v.members in
    behind before (name ++ ranks) (line_feed ∷ []) two new
    (behind before name ranks one two e (f ∙ ap (λ (ms : List ℕ). one ++ flat_map (λ m. space ∷ decimal m) ms) are)) g
    ∙ ap (λ (t : List ℕ). before ++ t) (sym (view-line me v))

-- ---- deliveries by view

enumerate-more : {A : Type 0} (n : ℕ) (xs : List A) (x : A)
    → enumerate_from n (xs ++ x ∷ []) ≡ enumerate_from n xs ++ (n + length xs, x) ∷ []
enumerate-more {A} n [] x = let same : n ≡ n + 0 = omega arith in λ i. let e : ℕ × A = (same i, x) in e ∷ []
enumerate-more {A} n (y ∷ ys) x =
    let same : (n + 1) + length ys ≡ n + length (y ∷ ys) = omega arith in
    ap (λ (es : List (ℕ × A)). (n, y) ∷ es)
    (enumerate-more (n + 1) ys x ∙ (λ i. let e : ℕ × A = (same i, x) in enumerate_from (n + 1) ys ++ e ∷ []))

-- one view more
pub view-more : {X : Type 0} (inner : X → List Delivered) (me : ℕ) (xs : List X) (i : ℕ) (x : X) (before out new : List ℕ) → i < length xs
    → x ≡ get_or xs i x
    → out ≡ before ++ flat_map (message_lines me) (enumerate_from 0 (map inner (take i xs))) → new ≡ out ++ message_lines me (i, inner x)
    → new ≡ before ++ flat_map (message_lines me) (enumerate_from 0 (map inner (take (i + 1) xs)))
view-more {X} inner me xs i x before out new lt at so_far wrote =
    let taken : List X = take i xs in
    let more : take (i + 1) xs ≡ taken ++ x ∷ [] = take_more xs i x lt ∙ ap (λ (y : X). taken ++ y ∷ []) (sym at) in
    let long : 0 + length (map inner taken) ≡ i = omega (arith, length-map taken inner, length-take-le i xs (omega (arith, lt))) in
    let entry : ℕ → ℕ × List Delivered = λ n. (n, inner x) in
    let entries : enumerate_from 0 (map inner (take (i + 1) xs)) ≡ enumerate_from 0 (map inner taken) ++ entry i ∷ [] =
    ap (λ ys. enumerate_from 0 (map inner ys)) more ∙ ap (enumerate_from 0) (map-append inner taken (x ∷ []))
    ∙ enumerate-more 0 (map inner taken) (inner x)
    ∙ ap (λ (n : ℕ). enumerate_from 0 (map inner taken) ++ entry n ∷ []) long in
    let lines : flat_map (message_lines me) (enumerate_from 0 (map inner (take (i + 1) xs)))
    ≡ flat_map (message_lines me) (enumerate_from 0 (map inner taken)) ++ message_lines me (i, inner x) =
    ap (flat_map (message_lines me)) entries
    ∙ flat_map-append (message_lines me) (enumerate_from 0 (map inner taken)) (entry i ∷ [])
    ∙ ap (λ (t : List ℕ). flat_map (message_lines me) (enumerate_from 0 (map inner taken)) ++ t)
    (append-nil (message_lines me (entry i))) in
    behind before (flat_map (message_lines me) (enumerate_from 0 (map inner taken))) (message_lines me (i, inner x)) out new so_far wrote
    ∙ ap (λ (t : List ℕ). before ++ t) (sym lines)
