-- A text grows line by line, and a line word by word.
use Rattle.std.proofs.Common.{◌≡◌, ℕ, ◌+◌, ◌<◌, List, [], ◌∷◌, ◌++◌, length, map, take, get_or, refl, sym, ap, ◌∙◌, append_assoc, append-nil}
use Rattle.std.specs.List.{flat_map, join_with_byte}
use Rattle.std.proofs.lemmas.List.{flat_map_more, map-append, take_more}
use Rattle.std.proofs.lemmas.List.Concat.{flat_map-append}
use Rattle.text_defs.specs.Words.{line_text}
use Rattle.kit_defs.specs.Kits.{Kit, KitLine, Version, SchemeIs, GroupIs, Genesis, key_line, line_words, port_line, public_lines, text_of_lines, version_of}

map_more : {X Y : Type 0} (f : X → Y) (xs : List X) (i : ℕ) (d : X) → i < length xs
    → map f (take (i + 1) xs) ≡ map f (take i xs) ++ f (get_or xs i d) ∷ []
map_more f xs i d within = ap (map f) (take_more xs i d within) ∙ map-append f (take i xs) (get_or xs i d ∷ [])

-- one more piece
pub piece_more : {X Y : Type 0} (piece : Y → List ℕ) (f : X → Y) (out : List ℕ) (xs : List X) (i : ℕ) (d : X) → i < length xs
    → (out ++ flat_map piece (map f (take i xs))) ++ piece (f (get_or xs i d)) ≡ out ++ flat_map piece (map f (take (i + 1) xs))
piece_more piece f out xs i d within =
    flat_map_more piece out (map f (take i xs)) (f (get_or xs i d)) ∙ ap (λ ys. out ++ flat_map piece ys) (sym (map_more f xs i d within))

join_more : (c : ℕ) (word last : List ℕ) (words : List (List ℕ))
    → join_with_byte c (word ∷ words) ++ c ∷ last ≡ join_with_byte c (word ∷ words ++ last ∷ [])
join_more c word last [] = refl
join_more c word last (next ∷ words) = append_assoc word (c ∷ join_with_byte c (next ∷ words)) (c ∷ last) ∙ ap (λ t. word ++ c ∷ t)
    (join_more c next last words)

-- one more word
pub word_more : {X : Type 0} (c : ℕ) (out word : List ℕ) (f : X → List ℕ) (xs : List X) (i : ℕ) (d : X) → i < length xs
    → (out ++ join_with_byte c (word ∷ map f (take i xs))) ++ c ∷ f (get_or xs i d) ≡ out
    ++ join_with_byte c (word ∷ map f (take (i + 1) xs))
word_more c out word f xs i d within =
    append_assoc out (join_with_byte c (word ∷ map f (take i xs))) (c ∷ f (get_or xs i d))
    ∙ ap (λ t. out ++ t) (join_more c word (f (get_or xs i d)) (map f (take i xs)) ∙ ap (λ ys. join_with_byte c (word ∷ ys))
    (sym (map_more f xs i d within)))

-- lines behind lines
pub lines_behind : (out : List ℕ) (ls ms : List KitLine) → (out ++ text_of_lines ls) ++ text_of_lines ms ≡ out ++ text_of_lines (ls ++ ms)
lines_behind out ls ms = append_assoc out (text_of_lines ls) (text_of_lines ms) ∙ ap (λ t. out ++ t)
    (sym (flat_map-append (λ line. line_text (line_words line)) ls ms))

-- the public lines, in four steps
pub public_text : (kit : Kit) (out a b c d : List ℕ)
    → a ≡ out ++ text_of_lines (Version (version_of kit.scheme) ∷ SchemeIs kit.scheme ∷ GroupIs kit.group ∷ [])
    → b ≡ a ++ text_of_lines (map key_line kit.keys)
    → c ≡ b ++ line_text (line_words (Genesis kit.genesis)) → d ≡ c ++ text_of_lines (map port_line kit.ports)
    → d ≡ out ++ text_of_lines (public_lines kit)
public_text kit out a b c d head keys genesis ports =
    let heads : List KitLine = Version (version_of kit.scheme) ∷ SchemeIs kit.scheme ∷ GroupIs kit.group ∷ [] in
    let listed : List KitLine = map key_line kit.keys in
    let member : List KitLine = Genesis kit.genesis ∷ [] in
    let two : b ≡ out ++ text_of_lines (heads ++ listed) = keys ∙ ap
    (λ t. t ++ text_of_lines listed) head ∙ lines_behind out heads listed in
    let one : line_text (line_words (Genesis kit.genesis))
    ≡ text_of_lines member = sym (append-nil (line_text (line_words (Genesis kit.genesis)))) in
    let three : c ≡ out ++ text_of_lines ((heads ++ listed) ++ member) = genesis ∙ ap (λ t. b ++ t) one ∙ ap
    (λ t. t ++ text_of_lines member) two ∙ lines_behind out (heads ++ listed) member in
    ports ∙ ap (λ t. t ++ text_of_lines (map port_line kit.ports)) three ∙ lines_behind out ((heads ++ listed) ++ member)
    (map port_line kit.ports)
    ∙ ap (λ ls. out ++ text_of_lines (Version (version_of kit.scheme) ∷ SchemeIs kit.scheme ∷ GroupIs kit.group ∷ ls))
    (append_assoc listed member (map port_line kit.ports))
