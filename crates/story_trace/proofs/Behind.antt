-- Lines behind lines.
use Rattle.std.proofs.Common.{◌≡◌, ℕ, ◌+◌, ◌<◌, ◌≤◌, ◌⊎◌, List, [], ◌∷◌, ◌++◌, map, take, length, get_or, refl, sym, ap, ◌∙◌, arith}
use Rattle.std.specs.List.{flat_map, enumerate_from, zip}
use Rattle.std.proofs.lemmas.List.{append-nil, take_more, take_all, get_or-map, length-map, length-take-le}
use Rattle.std.proofs.lemmas.Slice.Zip.{get_or-zip, length-zip}
use Rattle.std.proofs.lemmas.Grind.{flat_map-append}
use Rattle.story_words.proofs.Pieces.{behind}

-- one element, as a list
pub single : {X : Type 0} (f : X → List ℕ) (x : X) (before new : List ℕ) → new ≡ before ++ f x → new ≡ before ++ flat_map f (x ∷ [])
single f x before new e = e ∙ ap (λ (t : List ℕ). before ++ t) (sym (append-nil (f x)))

-- nothing more
pub nothing : (before : List ℕ) → before ≡ before ++ []
nothing before = sym (append-nil before)

-- more behind
pub more_of : {X : Type 0} (f : X → List ℕ) (xs ys : List X) (before one new : List ℕ) → one ≡ before ++ flat_map f xs
    → new ≡ one ++ flat_map f ys → new ≡ before ++ flat_map f (xs ++ ys)
more_of f xs ys before one new e g = behind before (flat_map f xs) (flat_map f ys) one new e g ∙ ap (λ (t : List ℕ). before ++ t)
    (sym (flat_map-append f xs ys))

-- three parts
pub three_of : {X : Type 0} (f : X → List ℕ) (xs ys zs : List X) (before one two new : List ℕ) → one ≡ before ++ flat_map f xs
    → two ≡ one ++ flat_map f ys → new ≡ two ++ flat_map f zs
    → new ≡ before ++ flat_map f (xs ++ (ys ++ zs))
three_of f xs ys zs before one two new e g h = more_of f xs (ys ++ zs) before one new e (more_of f ys zs one two new g h)

-- the texts of all lines, one list of lines behind the other
pub each_of : {X Y : Type 0} (f : Y → List ℕ) (g : X → List Y) (xs : List X)
    → flat_map f (flat_map g xs) ≡ flat_map (λ x. flat_map f (g x)) xs
each_of f g [] = refl
each_of f g (x ∷ xs) = flat_map-append f (g x) (flat_map g xs) ∙ ap (λ (t : List ℕ). flat_map f (g x) ++ t) (each_of f g xs)

-- two elements, as a list
pub pair_of : {X : Type 0} (f : X → List ℕ) (x y : X) (before one new : List ℕ) → one ≡ before ++ f x → new ≡ one ++ f y
    → new ≡ before ++ flat_map f (x ∷ y ∷ [])
pair_of f x y before one new e g = more_of f (x ∷ []) (y ∷ []) before one new (single f x before one e) (single f y one new g)

-- the next number, behind those of the others
pub enumerate-more : {A : Type 0} (n : ℕ) (xs : List A) (x : A)
    → enumerate_from n (xs ++ x ∷ []) ≡ enumerate_from n xs ++ (n + length xs, x) ∷ []
enumerate-more {A} n [] x = let same : n ≡ n + 0 = omega arith in λ i. let e : ℕ × A = (same i, x) in e ∷ []
enumerate-more {A} n (y ∷ ys) x =
    let same : (n + 1) + length ys ≡ n + length (y ∷ ys) = omega arith in
    ap (λ (es : List (ℕ × A)). (n, y) ∷ es)
    (enumerate-more (n + 1) ys x ∙ (λ i. let e : ℕ × A = (same i, x) in enumerate_from (n + 1) ys ++ e ∷ []))

-- one numbered element more
pub numbered_more : {A : Type 0} (f : ℕ × A → List ℕ) (n : ℕ) (xs : List A) (i : ℕ) (x : A) (before out new : List ℕ) → i < length xs
    → x ≡ get_or xs i x
    → out ≡ before ++ flat_map f (enumerate_from n (take i xs)) → new ≡ out ++ f (n + i, x)
    → new ≡ before ++ flat_map f (enumerate_from n (take (i + 1) xs))
numbered_more {A} f n xs i x before out new lt at so_far wrote =
    let taken : List A = take i xs in
    let more : take (i + 1) xs ≡ taken ++ x ∷ [] = take_more xs i x lt ∙ ap (λ (y : A). taken ++ y ∷ []) (sym at) in
    let long : n + length taken ≡ n + i = omega (arith, length-take-le i xs (omega (arith, lt))) in
    let entry : ℕ → ℕ × A = λ m. (m, x) in
    let entries : enumerate_from n (take (i + 1) xs) ≡ enumerate_from n taken ++ entry (n + i) ∷ [] =
    ap (λ ys. enumerate_from n ys) more ∙ enumerate-more n taken x ∙ ap (λ (m : ℕ). enumerate_from n taken ++ entry m ∷ []) long in
    let lines : flat_map f (enumerate_from n (take (i + 1) xs)) ≡ flat_map f (enumerate_from n taken) ++ f (entry (n + i)) =
    ap (flat_map f) entries
    ∙ flat_map-append f (enumerate_from n taken) (entry (n + i) ∷ [])
    ∙ ap (λ (t : List ℕ). flat_map f (enumerate_from n taken) ++ t) (append-nil (f (entry (n + i)))) in
    behind before (flat_map f (enumerate_from n taken)) (f (entry (n + i))) out new so_far wrote
    ∙ ap (λ (t : List ℕ). before ++ t) (sym lines)

-- ---- numbered pairs

-- an element, seen otherwise
seen_at : {X A : Type 0} (g : X → A) (xs : List X) (i : ℕ) (x : X) → i < length xs → x ≡ get_or xs i x → g x ≡ get_or (map g xs) i (g x)
seen_at g xs i x lt is = ap g is ∙ sym (get_or-map g xs i x (g x) lt)

-- one pair more
pub paired_more : {X Y A B : Type 0} (f : ℕ × (A × B) → List ℕ) (g : X → A) (h : Y → B) (xs : List X) (ys : List Y) (i : ℕ) (x : X) (y : Y)
    (before out new : List ℕ) → i < length xs → x ≡ get_or xs i x → i < length ys → y ≡ get_or ys i y
    → out ≡ before ++ flat_map f (enumerate_from 0 (take i (zip (map g xs) (map h ys)))) → new ≡ out ++ f (i, (g x, h y))
    → new ≡ before ++ flat_map f (enumerate_from 0 (take (i + 1) (zip (map g xs) (map h ys))))
paired_more {X} {Y} {A} {B} f g h xs ys i x y before out new low first under second so_far wrote =
    let pair : A × B = (g x, h y) in
    let entry : ℕ → ℕ × (A × B) = λ n. (n, pair) in
    let all : List (A × B) = zip (map g xs) (map h ys) in
    let left : i < length (map g xs) = omega (arith, length-map xs g) in
    let right : i < length (map h ys) = omega (arith, length-map ys h) in
    let one : g x ≡ get_or (map g xs) i (g x) = seen_at g xs i x low first in
    let other : h y ≡ get_or (map h ys) i (h y) = seen_at h ys i y under second in
    let here : pair ≡ get_or all i pair = (λ k. (one k, other k)) ∙ sym (get_or-zip (map g xs) (map h ys) i pair left right) in
    let within : i < length all = omega (arith, length-zip (map g xs) (map h ys)) in
    let number : i ≡ 0 + i = omega arith in
    numbered_more f 0 all i pair before out new within here so_far (wrote ∙ ap (λ (n : ℕ). out ++ f (entry n)) number)

-- all pairs
pub paired_all : {X Y A B C : Type 0} (f : C → List ℕ) (of : ℕ × (A × B) → List C) (g : X → A) (h : Y → B) (xs : List X) (ys : List Y)
    (i : ℕ) (before out : List ℕ) → (length xs ≤ i) ⊎ (length ys ≤ i)
    → out ≡ before ++ flat_map (λ e. flat_map f (of e)) (enumerate_from 0 (take i (zip (map g xs) (map h ys))))
    → out ≡ before ++ flat_map f (flat_map of (enumerate_from 0 (zip (map g xs) (map h ys))))
paired_all {X} {Y} {A} {B} f of g h xs ys i before out past so_far =
    let all : List (A × B) = zip (map g xs) (map h ys) in
    let short : length all ≤ i = omega (arith, past, length-zip (map g xs) (map h ys), length-map xs g, length-map ys h) in
    so_far
    ∙ ap (λ (ps : List (A × B)). before ++ flat_map (λ e. flat_map f (of e)) (enumerate_from 0 ps)) (take_all i all short)
    ∙ ap (λ (t : List ℕ). before ++ t) (sym (each_of f of (enumerate_from 0 all)))
