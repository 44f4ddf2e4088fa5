-- What is drawn of numbered rows, one row after the other.
use Rattle.std.proofs.Common.{◌≡◌, ℕ, ◌+◌, ◌<◌, List, [], ◌∷◌, ◌++◌, map, take, length, get_or, refl, sym, ap, ◌∙◌, arith}
use Rattle.std.specs.List.{flat_map, enumerate_from}
use Rattle.std.proofs.lemmas.List.{append-nil, length-map, map-append, map_more}
use Rattle.std.proofs.lemmas.List.Folds.{flat_map-map}
use Rattle.std.proofs.lemmas.Grind.{flat_map-append}
use Rattle.story_trace.proofs.Pieces.{behind}
use Rattle.trace_defs.specs.Happenings as plain
use Rattle.picture_defs.specs.Pictures as pictures
use Rattle.picture_defs.specs.Pictures.{each_row, rows_in, rows_of}
use Rattle.happenings.specs.Reported.{happening}
use Rattle.story_trace.proofs.Behind.{numbered_more, enumerate-more}
use Rattle.story_picture.specs.declared.rows.Row.{Row}
use Rattle.story_picture.specs.Views.{row}

-- the elements of a list that is mapped have the same numbers
pub enumerate-map : {A B : Type 0} (f : A → B) (n : ℕ) (xs : List A)
    → enumerate_from n (map f xs) ≡ map (λ e. let y : ℕ × B = (e.0, f e.1) in y) (enumerate_from n xs)
enumerate-map f n [] = refl
enumerate-map {A} {B} f n (x ∷ xs) = let y : ℕ × B = (n, f x) in ap (λ (es : List (ℕ × B)). y ∷ es) (enumerate-map f (n + 1) xs)

-- what is drawn of rows of the code, by the rows themselves
pub each_row-map : (draw : ℕ → ℕ → plain.Happening → List ℕ) (rows : List Row)
    → each_row draw (map row rows) ≡ flat_map (λ e. draw e.0 e.1.event (happening e.1.what)) (enumerate_from 0 rows)
each_row-map draw rows =
    ap (flat_map (λ r. draw r.0 r.1.0 r.1.1)) (enumerate-map row 0 rows)
    ∙ flat_map-map (λ r. draw r.0 r.1.0 r.1.1) (λ e. let y : ℕ × (ℕ × plain.Happening) = (e.0, row e.1) in y) (enumerate_from 0 rows)

-- one row more
pub row_more : (draw : ℕ → ℕ → plain.Happening → List ℕ) (rows : List Row) (k : ℕ) (r : Row) (before out new : List ℕ) → k < length rows
    → r ≡ get_or rows k r
    → out ≡ before ++ each_row draw (map row (take k rows)) → new ≡ out ++ draw k r.event (happening r.what)
    → new ≡ before ++ each_row draw (map row (take (k + 1) rows))
row_more draw rows k r before out new lt at so_far wrote =
    let f : ℕ × Row → List ℕ = λ e. draw e.0 e.1.event (happening e.1.what) in
    let zero_and : 0 + k ≡ k = omega arith in
    numbered_more f 0 rows k r before out new lt at
    (so_far ∙ ap (λ (t : List ℕ). before ++ t) (each_row-map draw (take k rows)))
    (wrote ∙ ap (λ (n : ℕ). out ++ draw n r.event (happening r.what)) (sym zero_and))
    ∙ ap (λ (t : List ℕ). before ++ t) (sym (each_row-map draw (take (k + 1) rows)))

-- one element more of what is mapped
pub mapped_more : {A B : Type 0} (f : B → List ℕ) (view : A → B) (xs : List A) (i : ℕ) (x : A) (before out new : List ℕ) → i < length xs
    → x ≡ get_or xs i x
    → out ≡ before ++ flat_map f (map view (take i xs)) → new ≡ out ++ f (view x)
    → new ≡ before ++ flat_map f (map view (take (i + 1) xs))
mapped_more {A} {B} f view xs i x before out new lt at so_far wrote =
    let more : map view (take (i + 1) xs) ≡ map view (take i xs) ++ view x ∷ [] =
    map_more view xs i x lt ∙ ap (λ (y : A). map view (take i xs) ++ view y ∷ []) (sym at) in
    let lines : flat_map f (map view (take (i + 1) xs)) ≡ flat_map f (map view (take i xs)) ++ f (view x) =
    ap (flat_map f) more ∙ flat_map-append f (map view (take i xs)) (view x ∷ [])
    ∙ ap (λ (t : List ℕ). flat_map f (map view (take i xs)) ++ t) (append-nil (f (view x))) in
    behind before (flat_map f (map view (take i xs))) (f (view x)) out new so_far wrote ∙ ap (λ (t : List ℕ). before ++ t) (sym lines)

-- ---- rows in order

-- one event more
pub events_more : {T : Type 0} (view : T → List plain.Happening) (reported : List T) (e : T)
    → rows_of (map view (reported ++ e ∷ [])) ≡ rows_of (map view reported) ++ rows_in (length reported) (view e)
events_more {T} view reported e =
    let lists : List (List plain.Happening) = map view reported in
    let f : ℕ × List plain.Happening → List pictures.Row = λ t. rows_in t.0 t.1 in
    let entry : ℕ → ℕ × List plain.Happening = λ n. (n, view e) in
    let long : 0 + length lists ≡ length reported = omega (arith, length-map reported view) in
    ap rows_of (map-append view reported (e ∷ [])) ∙ ap (flat_map f) (enumerate-more 0 lists (view e))
    ∙ flat_map-append f (enumerate_from 0 lists) (entry (0 + length lists) ∷ [])
    ∙ ap (λ (rs : List pictures.Row). rows_of lists ++ rs)
    (append-nil (rows_in (0 + length lists) (view e)) ∙ ap (λ (n : ℕ). rows_in n (view e)) long)
