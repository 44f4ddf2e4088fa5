-- The elements of a picture, as text.
use Rattle.std.specs.Prelude.{ℕ, List, [], ◌∷◌, ◌++◌, codes}
use Rattle.std.specs.List.{flat_map}
use Rattle.std.specs.Fmt.{decimal}
use Rattle.trace_defs.specs.Phrases.{Word}

-- a point of the picture, from its left upper corner
pub record Point : Type 0 where
  pub x : ℕ
  pub y : ℕ

-- pieces, with nothing between them
abbrev pub text_of : List Word → List ℕ
text_of pieces = flat_map (λ p. p) pieces

-- a line of this class from one point to another
abbrev pub stroke : Word → Point → Point → List ℕ
stroke class a b = text_of (
    codes "<line class='" ∷ class ∷ codes "' x1='" ∷ decimal a.x ∷ codes "' y1='" ∷ decimal a.y
    ∷ codes "' x2='" ∷ decimal b.x ∷ codes "' y2='" ∷ decimal b.y ∷ codes "'/>\n" ∷ [])

-- a dot of this class and radius
abbrev pub dot : Word → Point → ℕ → List ℕ
dot class a radius = text_of (
    codes "<circle class='" ∷ class ∷ codes "' cx='" ∷ decimal a.x ∷ codes "' cy='" ∷ decimal a.y ∷ codes "' r='" ∷ decimal radius
    ∷ codes "'/>\n" ∷ [])

-- a bar of this class, by its left upper corner, its width and its height
abbrev pub bar : Word → Point → ℕ → ℕ → List ℕ
bar class a width height = text_of (
    codes "<rect class='" ∷ class ∷ codes "' x='" ∷ decimal a.x ∷ codes "' y='" ∷ decimal a.y
    ∷ codes "' width='" ∷ decimal width ∷ codes "' height='" ∷ decimal height ∷ codes "'/>\n" ∷ [])

-- the beginning of a text of this class at a point
abbrev pub text_begin : Word → Point → List ℕ
text_begin class a = text_of (
    codes "<text class='" ∷ class ∷ codes "' x='" ∷ decimal a.x ∷ codes "' y='" ∷ decimal a.y ∷ codes "'>" ∷ [])

-- the end of any text
abbrev pub text_end : List ℕ
text_end = codes "</text>\n"

-- a text of this class at a point
abbrev pub text_at : Word → Point → List ℕ → List ℕ
text_at class a text = text_begin class a ++ (text ++ text_end)

-- numbers, each after a space
abbrev pub spaced : List ℕ → List ℕ
spaced ns = flat_map (λ n. codes " " ++ decimal n) ns
