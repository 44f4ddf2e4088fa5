-- What an account has of the current view: the last of its lists by views.
use Rattle.std.specs.Prelude.{◌≡◌, ◌≤◌, List, [], ◌∷◌, ◌++◌, length}
use Rattle.group_defs.specs.Process.{Delivered}

-- `ds` is the last of the lists
pub record IsLast (lists : List (List Delivered)) (ds : List Delivered) : Type 0 where
  pub before : List (List Delivered)
  pub is : lists ≡ before ++ ds ∷ []

-- a last list, whose length is a number of two bytes
pub record HasLast (lists : List (List Delivered)) : Type 0 where
  pub last : List Delivered
  pub is : IsLast lists last
  pub short : length last ≤ 65535

-- there is a last list, with a length of at most 65,535; which one is left open
abbrev pub HasShortLast : List (List Delivered) → Type 0
HasShortLast lists = ∥ HasLast lists ∥₁
