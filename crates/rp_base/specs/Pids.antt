-- Sets of process numbers, as rising lists and as the bits of a mask.
use Rattle.std.specs.Prelude.{ℕ, ◌+◌, ◌^◌, ◌==◌, nat_lt, if◌then◌else◌, List, [], ◌∷◌, filter}
use Rattle.std.specs.List.{range_with_len}
use Rattle.std.specs.Int.{bit_at}

-- a rising list with the process in its place, once
abbrev pub put_once : ℕ → List ℕ → List ℕ
put_once p [] = p ∷ []
put_once p (q ∷ qs) = if nat_lt q p then q ∷ put_once p qs else if q == p then q ∷ qs else p ∷ q ∷ qs

-- how many process numbers there are
unfoldable pub all_numbers : ℕ
all_numbers = 64

-- the places of a mask's bits that are 1, rising; the lowest bit is bit 0
unfoldable pub members : ℕ → List ℕ
members mask = filter (λ p. bit_at mask p == 1) (range_with_len 0 all_numbers)

-- the mask in which the bits of these processes are 1
abbrev pub mask_of : List ℕ → ℕ
mask_of [] = 0
mask_of (p ∷ ps) = 2 ^ p + mask_of ps
