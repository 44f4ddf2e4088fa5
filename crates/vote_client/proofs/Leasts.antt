-- Looking at contents one after the other finds the least that is enough.
use Rattle.std.proofs.Common.{◌≡◌, List, [], ◌∷◌, Option, Some, None, Bool, true, false, refl}
use Rattle.std.specs.Prelude.{if◌then◌else◌, filter}
use Rattle.byte_defs.specs.Orders.{least, least_from, numbers_below}
use Rattle.store_defs.specs.Votes.{Content, Vote, content_numbers, is_enough}
use Rattle.vote_client.specs.Choosing.{first_of, lesser}

-- what is chosen of these, after what was chosen before them
abbrev pub chosen : Vote → Option Content → List Content → Option Content
chosen v o [] = o
chosen v o (c ∷ cs) = chosen v (lesser v o c) cs

from-some : (v : Vote) (l : Content) (cs : List Content)
    → chosen v (Some l) cs ≡ Some (least_from content_numbers l (filter (is_enough v) cs))
from-some v l [] = refl
from-some v l (c ∷ cs) = go (is_enough v c) (from-some v l cs)
    (from-some v (if numbers_below (content_numbers c) (content_numbers l) then c else l) cs)
  where
    go : (b : Bool) → chosen v (Some l) cs ≡ Some (least_from content_numbers l (filter (is_enough v) cs))
        → chosen v (Some (first_of (Some l) c)) cs ≡ Some (least_from content_numbers (first_of (Some l) c) (filter (is_enough v) cs))
        → chosen v (if b then Some (first_of (Some l) c) else Some l) cs
        ≡ Some (least_from content_numbers l (if b then c ∷ filter (is_enough v) cs else filter (is_enough v) cs))
    go true kept other = other
    go false kept other = kept

pub chosen-all : (v : Vote) (cs : List Content) → chosen v None cs ≡ least content_numbers (filter (is_enough v) cs)
chosen-all v [] = refl
chosen-all v (c ∷ cs) = go (is_enough v c) (chosen-all v cs)
  where
    go : (b : Bool) → chosen v None cs ≡ least content_numbers (filter (is_enough v) cs) → chosen v (if b then Some (first_of None c) else None) cs
        ≡ least content_numbers (if b then c ∷ filter (is_enough v) cs else filter (is_enough v) cs)
    go true rest = from-some v c cs
    go false rest = rest
