use Rattle.std.proofs.Common.{◌≡◌, ℕ, zero, suc, List, get_or, replicate, Option, None, refl}
use Rattle.auth_link.proofs.keys.LinkKeys.new.Goals as goal

abbrev none_key : Option (List ℕ)
none_key = None

none_of : (n p : ℕ) → get_or (replicate n (none_key)) p None ≡ None
none_of zero p = refl
none_of (suc n) zero = refl
none_of (suc n) (suc p) = none_of n p

pub returns-clause-keys : goal.returns-clause-keys
returns-clause-keys c = λ p. none_of 64 p
