use Rattle.std.proofs.Common.{◌≡◌, ℕ, zero, suc, get_or, replicate, refl}
use Rattle.node_hosts.proofs.counts.Counts.new.Goals as goal

abbrev none : ℕ
none = 0

none-of : (n p : ℕ) → get_or (replicate n none) p none ≡ none
none-of zero p = refl
none-of (suc n) zero = refl
none-of (suc n) (suc p) = none-of n p

pub returns : goal.returns
returns c = λ p. none-of 64 p
