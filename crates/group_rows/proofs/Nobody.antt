-- The row of specs/Nobody.antt, computed.
use Rattle.std.proofs.Common.{◌≡◌, refl, ℕ, []}
use Rattle.group_defs.specs.Accounts.{group_of}
use Rattle.group_defs.specs.Family.{accounts}
use Rattle.group_defs.specs.Laws.{Premises}
use Rattle.group_rows.proofs.Premises.{premises-of}
use Rattle.group_rows.specs.Nobody.{f, Nobody}

premises : Premises f
unfolding f
premises = premises-of f refl refl refl

no_views : (group_of (accounts f)).views ≡ []
unfolding f
no_views = refl

no_deliveries : (x : ℕ) → (group_of (accounts f)).sequence x ≡ []
unfolding f
no_deliveries x = refl

pub nobody_is_correct : Nobody
nobody_is_correct = record { premises = premises; no_views = no_views; no_deliveries = no_deliveries }
