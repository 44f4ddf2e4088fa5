use Rattle.std.proofs.Common.{sym}
use Rattle.claim_index.proofs.Found.{kept_from_lookup}
use Rattle.claim_index.proofs.index.claim_under.Goals as goal

pub lent-requires-clause-within : goal.lent-requires-clause-within
lent-requires-clause-within c = (kept_from_lookup _ _ _ _ c.requires (sym c.in-Some.ensures)).0

pub lent-requires-clause-readable : goal.lent-requires-clause-readable
lent-requires-clause-readable c = (kept_from_lookup _ _ _ _ c.requires (sym c.in-Some.ensures)).1
