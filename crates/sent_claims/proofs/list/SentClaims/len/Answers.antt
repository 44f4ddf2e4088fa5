use Rattle.std.proofs.Common.{subst, List}
use Rattle.std.specs.List.{AllByRecursion}
use Rattle.message_defs.specs.Packing.{Signed}
use Rattle.sent_claims.specs.Lists.{IsShort}
use Rattle.sent_claims.proofs.Appended.{listed-short}
use Rattle.sent_claims.proofs.list.SentClaims.len.Goals as goal

pub returns-clause-short : goal.returns-clause-short
returns-clause-short c = subst (λ (cs : List Signed). AllByRecursion IsShort cs) c.self.view_is
    (listed-short c.self.inside.bytes.items c.self.inside.listed.items c.self.invariant)
