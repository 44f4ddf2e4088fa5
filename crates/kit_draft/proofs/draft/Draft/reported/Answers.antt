use Rattle.std.proofs.Common.{ap, subst}
use Rattle.kit_defs.specs.KitReading.{may_of}
use Rattle.kit_draft.specs.Drafts.{IsDraft}
use Rattle.kit_draft.proofs.draft.Draft.reported.Goals as goal

pub returns-clause-value : goal.returns-clause-value
returns-clause-value c = ap may_of c.self.view_is

pub returns-clause-holds : goal.returns-clause-holds
returns-clause-holds c = subst IsDraft c.self.view_is c.self.invariant
