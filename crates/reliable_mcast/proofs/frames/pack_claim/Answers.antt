use Rattle.std.proofs.Common.{◌≤◌, length, sym, subst, List, Bool, true, false}
use Rattle.std.specs.Prelude.{if◌then◌else◌}
use Rattle.message_defs.specs.Frames.{Group}
use Rattle.message_defs.specs.Packing.{Signed, add}
use Rattle.sent_claims.specs.Lists.{lent_claim}
use Rattle.reliable_mcast.proofs.Packing.{some_added}
use Rattle.reliable_mcast.proofs.frames.pack_claim.Goals as goal

some_of_both : (b : Bool) (gs : List Group) (c : Signed) → 1 ≤ length gs → 1 ≤ length (if b then add gs c else gs)
some_of_both true gs c some = some_added gs c
some_of_both false gs c some = some

pub returns-then-add-clause-begun : goal.returns-then-add-clause-begun
returns-then-add-clause-begun c = subst (λ (gs : List Group). 1 ≤ length gs) (sym c.add.ensures.groups)
    (some_of_both c.add.result c.args.sheet.now.writer.groups (lent_claim c.args.claim.now) c.requires.begun)
