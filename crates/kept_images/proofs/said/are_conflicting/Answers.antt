use Rattle.member_events.specs.Below.{stmt}
use Rattle.kept_images.specs.Tests.{conflicting}
use Rattle.kept_images.proofs.Entries.{same-truth, conflicting-so, so-conflicting}
use Rattle.kept_images.proofs.said.are_conflicting.Goals as goal

pub returns : goal.returns
returns c =
    let a = stmt c.args.a.now in
    let b = stmt c.args.b.now in
    same-truth c.conflicts.result (conflicting a b) (λ ok. so-conflicting a b (c.conflicts.ensures.0 ok))
    (λ ok. c.conflicts.ensures.1 (conflicting-so a b ok))
