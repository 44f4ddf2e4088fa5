use Rattle.node_defs.specs.Casts.{setting_of}
use Rattle.guard_service.proofs.Seeking.{found-above, suspect-in}
use Rattle.guard_service.proofs.evidence.next_suspect.Goals as goal

pub returns-clause-names : goal.returns-clause-names
returns-clause-names c = λ k p now is.
    suspect-in (setting_of c.args.kit.now) now c.frame_in-frame.result c.args.notes.now c.args.above c.args.event.now _ _
    c.first_above.result c.least_named.result c.in-Frame.is c.frame_in-frame.ensures c.first_above.ensures.value
    c.first_above.ensures.within (c.least_named.ensures.named k p now is)

pub returns-clause-above : goal.returns-clause-above
returns-clause-above c =
    found-above c.args.above c.least_named.result c.first_above.result c.first_above.ensures.value c.least_named.ensures.above
