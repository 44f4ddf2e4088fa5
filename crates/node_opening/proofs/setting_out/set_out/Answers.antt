use Rattle.std.proofs.Common.{Option, subst, sym}
use Rattle.std.specs.Prelude.{IfErr, IfOk}
use Rattle.journal_rp.specs.Stages.{gate_of, version_of}
use Rattle.restored_hosts.specs.Below.{SnapSaid, Snap, stop}
use Rattle.node_opening.specs.Begins.{BeginsBy, IsSetOut}
use Rattle.node_opening.specs.Reading.{IsNotSetOut}
use Rattle.node_opening.proofs.Begun.{lacks-memory, none-begins, snap-begins}
use Rattle.node_opening.proofs.setting_out.set_out.Goals as goal

pub returns-in-None-clause-sets : goal.returns-in-None-clause-sets
returns-in-None-clause-sets g c = λ s held by begun.
    let kit = c.args.kit.now in
    let none = none-begins kit s (subst (λ (o : Option Snap). BeginsBy kit s o) c.in-None.is by) in
    subst (λ (b : Option SnapSaid). IfOk c.at_start.result (λ first. IsSetOut kit (version_of c.args.journal.now) b (g.D.Disk.seen c.args.disk.now)
    (gate_of c.args.journal.now) first.hosts first.counts)) (sym none)
    (c.at_start.ensures.sets held (g.D.Disk.seen c.args.disk.now) begun)

pub returns-in-None-clause-other : goal.returns-in-None-clause-other
returns-in-None-clause-other g c = λ s by.
    lacks-memory stop c.args.kit.now s (g.D.Disk.seen c.args.disk.now) c.at_start.result c.at_start.ensures.other

pub at_place-requires-clause-begins : goal.at_place-requires-clause-begins
at_place-requires-clause-begins g c =
    let kit = c.args.kit.now in
    let by = c.requires.begins in
    let is = snap-begins kit by.0 c.in-Some.snap (subst (λ (o : Option Snap). BeginsBy kit by.0 o) c.in-Some.is by.1) in
    (is.0, is.2)

pub returns-in-Some-clause-sets : goal.returns-in-Some-clause-sets
returns-in-Some-clause-sets g c = λ s held by begun.
    let kit = c.args.kit.now in
    let is = snap-begins kit s c.in-Some.snap (subst (λ (o : Option Snap). BeginsBy kit s o) c.in-Some.is by) in
    subst (λ (b : Option SnapSaid). IfOk c.at_place.result (λ first. IsSetOut kit (version_of c.at_place.new.journal) b
    (g.D.Disk.seen c.at_place.new.disk) (gate_of c.at_place.new.journal) first.hosts first.counts)) (sym is.1) (c.at_place.ensures.sets is.0 is.2)

pub returns-in-Some-clause-other : goal.returns-in-Some-clause-other
returns-in-Some-clause-other g c = λ s by.
    let kit = c.args.kit.now in
    let is = snap-begins kit s c.in-Some.snap (subst (λ (o : Option Snap). BeginsBy kit s o) c.in-Some.is by) in
    subst (λ (b : Option SnapSaid). IfErr c.at_place.result (λ why. IsNotSetOut kit b (g.D.Disk.seen c.args.disk.now) (stop why))) (sym is.1)
    (c.at_place.ensures.other is.0 is.2)
