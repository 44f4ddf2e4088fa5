use Rattle.std.proofs.Common.{◌≡◌, Bool, true, false, subst, ◌∙◌}
use Rattle.std.specs.Bool.{OnFalse, OnTrue}
use Rattle.journal_defs.specs.declared.Version.TheVariants.{One, Two}
use Rattle.snapshot_defs.specs.declared.Version.TheVariants as images
use Rattle.journal_rp.specs.Stages.{version_of}
use Rattle.restored_hosts.specs.Below.{stop}
use Rattle.node_opening.proofs.Placed.{at-place, not-skipped, other-header, other-kind}
use Rattle.node_opening.proofs.placing.go_to.Goals as goal

clash : {b : _} → b ≡ true → b ≡ false → ⊥
clash e f = cc

pub returns-then-not-is_header-clause-other : goal.returns-then-not-is_header-clause-other
returns-then-not-is_header-clause-other g c = λ t is.
    other-header c.args.kit.now t c.args.snap.now is (g.D.Disk.seen c.args.disk.now)
    (λ own. clash (c.is_header.ensures.1 own) c.if-not-is_header.true)

pub returns-then-not-has_images-clause-other : goal.returns-then-not-has_images-clause-other
returns-then-not-has_images-clause-other g c = λ t is.
    let both = subst (λ (b : Bool). OnFalse b ((c.args.snap.now.version ≡ images.One) × (version_of c.args.journal.now ≡ Two)))
    c.if-not-has_images.true c.has_images.ensures.no in
    other-kind c.args.kit.now t c.args.snap.now is (g.D.Disk.seen c.args.disk.now) (version_of c.args.journal.now) c.requires.kind both.0 both.1

pub returns-in-Ok-clause-there : goal.returns-in-Ok-clause-there
returns-in-Ok-clause-there g c = λ t is.
    at-place c.args.kit.now t c.args.snap.now is (g.D.Disk.seen c.args.disk.now) (version_of c.args.journal.now) c.requires.kind
    (subst (λ (b : Bool). OnTrue b (c.args.snap.now.version ≡ images.One → version_of c.args.journal.now ≡ One)) c.if-not-has_images.false
    c.has_images.ensures.yes) (c.is_header.ensures.0 c.if-not-is_header.false)
    c.in-Ok.ensures.ok.0 c.in-Ok.ensures.ok.1

pub returns-in-Ok-clause-gate : goal.returns-in-Ok-clause-gate
returns-in-Ok-clause-gate g c = λ t is. c.in-Ok.ensures.gate ∙ is.is.place

pub returns-in-Err-clause-other : goal.returns-in-Err-clause-other
returns-in-Err-clause-other g c = λ t is.
    not-skipped c.args.kit.now t c.args.snap.now is (g.D.Disk.seen c.args.disk.now) (Unit {0}) (g.D.Disk.faults c.args.disk.now)
    (g.D.Disk.faults c.skip.new.disk) c.in-Err.fault (stop c.stop_at.result) c.stop_at.ensures c.in-Err.ensures.other c.in-Err.ensures.cause
