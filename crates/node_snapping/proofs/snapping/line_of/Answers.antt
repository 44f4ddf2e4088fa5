use Rattle.std.proofs.Common.{ap, map, ◌∙◌}
use Rattle.journal_rp.specs.Answers.{of_memory}
use Rattle.journal_rp.specs.Stages.{version_of}
use Rattle.node_defs.specs.Casts.{cast_of}
use Rattle.node_snapshots.specs.Parts.{part_as}
use Rattle.node_serving.specs.Stops.{stop as stop_of}
use Rattle.node_serving.proofs.Handed.{by-fault}
use Rattle.node_snapping.proofs.Each.{parts-are}
use Rattle.node_snapping.proofs.Read.{line-is}
use Rattle.node_snapping.proofs.Written.{none-by}
use Rattle.node_snapping.proofs.snapping.line_of.Goals as goal

pub returns-in-Ok-clause-line : goal.returns-in-Ok-clause-line
returns-in-Ok-clause-line g c = λ f n reported are counts journal some.
    let kit = c.args.kit.now in
    let version = version_of c.args.journal.now in
    let k = cast_of kit version in
    let made = c.in-Ok.ensures.line f.begins n journal.gate
    (ap (map part_as) c.as_slice.ensures.value ∙ c.in_ok-parts.ensures k kit n.now are ∙ parts-are f.begins kit n c.args.counts.now counts) in (
      made.0,
      line-is (g.D.Disk.seen c.args.disk.now) (g.D.Disk.may_leave c.args.disk.now) f.head f.begins k n made.0 c.in-Ok.line.items reported some
          journal.rest made.1 made.2,
    )

pub returns-clause-none : goal.returns-clause-none
returns-clause-none g c = none-by (Unit {0}) (g.D.Disk.faults c.args.disk.now) (g.D.Disk.faults c.snap.new.disk) c.in-Err.fault
    (stop_of c.stop_at.result) c.in-Err.ensures.cause c.stop_at.ensures

pub returns-clause-cause : goal.returns-clause-cause
returns-clause-cause g c = by-fault (Unit {0}) of_memory (g.D.Disk.faults c.args.disk.now) (g.D.Disk.faults c.snap.new.disk)
    c.in-Err.fault (stop_of c.stop_at.result) c.in-Err.ensures.cause c.stop_at.ensures
