use Rattle.std.proofs.Common.{List, Option, sym, subst, ◌∙◌, ℕ}
use Rattle.std.proofs.lemmas.Result.{err_from_is_err_and}
use Rattle.journal_disk.proofs.OnceRead.{reads_then}
use Rattle.journal_rp.specs.Stages.{gate_of}
use Rattle.node_defs.specs.Casts.{cast_of}
use Rattle.restored_hosts.specs.Below.{stop, StopsByDisk}
use Rattle.node_opening.specs.Reading.{BreaksOff, HasRead, HasReadAll}
use Rattle.node_opening.proofs.TakenUp.{read-ended, read-more}
use Rattle.node_opening.proofs.reading.take_all.Goals as goal

pub entries-preserved : goal.entries-preserved
entries-preserved g c = record {
  few = c.in_ok-take_next.ensures.few;
  as_left = c.take_next.ensures.as_left;
  read = λ version head b lines first.
      let kit = c.args.kit.now in
      let so = c.entries.invariant.read version head b lines first in
      let more = read-more (cast_of kit version) kit head b lines (g.D.Disk.seen c.entries.disk) so.0 (gate_of c.take_next.new.journal)
      c.take_next.new.hosts c.take_next.new.counts c.in_ok-take_next.field-0 c.if-branch.true
      (c.in_ok-take_next.ensures.reads version head b lines so.0
      (subst (λ (o : Option (List ℕ)). HasRead (cast_of kit version) kit head b lines o so.0 (gate_of c.entries.journal) c.entries.hosts c.entries.counts)
      (sym c.entries.invariant.disk.reads) so.1)) in (
        more.0,
        subst (λ (o : Option (List ℕ)). HasRead (cast_of kit version) kit head b lines o more.0 (gate_of c.take_next.new.journal) c.take_next.new.hosts
            c.take_next.new.counts) c.entries.invariant.disk.reads more.1,
      );
  kind = c.take_next.ensures.kind ∙ c.entries.invariant.kind;
  disk = reads_then g.D.Disk.seen g.D.Disk.may_leave g.D.Disk.moment g.D.Disk.left_since c.args.disk.now c.entries.disk c.take_next.new.disk
      c.entries.invariant.disk c.take_next.ensures.disk;
  steady = c.in_ok-take_next.ensures.cause ∙ c.entries.invariant.steady;
}

pub returns-in_err-take_next-clause-breaks : goal.returns-in_err-take_next-clause-breaks
returns-in_err-take_next-clause-breaks g c = λ version head b lines first.
    let kit = c.args.kit.now in
    let out = err_from_is_err_and c.from_residual.result c.from_residual.ensures.1 in
    let so = c.entries.invariant.read version head b lines first in
    rw (out.1, out.2) (subst (λ (o : Option (List ℕ)). BreaksOff (cast_of kit version) head b lines o (stop c.in_err-take_next.field-0.0))
    c.entries.invariant.disk.reads (c.in_err-take_next.ensures.breaks version head b lines so.0
    (subst (λ (o : Option (List ℕ)). HasRead (cast_of kit version) kit head b lines o so.0 (gate_of c.entries.journal) c.entries.hosts c.entries.counts)
    (sym c.entries.invariant.disk.reads) so.1)))

pub returns-in_err-take_next-clause-kind : goal.returns-in_err-take_next-clause-kind
returns-in_err-take_next-clause-kind g c = c.take_next.ensures.kind ∙ c.entries.invariant.kind

pub returns-in_err-take_next-clause-disk : goal.returns-in_err-take_next-clause-disk
returns-in_err-take_next-clause-disk g c = reads_then g.D.Disk.seen g.D.Disk.may_leave g.D.Disk.moment g.D.Disk.left_since c.args.disk.now
    c.entries.disk c.take_next.new.disk c.entries.invariant.disk c.take_next.ensures.disk

pub returns-in_err-take_next-clause-cause : goal.returns-in_err-take_next-clause-cause
returns-in_err-take_next-clause-cause g c =
    let out = err_from_is_err_and c.from_residual.result c.from_residual.ensures.1 in
    rw (out.1, out.2) (subst (λ n. StopsByDisk n (g.D.Disk.faults c.take_next.new.disk) (stop c.in_err-take_next.field-0.0))
    c.entries.invariant.steady c.in_err-take_next.ensures.cause)

pub returns-clause-reads : goal.returns-clause-reads
returns-clause-reads g c = λ version head b lines first.
    let kit = c.args.kit.now in
    let so = c.entries.invariant.read version head b lines first in
    subst (λ (o : Option (List ℕ)). HasReadAll (cast_of kit version) kit head b lines o (gate_of c.take_next.new.journal) c.take_next.new.hosts
    c.take_next.new.counts) c.entries.invariant.disk.reads
    (read-ended (cast_of kit version) kit head b lines (g.D.Disk.seen c.entries.disk) so.0 (gate_of c.take_next.new.journal) c.take_next.new.hosts
    c.take_next.new.counts c.in_ok-take_next.field-0 c.if-branch.false
    (c.in_ok-take_next.ensures.reads version head b lines so.0
    (subst (λ (o : Option (List ℕ)). HasRead (cast_of kit version) kit head b lines o so.0 (gate_of c.entries.journal) c.entries.hosts c.entries.counts)
    (sym c.entries.invariant.disk.reads) so.1)))

pub returns-clause-kind : goal.returns-clause-kind
returns-clause-kind g c = c.take_next.ensures.kind ∙ c.entries.invariant.kind

pub returns-clause-disk : goal.returns-clause-disk
returns-clause-disk g c = reads_then g.D.Disk.seen g.D.Disk.may_leave g.D.Disk.moment g.D.Disk.left_since c.args.disk.now c.entries.disk
    c.take_next.new.disk c.entries.invariant.disk c.take_next.ensures.disk

pub returns-clause-cause : goal.returns-clause-cause
returns-clause-cause g c = c.in_ok-take_next.ensures.cause ∙ c.entries.invariant.steady
