use Rattle.std.proofs.Common.{Option, arith}
use Rattle.std.proofs.lemmas.Result.{err_from_is_err_and}
use Rattle.journal_entries.specs.declared.entry_bytes.EntryBytes.{EntryBytes}
use Rattle.journal_entries.specs.Kept.{kept}
use Rattle.journal_rp.specs.Stages.{gate_of}
use Rattle.node_defs.specs.Casts.{cast_of}
use Rattle.restored_hosts.specs.Below.{stop}
use Rattle.node_opening.specs.Reading.{node_after}
use Rattle.restored_hosts.proofs.Below.{by-no-disk}
use Rattle.node_opening.proofs.TakenUp.{breaks-by, read-failed, read-on}
use Rattle.node_opening.proofs.reading.take_next.Goals as goal

pub take_up-requires : goal.take_up-requires
take_up-requires g c = record { room = λ p. omega (arith, c.requires.few p, c.if-prove.false, c.place-place.ensures, c.place-next.type_inv) }

pub returns-in_err-take_up-in-Ok-Some-clause-breaks : goal.returns-in_err-take_up-in-Ok-Some-clause-breaks
returns-in_err-take_up-in-Ok-Some-clause-breaks g c = λ version head b lines es read.
    let cast = cast_of c.args.kit.now version in
    let out = err_from_is_err_and c.from_residual.result c.from_residual.ensures.1 in
    let found = rw c.in-Ok-Some.field-0-is at c.in-Ok-Some.ensures in
    rw (out.1, out.2) (breaks-by cast head b lines c.args.kit.now (g.D.Disk.seen c.args.disk.now) es (gate_of c.args.journal.now) c.args.hosts.now
    c.args.counts.now read (kept c.in-Ok-Some.bytes) (gate_of c.read.new.self) c.place-place.result _ found.found c.place-place.ensures
    (c.in_err-take_up-in-Ok-Some.ensures.refuses version (node_after cast b lines es) read.hosts_are))

pub returns-in_err-take_up-in-Ok-Some-clause-cause : goal.returns-in_err-take_up-in-Ok-Some-clause-cause
returns-in_err-take_up-in-Ok-Some-clause-cause g c =
    let out = err_from_is_err_and c.from_residual.result c.from_residual.ensures.1 in
    rw (out.1, out.2) (by-no-disk (g.D.Disk.faults c.args.disk.now) (g.D.Disk.faults c.read.new.disk)
    (stop c.in_err-take_up-in-Ok-Some.field-0.0) c.in-Ok-Some.ensures.cause c.in_err-take_up-in-Ok-Some.ensures.no_disk)

pub returns-in_ok-take_up-in-Ok-Some-clause-reads : goal.returns-in_ok-take_up-in-Ok-Some-clause-reads
returns-in_ok-take_up-in-Ok-Some-clause-reads g c = λ version head b lines es read.
    let cast = cast_of c.args.kit.now version in
    let found = rw c.in-Ok-Some.field-0-is at c.in-Ok-Some.ensures in
    let took = c.in_ok-take_up-in-Ok-Some.ensures.takes version (node_after cast b lines es) read.hosts_are in (
      kept c.in-Ok-Some.bytes,
      read-on cast head b lines c.args.kit.now (g.D.Disk.seen c.args.disk.now) es (gate_of c.args.journal.now) c.args.hosts.now c.args.counts.now read
          (kept c.in-Ok-Some.bytes) (gate_of c.read.new.self) c.take_up.new.hosts c.take_up.new.counts took.0 took.1
          c.in_ok-take_up-in-Ok-Some.ensures.counted found.next found.found,
    )

pub returns-in-Err-clause-breaks : goal.returns-in-Err-clause-breaks
returns-in-Err-clause-breaks g c = λ version head b lines es read.
    read-failed (cast_of c.args.kit.now version) head b lines c.args.kit.now (g.D.Disk.seen c.args.disk.now) es (gate_of c.args.journal.now)
    c.args.hosts.now c.args.counts.now read (Option EntryBytes) (g.D.Disk.faults c.args.disk.now) (g.D.Disk.faults c.read.new.disk)
    c.in-Err.fault (stop c.stop_at.result) c.stop_at.ensures c.in-Err.ensures.broken c.in-Err.ensures.cause
