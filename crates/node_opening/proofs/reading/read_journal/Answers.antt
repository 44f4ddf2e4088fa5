use Rattle.std.proofs.lemmas.Result.{err_from_is_err_and}
use Rattle.journal_disk.proofs.OnceRead.{reads_then}
use Rattle.journal_rp.specs.Stages.{gate_of, version_of}
use Rattle.restored_hosts.specs.Below.{stop}
use Rattle.node_opening.proofs.Whole.{not-set-out, read-all, read-broken}
use Rattle.node_opening.proofs.reading.read_journal.Goals as goal

pub returns-in_err-first-clause-unread : goal.returns-in_err-first-clause-unread
returns-in_err-first-clause-unread g c = λ s lines by.
    let out = err_from_is_err_and c.from_residual-in_err-first.result c.from_residual-in_err-first.ensures.1 in
    rw (out.1, out.2) (not-set-out c.args.kit.now (version_of c.in_ok-journal.journal) s lines (gate_of c.in_ok-journal.journal)
    (g.D.Disk.seen c.args.disk.now) (g.D.Disk.seen c.begin.new.disk) c.in_ok-journal.ensures.begun (stop c.in_err-first.field-0.0)
    (c.in_err-first.ensures.other s by))

pub returns-in_err-first-clause-only_read : goal.returns-in_err-first-clause-only_read
returns-in_err-first-clause-only_read g c = λ some. reads_then g.D.Disk.seen g.D.Disk.may_leave g.D.Disk.moment g.D.Disk.left_since
    c.args.disk.now c.begin.new.disk c.set_out.new.disk (c.begin.ensures.only_read some) c.set_out.ensures.disk

pub returns-in_err-take_all-clause-unread : goal.returns-in_err-take_all-clause-unread
returns-in_err-take_all-clause-unread g c = λ s lines by.
    let out = err_from_is_err_and c.from_residual-in_err-take_all.result c.from_residual-in_err-take_all.ensures.1 in
    let v1 = version_of c.set_out.new.journal in
    rw (out.1, out.2) (read-broken c.args.kit.now (version_of c.in_ok-journal.journal) v1 s lines (g.D.Disk.seen c.args.disk.now)
    (g.D.Disk.seen c.begin.new.disk) (g.D.Disk.seen c.set_out.new.disk) (gate_of c.in_ok-journal.journal) (gate_of c.set_out.new.journal)
    c.in_ok-first.first.hosts c.in_ok-first.first.counts c.in_ok-journal.ensures.begun c.set_out.ensures.kind c.set_out.ensures.disk.reads
    (c.in_ok-first.ensures.sets s (g.D.Disk.seen c.args.disk.now) by c.in_ok-journal.ensures.begun) (stop c.in_err-take_all.field-0.0)
    (λ first. c.in_err-take_all.ensures.breaks v1 _ _ lines first))

pub returns-in_err-take_all-clause-only_read : goal.returns-in_err-take_all-clause-only_read
returns-in_err-take_all-clause-only_read g c = λ some. reads_then g.D.Disk.seen g.D.Disk.may_leave g.D.Disk.moment g.D.Disk.left_since
    c.args.disk.now c.set_out.new.disk c.take_all.new.disk (reads_then g.D.Disk.seen g.D.Disk.may_leave g.D.Disk.moment g.D.Disk.left_since
    c.args.disk.now c.begin.new.disk c.set_out.new.disk (c.begin.ensures.only_read some) c.set_out.ensures.disk) c.take_all.ensures.disk

pub returns-clause-only_read : goal.returns-clause-only_read
returns-clause-only_read g c = λ some. reads_then g.D.Disk.seen g.D.Disk.may_leave g.D.Disk.moment g.D.Disk.left_since
    c.args.disk.now c.set_out.new.disk c.take_all.new.disk (reads_then g.D.Disk.seen g.D.Disk.may_leave g.D.Disk.moment g.D.Disk.left_since
    c.args.disk.now c.begin.new.disk c.set_out.new.disk (c.begin.ensures.only_read some) c.set_out.ensures.disk) c.take_all.ensures.disk

pub take_all-requires-clause-few : goal.take_all-requires-clause-few
take_all-requires-clause-few g c =
    let by = c.requires.begins in
    (c.in_ok-first.ensures.sets by.0 (g.D.Disk.seen c.args.disk.now) by.1 c.in_ok-journal.ensures.begun).few

pub returns-clause-reads : goal.returns-clause-reads
returns-clause-reads g c = λ s lines by.
    let v1 = version_of c.set_out.new.journal in
    read-all c.args.kit.now (version_of c.in_ok-journal.journal) v1 s lines (g.D.Disk.seen c.args.disk.now)
    (g.D.Disk.seen c.begin.new.disk) (g.D.Disk.seen c.set_out.new.disk) (gate_of c.in_ok-journal.journal) (gate_of c.set_out.new.journal)
    c.in_ok-first.first.hosts c.in_ok-first.first.counts c.in_ok-journal.ensures.begun c.set_out.ensures.kind c.set_out.ensures.disk.reads
    (c.in_ok-first.ensures.sets s (g.D.Disk.seen c.args.disk.now) by c.in_ok-journal.ensures.begun) (version_of c.take_all.new.journal)
    (g.D.Disk.seen c.take_all.new.disk) (gate_of c.take_all.new.journal) c.take_all.new.hosts c.take_all.new.counts c.take_all.ensures.kind
    c.take_all.ensures.disk.reads (λ first. c.in_ok-take_all.ensures.reads v1 _ _ lines first)
