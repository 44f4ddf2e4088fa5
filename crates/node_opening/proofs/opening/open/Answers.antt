use Rattle.std.proofs.Common.{ℕ, ◌≤◌, sym, subst, ◌∙◌}
use Rattle.std.proofs.lemmas.Result.{err_from_is_err_and}
use Rattle.journal_rp.specs.declared.journal.Journal.{Journal}
use Rattle.journal_rp.specs.declared.journal.Writing.{Writing}
use Rattle.journal_rp.specs.Stages.{gate_of, version_of}
use Rattle.node_defs.specs.Lines.{DiskFailed, NoMemory}
use Rattle.node_defs.specs.Casts.{cast_of}
use Rattle.node_defs.specs.Nodes.{opens}
use Rattle.node_traces.specs.Seen.{link_seen, sink_seen}
use Rattle.restored_hosts.specs.Below.{count_in, stop, outside}
use Rattle.node_opening.specs.Begins.{begins_by, head_in}
use Rattle.node_opening.specs.Opened.{Unopened, opening}
use Rattle.node_opening.specs.Reading.{no_memory, node_after}
use Rattle.node_opening.proofs.Finished.{ends-at, opened}
use Rattle.node_opening.proofs.Lines.{to-open}
use Rattle.node_opening.proofs.Moments.{ends-so, finish-moments, finish-stands, front-there, read-moments, read-stands}
use Rattle.node_opening.proofs.Presented.{not-finished, unopened, unread}
use Rattle.restored_hosts.proofs.Below.{by-disk, by-no-disk}
use Rattle.node_opening.proofs.opening.open.Goals as goal

pub returns-in_err-readers-clause-stops : goal.returns-in_err-readers-clause-stops
returns-in_err-readers-clause-stops g c = λ s snap most lines source h by has.
    let out = err_from_is_err_and c.from_residual.result c.from_residual.ensures.1 in
    rw (out.1, out.2) (unread g.V.Service.heard c.args.service.now c.args.kit.now s snap most lines (g.D.Disk.seen c.args.disk.now)
    (link_seen g.L.Link.sent g.L.Link.coming g.L.Link.faults c.args.link.now)
    (sink_seen g.K.Sink.written g.K.Sink.faults c.args.output.now) source h (stop c.in_err-readers.field-0.0) has (c.in_err-readers.ensures.unread s lines by))

pub returns-in_err-readers-clause-moments : goal.returns-in_err-readers-clause-moments
returns-in_err-readers-clause-moments g c = λ s v es by some stands.
    read-moments g.D.Disk.seen g.D.Disk.may_leave g.D.Disk.moment g.D.Disk.left_since
    (head_in (cast_of c.args.kit.now v) s (g.D.Disk.seen c.args.disk.now)) es c.args.disk.now
    (g.D.Disk.reads_image c.args.disk.now) some stands c.read_journal.new.disk c.read_journal.ensures.only_read

pub returns-in_err-readers-clause-stands : goal.returns-in_err-readers-clause-stands
returns-in_err-readers-clause-stands g c = λ s v es by some stands.
    read-stands g.D.Disk.seen g.D.Disk.may_leave g.D.Disk.moment g.D.Disk.left_since
    (head_in (cast_of c.args.kit.now v) s (g.D.Disk.seen c.args.disk.now)) es c.args.disk.now
    (g.D.Disk.reads_image c.args.disk.now) some stands c.read_journal.new.disk c.read_journal.ensures.only_read

pub returns-in_err-greeting-clause-stops : goal.returns-in_err-greeting-clause-stops
returns-in_err-greeting-clause-stops g c = λ s snap most lines source h by has.
    let out = err_from_is_err_and c.from_residual-in_err-greeting.result c.from_residual-in_err-greeting.ensures.1 in
    rw (out.1, out.2) (unread g.V.Service.heard c.args.service.now c.args.kit.now s snap most lines (g.D.Disk.seen c.args.disk.now)
    (link_seen g.L.Link.sent g.L.Link.coming g.L.Link.faults c.args.link.now)
    (sink_seen g.K.Sink.written g.K.Sink.faults c.args.output.now) source h NoMemory has no_memory)

pub returns-in_err-greeting-clause-moments : goal.returns-in_err-greeting-clause-moments
returns-in_err-greeting-clause-moments g c = λ s v es by some stands.
    read-moments g.D.Disk.seen g.D.Disk.may_leave g.D.Disk.moment g.D.Disk.left_since
    (head_in (cast_of c.args.kit.now v) s (g.D.Disk.seen c.args.disk.now)) es c.args.disk.now
    (g.D.Disk.reads_image c.args.disk.now) some stands c.read_journal.new.disk c.read_journal.ensures.only_read

pub returns-in_err-greeting-clause-stands : goal.returns-in_err-greeting-clause-stands
returns-in_err-greeting-clause-stands g c = λ s v es by some stands.
    read-stands g.D.Disk.seen g.D.Disk.may_leave g.D.Disk.moment g.D.Disk.left_since
    (head_in (cast_of c.args.kit.now v) s (g.D.Disk.seen c.args.disk.now)) es c.args.disk.now
    (g.D.Disk.reads_image c.args.disk.now) some stands c.read_journal.new.disk c.read_journal.ensures.only_read

pub returns-in_err-present-clause-stops : goal.returns-in_err-present-clause-stops
returns-in_err-present-clause-stops g c = λ s snap most lines source h by has.
    let out = err_from_is_err_and c.from_residual-in_err-present.result c.from_residual-in_err-present.ensures.1 in
    let kit = c.args.kit.now in
    let v = version_of c.in_ok-readers.readers.journal in
    let cast = cast_of kit v in
    let journal = c.in_ok-readers.ensures.reads s lines by in
    let b = begins_by cast s in
    let head = head_in cast s (g.D.Disk.seen c.read_journal.new.disk) in
    let es = journal.all.entries in
    let read = journal.all.read in
    let n = node_after cast b lines es in
    rw (out.1, out.2) (unopened g.V.Service.heard c.present.new.service kit s v es snap most lines (g.D.Disk.seen c.args.disk.now)
    (link_seen g.L.Link.sent g.L.Link.coming g.L.Link.faults c.args.link.now)
    (link_seen g.L.Link.sent g.L.Link.coming g.L.Link.faults c.present.new.link)
    (sink_seen g.K.Sink.written g.K.Sink.faults c.args.output.now)
    (sink_seen g.K.Sink.written g.K.Sink.faults c.present.new.output) source h (stop c.in_err-present.field-0.0) journal.holds
    (c.in_err-present.ensures.stops v snap most (opens cast b lines es) source h read.hosts_are has
    (to-open cast kit head b lines (g.D.Disk.seen c.read_journal.new.disk) es (gate_of c.in_ok-readers.readers.journal) c.in_ok-readers.readers.hosts
    c.in_ok-readers.readers.counts read c.as_slice.result.now
    (c.as_slice.ensures.value ∙ c.in_ok-greeting.ensures cast kit n.now read.hosts_are))))

pub returns-in_err-present-clause-moments : goal.returns-in_err-present-clause-moments
returns-in_err-present-clause-moments g c = λ s v es by some stands.
    read-moments g.D.Disk.seen g.D.Disk.may_leave g.D.Disk.moment g.D.Disk.left_since
    (head_in (cast_of c.args.kit.now v) s (g.D.Disk.seen c.args.disk.now)) es c.args.disk.now
    (g.D.Disk.reads_image c.args.disk.now) some stands c.read_journal.new.disk c.read_journal.ensures.only_read

pub returns-in_err-present-clause-stands : goal.returns-in_err-present-clause-stands
returns-in_err-present-clause-stands g c = λ s v es by some stands.
    read-stands g.D.Disk.seen g.D.Disk.may_leave g.D.Disk.moment g.D.Disk.left_since
    (head_in (cast_of c.args.kit.now v) s (g.D.Disk.seen c.args.disk.now)) es c.args.disk.now
    (g.D.Disk.reads_image c.args.disk.now) some stands c.read_journal.new.disk c.read_journal.ensures.only_read

pub returns-in_err-present-clause-cause : goal.returns-in_err-present-clause-cause
returns-in_err-present-clause-cause g c =
    let out = err_from_is_err_and c.from_residual-in_err-present.result c.from_residual-in_err-present.ensures.1 in
    rw (out.1, out.2) (by-no-disk (g.D.Disk.faults c.args.disk.now) (g.D.Disk.faults c.read_journal.new.disk)
    (stop c.in_err-present.field-0.0) c.in_ok-readers.ensures.cause c.in_err-present.ensures.no_disk)

pub returns-in-Ok-clause-opens : goal.returns-in-Ok-clause-opens
returns-in-Ok-clause-opens g c = λ s snap most lines source h by has.
    let kit = c.args.kit.now in
    let v = version_of c.in_ok-readers.readers.journal in
    let gate = gate_of c.in_ok-readers.readers.journal in
    let cast = cast_of kit v in
    let journal = c.in_ok-readers.ensures.reads s lines by in
    let b = begins_by cast s in
    let head = head_in cast s (g.D.Disk.seen c.read_journal.new.disk) in
    let es = journal.all.entries in
    let read = journal.all.read in
    let n = node_after cast b lines es in
    let reported = c.in_ok-present.ensures.presents v snap most (opens cast b lines es) source h read.hosts_are has
    (to-open cast kit head b lines (g.D.Disk.seen c.read_journal.new.disk) es gate c.in_ok-readers.readers.hosts
    c.in_ok-readers.readers.counts read c.as_slice.result.now
    (c.as_slice.ensures.value ∙ c.in_ok-greeting.ensures cast kit n.now read.hosts_are)) in
    record {
      history = reported.history;
      has = reported.has;
      holds = opened _ s snap most lines (g.D.Disk.seen c.args.disk.now) (g.D.Disk.seen c.read_journal.new.disk) (g.D.Disk.seen c.finish.new.disk)
          (g.D.Disk.may_leave c.finish.new.disk)
          (outside (link_seen g.L.Link.sent g.L.Link.coming g.L.Link.faults c.args.link.now)
          (sink_seen g.K.Sink.written g.K.Sink.faults c.args.output.now) source h)
          (outside (link_seen g.L.Link.sent g.L.Link.coming g.L.Link.faults c.present.new.link)
          (sink_seen g.K.Sink.written g.K.Sink.faults c.present.new.output) source reported.history)
          (λ p. subst (λ (k : ℕ). count_in c.in_ok-readers.readers.counts p ≤ k) (sym c.in-Ok.ensures.place.0) (c.in_ok-readers.ensures.few p))
          c.in-Ok.ensures.untold c.in-Ok.ensures.length c.in_ok-readers.ensures.tells v gate
          c.in-Ok.ensures.place.1 c.in-Ok.ensures.place.0 c.in-Ok.ensures.ok
          (record { journal = journal; goes = reported.holds });
    }

pub returns-in-Ok-clause-moments : goal.returns-in-Ok-clause-moments
returns-in-Ok-clause-moments g c = λ s v es by some stands.
    let journal = c.in_ok-readers.ensures.reads s 0 by in
    let w = version_of c.in_ok-readers.readers.journal in
    let head = head_in (cast_of c.args.kit.now v) s (g.D.Disk.seen c.args.disk.now) in
    let mid = g.D.Disk.seen c.read_journal.new.disk in
    finish-moments g.D.Disk.seen g.D.Disk.may_leave g.D.Disk.moment g.D.Disk.left_since head es c.args.disk.now
    (g.D.Disk.reads_image c.args.disk.now) some stands c.read_journal.new.disk c.finish.new.disk c.read_journal.ensures.only_read
    (gate_of c.in_ok-readers.readers.journal) journal.all.entries
    (ends-so c.args.kit.now s v w es journal.all.entries (gate_of c.in_ok-readers.readers.journal) (g.D.Disk.seen c.args.disk.now) mid
    (front-there g.D.Disk.seen g.D.Disk.may_leave g.D.Disk.moment g.D.Disk.left_since head es c.args.disk.now
    (g.D.Disk.reads_image c.args.disk.now) some stands)
    (λ reported. ends-at mid (head_in (cast_of c.args.kit.now w) s mid) journal.all.entries
    (gate_of c.in_ok-readers.readers.journal) reported journal.all.read.stands journal.all.closed) some) c.finish.ensures.any_moment

pub returns-in-Ok-clause-stands : goal.returns-in-Ok-clause-stands
returns-in-Ok-clause-stands g c = λ s v es by some stands.
    let journal = c.in_ok-readers.ensures.reads s 0 by in
    let w = version_of c.in_ok-readers.readers.journal in
    let head = head_in (cast_of c.args.kit.now v) s (g.D.Disk.seen c.args.disk.now) in
    let mid = g.D.Disk.seen c.read_journal.new.disk in
    finish-stands g.D.Disk.seen g.D.Disk.may_leave g.D.Disk.moment g.D.Disk.left_since head es c.args.disk.now
    (g.D.Disk.reads_image c.args.disk.now) some stands c.read_journal.new.disk c.finish.new.disk c.read_journal.ensures.only_read
    (gate_of c.in_ok-readers.readers.journal) journal.all.entries
    (ends-so c.args.kit.now s v w es journal.all.entries (gate_of c.in_ok-readers.readers.journal) (g.D.Disk.seen c.args.disk.now) mid
    (front-there g.D.Disk.seen g.D.Disk.may_leave g.D.Disk.moment g.D.Disk.left_since head es c.args.disk.now
    (g.D.Disk.reads_image c.args.disk.now) some stands)
    (λ reported. ends-at mid (head_in (cast_of c.args.kit.now w) s mid) journal.all.entries
    (gate_of c.in_ok-readers.readers.journal) reported journal.all.read.stands journal.all.closed) some) c.finish.ensures.stands

pub returns-clause-stops : goal.returns-clause-stops
returns-clause-stops g c = λ s snap most lines source h by has.
    let kit = c.args.kit.now in
    let v = version_of c.in_ok-readers.readers.journal in
    let cast = cast_of kit v in
    let journal = c.in_ok-readers.ensures.reads s lines by in
    let b = begins_by cast s in
    let head = head_in cast s (g.D.Disk.seen c.read_journal.new.disk) in
    let es = journal.all.entries in
    let read = journal.all.read in
    let n = node_after cast b lines es in
    let reported = c.in_ok-present.ensures.presents v snap most (opens cast b lines es) source h read.hosts_are has
    (to-open cast kit head b lines (g.D.Disk.seen c.read_journal.new.disk) es (gate_of c.in_ok-readers.readers.journal)
    c.in_ok-readers.readers.hosts c.in_ok-readers.readers.counts read c.as_slice.result.now
    (c.as_slice.ensures.value ∙ c.in_ok-greeting.ensures cast kit n.now read.hosts_are)) in
    let x = outside (link_seen g.L.Link.sent g.L.Link.coming g.L.Link.faults c.args.link.now)
    (sink_seen g.K.Sink.written g.K.Sink.faults c.args.output.now) source h in
    let y = outside (link_seen g.L.Link.sent g.L.Link.coming g.L.Link.faults c.present.new.link)
    (sink_seen g.K.Sink.written g.K.Sink.faults c.present.new.output) source reported.history in
    record {
      history = reported.history;
      has = reported.has;
      holds = subst (Unopened kit s snap most lines (g.D.Disk.seen c.args.disk.now) x y)
          (sym (c.stop_at.ensures ∙ by-disk (Journal Writing) (g.D.Disk.faults c.read_journal.new.disk) (g.D.Disk.faults c.finish.new.disk)
          c.in-Err.fault c.in-Err.ensures.cause))
          (opening DiskFailed v es journal.holds
          (not-finished cast snap most (opens cast b lines es) x y read.runs reported.holds));
    }

pub returns-clause-moments : goal.returns-clause-moments
returns-clause-moments g c = λ s v es by some stands.
    let journal = c.in_ok-readers.ensures.reads s 0 by in
    let w = version_of c.in_ok-readers.readers.journal in
    let head = head_in (cast_of c.args.kit.now v) s (g.D.Disk.seen c.args.disk.now) in
    let mid = g.D.Disk.seen c.read_journal.new.disk in
    finish-moments g.D.Disk.seen g.D.Disk.may_leave g.D.Disk.moment g.D.Disk.left_since head es c.args.disk.now
    (g.D.Disk.reads_image c.args.disk.now) some stands c.read_journal.new.disk c.finish.new.disk c.read_journal.ensures.only_read
    (gate_of c.in_ok-readers.readers.journal) journal.all.entries
    (ends-so c.args.kit.now s v w es journal.all.entries (gate_of c.in_ok-readers.readers.journal) (g.D.Disk.seen c.args.disk.now) mid
    (front-there g.D.Disk.seen g.D.Disk.may_leave g.D.Disk.moment g.D.Disk.left_since head es c.args.disk.now
    (g.D.Disk.reads_image c.args.disk.now) some stands)
    (λ reported. ends-at mid (head_in (cast_of c.args.kit.now w) s mid) journal.all.entries
    (gate_of c.in_ok-readers.readers.journal) reported journal.all.read.stands journal.all.closed) some) c.finish.ensures.any_moment

pub returns-clause-stands : goal.returns-clause-stands
returns-clause-stands g c = λ s v es by some stands.
    let journal = c.in_ok-readers.ensures.reads s 0 by in
    let w = version_of c.in_ok-readers.readers.journal in
    let head = head_in (cast_of c.args.kit.now v) s (g.D.Disk.seen c.args.disk.now) in
    let mid = g.D.Disk.seen c.read_journal.new.disk in
    finish-stands g.D.Disk.seen g.D.Disk.may_leave g.D.Disk.moment g.D.Disk.left_since head es c.args.disk.now
    (g.D.Disk.reads_image c.args.disk.now) some stands c.read_journal.new.disk c.finish.new.disk c.read_journal.ensures.only_read
    (gate_of c.in_ok-readers.readers.journal) journal.all.entries
    (ends-so c.args.kit.now s v w es journal.all.entries (gate_of c.in_ok-readers.readers.journal) (g.D.Disk.seen c.args.disk.now) mid
    (front-there g.D.Disk.seen g.D.Disk.may_leave g.D.Disk.moment g.D.Disk.left_since head es c.args.disk.now
    (g.D.Disk.reads_image c.args.disk.now) some stands)
    (λ reported. ends-at mid (head_in (cast_of c.args.kit.now w) s mid) journal.all.entries
    (gate_of c.in_ok-readers.readers.journal) reported journal.all.read.stands journal.all.closed) some) c.finish.ensures.stands

pub finish-requires-clause-ended : goal.finish-requires-clause-ended
finish-requires-clause-ended g c = (c.in_ok-readers.ensures.reads c.requires.begins.0 0 c.requires.begins.1).all.closed
