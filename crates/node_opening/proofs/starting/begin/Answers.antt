use Rattle.std.proofs.Common.{sym, ◌∙◌}
use Rattle.journal_rp.specs.declared.journal.Journal.{Journal}
use Rattle.journal_rp.specs.declared.journal.Reading.{Reading}
use Rattle.journal_rp.specs.Headers.{header}
use Rattle.journal_rp.specs.Stages.{gate_of, version_of}
use Rattle.restored_hosts.specs.Below.{stop}
use Rattle.node_opening.proofs.Held.{begun-so, not-started}
use Rattle.node_opening.proofs.starting.begin.Goals as goal

pub returns-in-Ok-clause-begun : goal.returns-in-Ok-clause-begun
returns-in-Ok-clause-begun g c = begun-so c.args.kit.now (version_of c.in-Ok.journal) (header c.header_of.result) (g.D.Disk.seen c.args.disk.now)
    (g.D.Disk.seen c.start.new.disk) (g.D.Disk.may_leave c.start.new.disk) (gate_of c.in-Ok.journal) c.header_of.ensures.value
    (record {
      begun = c.in-Ok.ensures.begun;
      kind = c.in-Ok.ensures.new_kind;
      first = c.in-Ok.ensures.first;
      only_read = λ some. (c.in-Ok.ensures.only_read some).reads;
      untold = c.in-Ok.ensures.untold;
    })
    (c.in-Ok.ensures.gate ∙ sym (c.header_of.ensures.long (version_of c.in-Ok.journal)))

pub returns-in-Err-clause-unread : goal.returns-in-Err-clause-unread
returns-in-Err-clause-unread g c = λ s lines. not-started (Journal Reading) c.args.kit.now s lines (g.D.Disk.faults c.args.disk.now)
    (g.D.Disk.faults c.start.new.disk) (g.D.Disk.seen c.args.disk.now) (header c.header_of.result) c.in-Err.fault (stop c.stop_at.result)
    c.header_of.ensures.value c.in-Err.ensures.refused c.in-Err.ensures.cause c.stop_at.ensures
