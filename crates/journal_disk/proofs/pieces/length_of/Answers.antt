use Rattle.journal_disk.proofs.OnceRead.{only_read}
use Rattle.journal_disk.proofs.pieces.length_of.Goals as goal

pub returns-clause-disk : goal.returns-clause-disk
returns-clause-disk g c = only_read g.D.Disk.seen g.D.Disk.may_leave g.D.Disk.moment g.D.Disk.left_since c.args.disk.now c.len.new.self
    (λ f left. g.D.Disk.only_now c.args.disk.now f left) c.len.ensures.seen c.len.ensures.crash c.len.ensures.time
