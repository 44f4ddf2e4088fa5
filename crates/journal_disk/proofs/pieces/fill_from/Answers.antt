use Rattle.std.proofs.Common.{Result, Ok, Err}
use Rattle.std.specs.Prelude.{OnOk}
use Rattle.rp_base.specs.declared.failed.Failed.{Failed}
use Rattle.journal_disk.proofs.OnceRead.{only_read, begins}
use Rattle.journal_disk.proofs.pieces.fill_from.Goals as goal

pub returns-clause-disk : goal.returns-clause-disk
returns-clause-disk g c = only_read g.D.Disk.seen g.D.Disk.may_leave g.D.Disk.moment g.D.Disk.left_since c.args.disk.now c.read_at.new.self
    (λ f left. g.D.Disk.only_now c.args.disk.now f left) c.read_at.ensures.seen c.read_at.ensures.crash c.read_at.ensures.time

pub returns-clause-bytes : goal.returns-clause-bytes
returns-clause-bytes g c = on_ok c.read_at.result c.read_at.ensures.bytes
    (λ reads. begins (g.D.Disk.seen c.args.disk.now) c.args.at c.read_at.new.into reads)
  where
    on_ok : {P Q : Type 0} (r : Result (Unit {0}) Failed) → OnOk r P → (P → Q) → OnOk r Q
    on_ok (Ok x) p f = f p
    on_ok (Err e) p f = tt
