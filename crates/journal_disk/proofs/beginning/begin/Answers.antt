use Rattle.std.proofs.Common.{Result, Ok, Err}
use Rattle.std.specs.Prelude.{OnOk}
use Rattle.rp_base.specs.declared.failed.Failed.{Failed}
use Rattle.journal_disk.proofs.Fresh.{begun_rest}
use Rattle.journal_disk.proofs.beginning.begin.Goals as goal

pub returns-clause-ok : goal.returns-clause-ok
returns-clause-ok g c = on_ok c.sync.result c.sync.ensures.durable
    (λ durable. λ head is empty. begun_rest _ _ _ _ head c.args.bytes.now is empty c.in_ok-write_at.ensures.written c.sync.ensures.seen
    durable)
  where
    on_ok : {P Q : Type 0} (r : Result (Unit {0}) Failed) → OnOk r P → (P → Q) → OnOk r Q
    on_ok (Ok x) p f = f p
    on_ok (Err e) p f = tt
