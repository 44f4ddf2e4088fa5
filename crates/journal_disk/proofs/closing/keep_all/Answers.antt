use Rattle.std.proofs.Common.{Result, Ok, Err}
use Rattle.std.specs.Prelude.{OnOk}
use Rattle.rp_base.specs.declared.failed.Failed.{Failed}
use Rattle.journal_disk.proofs.Moments.{one_call}
use Rattle.journal_disk.proofs.Shutting.{kept_rest}
use Rattle.journal_disk.proofs.closing.keep_all.Goals as goal

pub returns-clause-any_moment : goal.returns-clause-any_moment
returns-clause-any_moment g c =
    one_call g.D.Disk.moment g.D.Disk.left_since c.args.disk.now c.sync.new.self (g.D.Disk.may_leave c.args.disk.now) _
    (λ f left. g.D.Disk.only_now c.args.disk.now f left) c.sync.ensures.time c.sync.ensures.crash

pub returns-clause-ok : goal.returns-clause-ok
returns-clause-ok g c = on_ok c.sync.result c.sync.ensures.durable
    (λ durable. λ head fs gate closed. kept_rest _ head fs gate _ _ closed c.sync.ensures.seen durable)
  where
    on_ok : {P Q : Type 0} (r : Result (Unit {0}) Failed) → OnOk r P → (P → Q) → OnOk r Q
    on_ok (Ok x) p f = f p
    on_ok (Err e) p f = tt
