use Rattle.std.proofs.Common.{Result, Ok, Err}
use Rattle.std.specs.Prelude.{OnOk}
use Rattle.rp_base.specs.declared.failed.Failed.{Failed}
use Rattle.journal_defs.specs.Crashes.{IsWithOrWithout}
use Rattle.journal_disk.proofs.Moments.{one_call, goes_on}
use Rattle.journal_disk.proofs.Shutting.{torn_opening, opening_images, shut_rest}
use Rattle.journal_disk.proofs.closing.shut_gate.Goals as goal

pub returns-in_err-write_at-clause-any_moment : goal.returns-in_err-write_at-clause-any_moment
returns-in_err-write_at-clause-any_moment g c = λ head es e each is all place.
    one_call g.D.Disk.moment g.D.Disk.left_since c.args.disk.now c.write_at.new.self (IsWithOrWithout head es e) _
    (λ f left. opening_images head es e _ each is all f (g.D.Disk.only_now c.args.disk.now f left))
    c.write_at.ensures.time (opening_images head es e _ each is (torn_opening head es e c.args.gate _ _ all place c.write_at.ensures.crash))

pub returns-in_err-write_at-clause-stands : goal.returns-in_err-write_at-clause-stands
returns-in_err-write_at-clause-stands g c = λ head es e all place. torn_opening head es e c.args.gate _ _ all place c.write_at.ensures.crash

pub returns-clause-any_moment : goal.returns-clause-any_moment
returns-clause-any_moment g c = λ head es e each is all place.
    let image = opening_images head es e _ each is (torn_opening head es e c.args.gate _ _ all place c.write_at.ensures.crash) in
    goes_on g.D.Disk.moment g.D.Disk.left_since c.args.disk.now c.write_at.new.self c.sync.new.self (IsWithOrWithout head es e) _
    (one_call g.D.Disk.moment g.D.Disk.left_since c.args.disk.now c.write_at.new.self (IsWithOrWithout head es e) _
    (λ f left. opening_images head es e _ each is all f (g.D.Disk.only_now c.args.disk.now f left)) c.write_at.ensures.time image)
    c.sync.ensures.time (λ f now. image f (c.sync.ensures.crash f now))

pub returns-clause-stands : goal.returns-clause-stands
returns-clause-stands g c = λ head es e all place. λ f now. torn_opening head es e c.args.gate _ _ all place c.write_at.ensures.crash f
    (c.sync.ensures.crash f now)

pub returns-clause-ok : goal.returns-clause-ok
returns-clause-ok g c = on_ok c.sync.result c.sync.ensures.durable
    (λ durable. λ head fs ends. shut_rest _ head fs c.args.gate _ _ _ ends c.in_ok-write_at.ensures.written c.sync.ensures.seen durable)
  where
    on_ok : {P Q : Type 0} (r : Result (Unit {0}) Failed) → OnOk r P → (P → Q) → OnOk r Q
    on_ok (Ok x) p f = f p
    on_ok (Err e) p f = tt
