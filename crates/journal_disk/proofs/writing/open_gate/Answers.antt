use Rattle.std.proofs.Common.{◌≡◌, ℕ, List, Option, Result, Ok, Err, subst, sym}
use Rattle.std.specs.Prelude.{OnOk}
use Rattle.rp_base.specs.declared.failed.Failed.{Failed}
use Rattle.journal_defs.specs.Crashes.{IsWithOrWithout}
use Rattle.journal_disk.proofs.Moments.{one_call, goes_on}
use Rattle.journal_disk.proofs.Steps.{staged_image, opening_image, has_rest}
use Rattle.journal_disk.specs.Disks.{HasLength}
use Rattle.journal_disk.proofs.Fresh.{length_same}
use Rattle.journal_disk.proofs.Shutting.{staged_all, torn_opening}
use Rattle.journal_disk.proofs.writing.open_gate.Goals as goal

pub returns-in_err-write_at-clause-any_moment : goal.returns-in_err-write_at-clause-any_moment
returns-in_err-write_at-clause-any_moment g c = λ head es e s.
    one_call g.D.Disk.moment g.D.Disk.left_since c.args.disk.now c.write_at.new.self (IsWithOrWithout head es e) _
    (λ f left. staged_image _ _ head es e c.args.gate s f (g.D.Disk.only_now c.args.disk.now f left))
    c.write_at.ensures.time (opening_image _ _ head es e c.args.gate s _ c.write_at.ensures.crash)

pub returns-clause-any_moment : goal.returns-clause-any_moment
returns-clause-any_moment g c = λ head es e s.
    let image = opening_image _ _ head es e c.args.gate s _ c.write_at.ensures.crash in
    goes_on g.D.Disk.moment g.D.Disk.left_since c.args.disk.now c.write_at.new.self c.sync.new.self (IsWithOrWithout head es e) _
    (one_call g.D.Disk.moment g.D.Disk.left_since c.args.disk.now c.write_at.new.self (IsWithOrWithout head es e) _
    (λ f left. staged_image _ _ head es e c.args.gate s f (g.D.Disk.only_now c.args.disk.now f left)) c.write_at.ensures.time image)
    c.sync.ensures.time (λ f now. image f (c.sync.ensures.crash f now))

pub returns-clause-ok : goal.returns-clause-ok
returns-clause-ok g c = on_ok c.sync.result c.sync.ensures.durable
    (λ durable. λ head es e s. has_rest _ _ head es e c.args.gate s _ _ _ c.in_ok-write_at.ensures.written c.sync.ensures.seen durable)
  where
    on_ok : {P Q : Type 0} (r : Result (Unit {0}) Failed) → OnOk r P → (P → Q) → OnOk r Q
    on_ok (Ok x) p f = f p
    on_ok (Err e) p f = tt

pub returns-in_err-write_at-clause-opening : goal.returns-in_err-write_at-clause-opening
returns-in_err-write_at-clause-opening g c = λ head es e s. torn_opening head es e c.args.gate _ _
    (staged_all _ _ head es e c.args.gate s) s.place c.write_at.ensures.crash

pub returns-clause-opening : goal.returns-clause-opening
returns-clause-opening g c = λ head es e s. λ f now. torn_opening head es e c.args.gate _ _
    (staged_all _ _ head es e c.args.gate s) s.place c.write_at.ensures.crash f (c.sync.ensures.crash f now)

pub returns-clause-length : goal.returns-clause-length
returns-clause-length g c = λ len within has. always c.sync.result
    (moved _ c.sync.ensures.seen (length_same _ _ c.args.gate len 1 within c.in_ok-write_at.ensures.written has))
  where
    always : {P : Type 0} (r : Result (Unit {0}) Failed) → P → OnOk r P
    always (Ok x) p = p
    always (Err e) p = tt

    moved : (n : ℕ) {a b : Option (List ℕ)} → b ≡ a → HasLength a n → HasLength b n
    moved n same has = subst (λ (o : Option (List ℕ)). HasLength o n) (sym same) has
