use Rattle.std.proofs.Common.{ℕ, List, [], ◌∷◌, inr, ap, subst, ◌∙◌, length, Result, Ok, Err}
use Rattle.std.specs.Prelude.{OnOk}
use Rattle.std.specs.Option.{IfSome}
use Rattle.rp_base.specs.declared.failed.Failed.{Failed}
use Rattle.journal_defs.specs.Entries.{Entry}
use Rattle.journal_defs.specs.Journals.{up_to_gate}
use Rattle.journal_defs.specs.Crashes.{IsWithOrWithout}
use Rattle.journal_disk.specs.Disks.{BeginsAt, LeavesStaged}
use Rattle.journal_disk.proofs.Moments.{weaker}
use Rattle.journal_disk.proofs.OnceRead.{reads_before}
use Rattle.journal_disk.proofs.Shutting.{ends_closed, torn_there, opening_images, found_images, staged_left}
use Rattle.journal_disk.proofs.closing.close_gate.Goals as goal

pub returns-in_err-byte-clause-any_moment : goal.returns-in_err-byte-clause-any_moment
returns-in_err-byte-clause-any_moment g c = λ head es fs s ends.
    weaker g.D.Disk.moment g.D.Disk.left_since c.args.disk.now c.byte_at.new.disk (g.D.Disk.may_leave c.args.disk.now)
    (LeavesStaged head es (g.D.Disk.may_leave c.args.disk.now)) (found_images head es _ s) c.byte_at.ensures.disk.moments

pub returns-then-byte-eq-CLOSED-clause-ok : goal.returns-then-byte-eq-CLOSED-clause-ok
returns-then-byte-eq-CLOSED-clause-ok g c = on_ok c.keep_all.result c.keep_all.ensures.ok
    (λ ok. λ head fs ends. ok head fs c.args.gate (ends_closed _ head fs c.args.gate _ c.byte_at.ensures.disk.reads ends
    (subst (λ (b : ℕ). IfSome (g.D.Disk.seen c.args.disk.now)
    (λ file. BeginsAt file c.args.gate (b ∷ []))) c.if-byte-eq-CLOSED.true c.in_ok-byte.ensures.value)))
  where
    on_ok : {P Q : Type 0} (r : Result (Unit {0}) Failed) → OnOk r P → (P → Q) → OnOk r Q
    on_ok (Ok x) p f = f p
    on_ok (Err e) p f = tt

pub returns-then-byte-eq-CLOSED-clause-any_moment : goal.returns-then-byte-eq-CLOSED-clause-any_moment
returns-then-byte-eq-CLOSED-clause-any_moment g c = λ head es fs s ends.
    let old = g.D.Disk.may_leave c.args.disk.now in
    let left = LeavesStaged head es old in
    reads_before g.D.Disk.seen g.D.Disk.may_leave g.D.Disk.moment g.D.Disk.left_since c.args.disk.now c.byte_at.new.disk c.keep_all.new.disk
    left c.byte_at.ensures.disk (found_images head es old s)
    (weaker g.D.Disk.moment g.D.Disk.left_since c.byte_at.new.disk c.keep_all.new.disk (g.D.Disk.may_leave c.byte_at.new.disk) left
    (λ f now. found_images head es old s f ((c.byte_at.ensures.disk.images f).0 now)) c.keep_all.ensures.any_moment)

pub returns-else-byte-eq-CLOSED-clause-any_moment : goal.returns-else-byte-eq-CLOSED-clause-any_moment
returns-else-byte-eq-CLOSED-clause-any_moment g c = λ head es fs s ends.
    let old = g.D.Disk.may_leave c.args.disk.now in
    let t = torn_there _ old head es fs c.args.gate _ s
    (g.D.Disk.reads_image c.args.disk.now) ends c.in_ok-byte.ensures.value c.if-byte-eq-CLOSED.false in
    let place = ends.place ∙ ap (λ (l : List Entry). length (up_to_gate head l)) t.2 in
    let so = IsWithOrWithout head es t.0 in
    weaker g.D.Disk.moment g.D.Disk.left_since c.args.disk.now c.shut_gate.new.disk so (LeavesStaged head es old)
    (staged_left head es t.0 old t.3)
    (reads_before g.D.Disk.seen g.D.Disk.may_leave g.D.Disk.moment g.D.Disk.left_since c.args.disk.now c.byte_at.new.disk
    c.shut_gate.new.disk so c.byte_at.ensures.disk (opening_images head es t.0 old s.each t.1 t.3)
    (c.shut_gate.ensures.any_moment head es t.0 s.each t.1 (λ f now. t.3 f ((c.byte_at.ensures.disk.images f).0 now)) place))

pub returns-else-byte-eq-CLOSED-clause-stands : goal.returns-else-byte-eq-CLOSED-clause-stands
returns-else-byte-eq-CLOSED-clause-stands g c = λ head es fs s ends.
    let old = g.D.Disk.may_leave c.args.disk.now in
    let t = torn_there _ old head es fs c.args.gate _ s
    (g.D.Disk.reads_image c.args.disk.now) ends c.in_ok-byte.ensures.value c.if-byte-eq-CLOSED.false in
    let place = ends.place ∙ ap (λ (l : List Entry). length (up_to_gate head l)) t.2 in
    record {
      each = s.each;
      all = inr
          (t.0, t.1, c.shut_gate.ensures.stands head es t.0 (λ f now. t.3 f ((c.byte_at.ensures.disk.images f).0 now)) place);
    }
