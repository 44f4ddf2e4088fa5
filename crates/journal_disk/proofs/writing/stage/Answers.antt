use Rattle.std.proofs.Common.{◌≡◌, ℕ, ◌+◌, List, Option, Result, Ok, Err, subst, sym}
use Rattle.std.specs.Prelude.{OnOk}
use Rattle.rp_base.specs.declared.failed.Failed.{Failed}
use Rattle.journal_defs.specs.Crashes.{IsImageOf}
use Rattle.journal_disk.proofs.Moments.{one_call, goes_on}
use Rattle.journal_disk.proofs.Steps.{rest_image, staging_image, torn_rest, has_staged}
use Rattle.journal_disk.specs.Disks.{HasLength}
use Rattle.journal_disk.proofs.Fresh.{length_after}
use Rattle.journal_disk.proofs.writing.stage.Goals as goal

pub returns-in_err-write_at-clause-any_moment : goal.returns-in_err-write_at-clause-any_moment
returns-in_err-write_at-clause-any_moment g c = λ head es r.
    one_call g.D.Disk.moment g.D.Disk.left_since c.args.disk.now c.write_at.new.self (λ image. IsImageOf head image es) _
    (λ f left. rest_image _ _ head es c.args.gate r f (g.D.Disk.only_now c.args.disk.now f left))
    c.write_at.ensures.time (staging_image _ _ head es c.args.gate r _ _ c.write_at.ensures.crash)

pub returns-clause-any_moment : goal.returns-clause-any_moment
returns-clause-any_moment g c = λ head es r.
    let image = staging_image _ _ head es c.args.gate r _ _ c.write_at.ensures.crash in
    goes_on g.D.Disk.moment g.D.Disk.left_since c.args.disk.now c.write_at.new.self c.sync.new.self (λ image. IsImageOf head image es) _
    (one_call g.D.Disk.moment g.D.Disk.left_since c.args.disk.now c.write_at.new.self (λ image. IsImageOf head image es) _
    (λ f left. rest_image _ _ head es c.args.gate r f (g.D.Disk.only_now c.args.disk.now f left)) c.write_at.ensures.time image)
    c.sync.ensures.time (λ f now. image f (c.sync.ensures.crash f now))

pub returns-clause-ok : goal.returns-clause-ok
returns-clause-ok g c = on_ok c.sync.result c.sync.ensures.durable
    (λ durable. λ head es e r is spelled. has_staged _ _ head es c.args.gate r e c.args.bytes.now _ _ _ is spelled
    c.in_ok-write_at.ensures.written c.sync.ensures.seen durable)
  where
    on_ok : {P Q : Type 0} (r : Result (Unit {0}) Failed) → OnOk r P → (P → Q) → OnOk r Q
    on_ok (Ok x) p f = f p
    on_ok (Err e) p f = tt

pub returns-in_err-write_at-clause-rests : goal.returns-in_err-write_at-clause-rests
returns-in_err-write_at-clause-rests g c = λ head es r. torn_rest _ _ head es c.args.gate r _ _ c.write_at.ensures.crash

pub returns-clause-rests : goal.returns-clause-rests
returns-clause-rests g c = λ head es r. λ f now. torn_rest _ _ head es c.args.gate r _ _ c.write_at.ensures.crash f
    (c.sync.ensures.crash f now)

pub returns-clause-length : goal.returns-clause-length
returns-clause-length g c = λ len has. always c.sync.result
    (moved _ c.sync.ensures.seen (length_after _ _
    (c.args.gate + 1) len c.args.bytes.now c.requires.within c.in_ok-write_at.ensures.written has))
  where
    always : {P : Type 0} (r : Result (Unit {0}) Failed) → P → OnOk r P
    always (Ok x) p = p
    always (Err e) p = tt

    moved : (n : ℕ) {a b : Option (List ℕ)} → b ≡ a → HasLength a n → HasLength b n
    moved n same has = subst (λ (o : Option (List ℕ)). HasLength o n) (sym same) has
