use Rattle.std.proofs.Common.{inl, inr, ◌+◌, max, length, arith}
use Rattle.journal_defs.specs.Crashes.{IsImageOf, IsWithOrWithout}
use Rattle.journal_disk.proofs.Moments.{weaker, then}
use Rattle.journal_disk.proofs.writing.append.Goals as goal

pub returns-in_err-stage-clause-any_moment : goal.returns-in_err-stage-clause-any_moment
returns-in_err-stage-clause-any_moment g c = λ head es e r is spelled.
    weaker g.D.Disk.moment g.D.Disk.left_since c.args.disk.now c.stage.new.disk (λ image. IsImageOf head image es)
    (IsWithOrWithout head es e) (λ f image. inl image) (c.stage.ensures.any_moment head es r)

pub returns-clause-any_moment : goal.returns-clause-any_moment
returns-clause-any_moment g c = λ head es e r is spelled.
    then g.D.Disk.moment g.D.Disk.left_since c.args.disk.now c.stage.new.disk c.open_gate.new.disk (IsWithOrWithout head es e)
    (weaker g.D.Disk.moment g.D.Disk.left_since c.args.disk.now c.stage.new.disk (λ image. IsImageOf head image es)
    (IsWithOrWithout head es e) (λ f image. inl image) (c.stage.ensures.any_moment head es r))
    (c.open_gate.ensures.any_moment head es e (c.in_ok-stage.ensures.ok head es e r is spelled))

pub returns-in_err-stage-clause-in_order : goal.returns-in_err-stage-clause-in_order
returns-in_err-stage-clause-in_order g c = λ head es e r is spelled. inl (c.stage.ensures.any_moment head es r)

pub returns-clause-in_order : goal.returns-clause-in_order
returns-clause-in_order g c = λ head es e r is spelled.
    let staged = c.in_ok-stage.ensures.ok head es e r is spelled in
    inr (c.stage.new.disk, staged, c.stage.ensures.any_moment head es r, c.open_gate.ensures.any_moment head es e staged)

pub returns-in_err-stage-clause-stands : goal.returns-in_err-stage-clause-stands
returns-in_err-stage-clause-stands g c = λ head es e r is spelled. record { each = r.each; all = inl (c.stage.ensures.rests head es r) }

pub returns-clause-stands : goal.returns-clause-stands
returns-clause-stands g c = λ head es e r is spelled. record {
  each = r.each;
  all = inr (e, is, c.open_gate.ensures.opening head es e (c.in_ok-stage.ensures.ok head es e r is spelled));
}

pub returns-clause-length : goal.returns-clause-length
returns-clause-length g c = λ len has. c.open_gate.ensures.length (max len (c.args.gate + 1 + length c.args.bytes.now)) (omega arith)
    (c.in_ok-stage.ensures.length len has)
