use Rattle.std.proofs.Common.{List, sym, ap, subst}
use Rattle.std.proofs.lemmas.Result.{err_from_is_err_and}
use Rattle.audit_defs.specs.Sources.{Step, steps_in}
use Rattle.audit_defs.specs.Audits.{goes_through}
use Rattle.journal_steps.specs.Views.{source}
use Rattle.audit_walk.specs.Ways.{IsOnWay}
use Rattle.audit_walk.proofs.Going.{all-taken}
use Rattle.audit_walk.proofs.journals.walk_journal.Goals as goal

pub gates-init : goal.gates-init
gates-init g c = λ s k own shares walk. record {
  known = k;
  own = own;
  walk = walk;
  ends = ap (goes_through s k) (sym (c.steps-steps.ensures c.args.journal));
}

pub gates-preserved : goal.gates-preserved
gates-preserved g c = λ s k own shares walk.
    c.in_ok-take_next.ensures.goes s (goes_through s k (steps_in (c.args.journal, source c.args.source.now))) shares
    (c.gates.invariant s k own shares walk)

pub returns-in_err-take_next-clause-refused : goal.returns-in_err-take_next-clause-refused
returns-in_err-take_next-clause-refused g c = λ s k own shares walk.
    let out = err_from_is_err_and c.from_residual.result c.from_residual.ensures.1 in
    rw (out.1, out.2) (c.in_err-take_next.ensures.refused s (goes_through s k (steps_in (c.args.journal, source c.args.source.now))) shares
    (c.gates.invariant s k own shares walk))

pub returns-clause-walked : goal.returns-clause-walked
returns-clause-walked g c = λ s k own shares walk.
    let end = goes_through s k (steps_in (c.args.journal, source c.args.source.now)) in
    all-taken s end c.take_next.new.walk (subst (λ (steps : List Step). IsOnWay s end steps c.take_next.new.walk)
    (c.in_ok-take_next.ensures.ended c.if-branch.false)
    (c.in_ok-take_next.ensures.goes s end shares (c.gates.invariant s k own shares walk)))
