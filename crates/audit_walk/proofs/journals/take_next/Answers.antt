use Rattle.std.proofs.Common.{List, [], length, sym, ap, subst, arith, ◌∙◌}
use Rattle.std.proofs.lemmas.Result.{err_from_is_err_and}
use Rattle.audit_defs.specs.Sources.{Step}
use Rattle.journal_steps.specs.Views.{steps_left}
use Rattle.audit_walk.specs.Ways.{IsOnWay}
use Rattle.audit_walk.proofs.Going.{gate-broken}
use Rattle.audit_walk.proofs.journals.take_next.Goals as goal

pub returns-in_ok-take_entry-in-Ok-Some-clause-goes : goal.returns-in_ok-take_entry-in-Ok-Some-clause-goes
returns-in_ok-take_entry-in-Ok-Some-clause-goes g c = λ s end shares way.
    let takes = rw c.in-Ok-Some.field-0-is at c.in-Ok-Some.ensures.takes in
    c.in_ok-take_entry-in-Ok-Some.ensures.goes s end (steps_left c.args.journal c.next.new.self) shares
    (subst (λ (steps : List Step). IsOnWay s end steps c.args.walk.now) (takes c.args.journal) way)

pub returns-in_ok-take_entry-in-Ok-Some-clause-fewer : goal.returns-in_ok-take_entry-in-Ok-Some-clause-fewer
returns-in_ok-take_entry-in-Ok-Some-clause-fewer g c = λ more.
    let takes = rw c.in-Ok-Some.field-0-is at c.in-Ok-Some.ensures.takes in
    omega (arith, ap (λ (steps : List Step). length steps) (takes c.args.journal))

pub returns-in_err-take_entry-in-Ok-Some-clause-refused : goal.returns-in_err-take_entry-in-Ok-Some-clause-refused
returns-in_err-take_entry-in-Ok-Some-clause-refused g c = λ s end shares way.
    let takes = rw c.in-Ok-Some.field-0-is at c.in-Ok-Some.ensures.takes in
    let out = err_from_is_err_and c.from_residual.result c.from_residual.ensures.1 in
    rw (out.1, out.2) (c.in_err-take_entry-in-Ok-Some.ensures.refused s end (steps_left c.args.journal c.next.new.self) shares
    (subst (λ (steps : List Step). IsOnWay s end steps c.args.walk.now) (takes c.args.journal) way))

pub returns-in-Ok-None-clause-goes : goal.returns-in-Ok-None-clause-goes
returns-in-Ok-None-clause-goes g c = λ s end shares way.
    let none = rw c.in-Ok-None.field-0-is at c.in-Ok-None.ensures.none in
    subst (λ st. IsOnWay s end (steps_left c.args.journal st) c.args.walk.now) (sym none) way

pub returns-in-Ok-None-clause-ended : goal.returns-in-Ok-None-clause-ended
returns-in-Ok-None-clause-ended g c = λ more.
    let none = rw c.in-Ok-None.field-0-is at c.in-Ok-None.ensures.none in
    let ends = rw c.in-Ok-None.field-0-is at c.in-Ok-None.ensures.ends in
    ap (steps_left c.args.journal) none ∙ ends c.args.journal

pub returns-in-Err-clause-refused : goal.returns-in-Err-clause-refused
returns-in-Err-clause-refused g c = λ s end shares way.
    gate-broken s end [] c.args.walk.now c.args.walk.now c.args.journal c.in-Err.place
    (subst (λ (steps : List Step). IsOnWay s end steps c.args.walk.now) (c.in-Err.ensures.breaks c.args.journal) way)
