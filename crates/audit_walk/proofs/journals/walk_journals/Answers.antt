use Rattle.std.proofs.Common.{◌+◌, List, map, refl, subst}
use Rattle.std.proofs.lemmas.Result.{err_from_is_err_and}
use Rattle.audit_defs.specs.Sources.{Step, steps_in, steps_of}
use Rattle.audit_defs.specs.Audits.{goes_through}
use Rattle.journal_steps.specs.Views.{source}
use Rattle.audit_walk.specs.Ways.{IsOnWay}
use Rattle.audit_walk.proofs.Going.{all-taken, journal-left, journal-refused, journal-taken, none-left, steps-left}
use Rattle.audit_walk.proofs.journals.walk_journals.Goals as goal

pub loop-journal-init : goal.loop-journal-init
loop-journal-init g c = λ s k own shares walk. record { known = k; own = own; walk = walk; ends = refl }

pub loop-journal-preserved : goal.loop-journal-preserved
loop-journal-preserved g c = λ s k own shares walk.
    let xs = c.args.sources.now in
    let j = c.loop-journal.journal in
    let x = c.index-sources-journal.result in
    let end = goes_through s k (steps_of (map source xs)) in
    let way = subst (λ (steps : List Step). IsOnWay s end steps c.loop-journal.walk)
    (journal-left j xs x c.loop-journal-test.true c.index-sources-journal.is) (c.loop-journal.invariant s k own shares walk) in
    journal-taken s end (steps-left (j + 1) xs) c.loop-journal.walk c.walk_journal.new.walk (steps_in (j, source x)) way
    (c.in_ok-walk_journal.ensures.walked s way.known way.own shares way.walk)

pub returns-in_err-walk_journal-clause-refused : goal.returns-in_err-walk_journal-clause-refused
returns-in_err-walk_journal-clause-refused g c = λ s k own shares walk.
    let xs = c.args.sources.now in
    let j = c.loop-journal.journal in
    let x = c.index-sources-journal.result in
    let end = goes_through s k (steps_of (map source xs)) in
    let way = subst (λ (steps : List Step). IsOnWay s end steps c.loop-journal.walk)
    (journal-left j xs x c.loop-journal-test.true c.index-sources-journal.is) (c.loop-journal.invariant s k own shares walk) in
    let out = err_from_is_err_and c.from_residual.result c.from_residual.ensures.1 in
    rw (out.1, out.2) (journal-refused s end (steps-left (j + 1) xs) c.loop-journal.walk c.walk_journal.new.walk (steps_in (j, source x)) way
    c.in_err-walk_journal.field-0.0 (c.in_err-walk_journal.ensures.refused s way.known way.own shares way.walk))

pub returns-clause-walked : goal.returns-clause-walked
returns-clause-walked g c = λ s k own shares walk.
    let xs = c.args.sources.now in
    let end = goes_through s k (steps_of (map source xs)) in
    all-taken s end c.loop-journal.walk (subst (λ (steps : List Step). IsOnWay s end steps c.loop-journal.walk)
    (none-left c.loop-journal.journal xs c.loop-journal-test.false) (c.loop-journal.invariant s k own shares walk))
