use Rattle.std.proofs.Common.{refl, subst, arith}
use Rattle.std.proofs.Math.Logic.{∥∥₁_elim}
use Rattle.std.proofs.Props.{props}
use Rattle.member_events.specs.Below.{claims_left}
use Rattle.rule_laws.specs.Heard.{IsPool}
use Rattle.claim_hearing.specs.Settings.{as_setting}
use Rattle.member_taking.proofs.States.{hears, newly-heard}
use Rattle.member_taking.proofs.taking_in.hear.Goals as goal

pub overflow_sub-newly : goal.overflow_sub-newly
overflow_sub-newly g c =
    let r = as_setting (g.V.Scheme.valid c.args.judge.now.scheme.now) c.args.judge.now.group.now c.args.judge.now.roster.now in
    ∥∥₁_elim c.requires.real (hlevel props) (λ real.
    let heard = c.in_ok-hear_all.ensures.heard r real.process (record { rule = refl; bound = refl; keys = refl })
    (subst IsPool real.state.place.pool real.state.lawful.pool) real.state.place.delivered real.state.place.pool real.state.pairs in
    let grown = newly-heard r real.process
    (claims_left c.args.claims) c.args.state.now.pool.pool c.hear_all.new.pool.pool c.hear_all.new.conflicts.pairs real.state.place.pool
    heard in
    omega (arith, grown.0, c.size-before.ensures.claims, c.size.ensures.claims))

pub overflow_cast-result : goal.overflow_cast-result
overflow_cast-result g c =
    let r = as_setting (g.V.Scheme.valid c.args.judge.now.scheme.now) c.args.judge.now.group.now c.args.judge.now.roster.now in
    ∥∥₁_elim c.requires.real (hlevel props) (λ real.
    let heard = c.in_ok-hear_all.ensures.heard r real.process (record { rule = refl; bound = refl; keys = refl })
    (subst IsPool real.state.place.pool real.state.lawful.pool) real.state.place.delivered real.state.place.pool real.state.pairs in
    let grown = newly-heard r real.process
    (claims_left c.args.claims) c.args.state.now.pool.pool c.hear_all.new.pool.pool c.hear_all.new.conflicts.pairs real.state.place.pool
    heard in
    omega (arith, grown.1, c.requires.few, c.size-before.ensures.claims, c.size.ensures.claims))

pub returns-clause-taken : goal.returns-clause-taken
returns-clause-taken g c s r p shares is =
    hears s p c.args.state.now is r (claims_left c.args.claims) c.requires.range c.hear_all.new.pool c.hear_all.new.conflicts
    (c.in_ok-hear_all.ensures.heard r p shares (subst IsPool is.place.pool is.lawful.pool) is.place.delivered is.place.pool is.pairs)
