use Rattle.std.proofs.Common.{subst}
use Rattle.std.specs.Prelude.{◌↔◌, IsTrue, is_some}
use Rattle.group_defs.specs.Views.{View, IsView}
use Rattle.group_defs.specs.Process.{Pool}
use Rattle.claim_pool.specs.Certificates.{content_of}
use Rattle.image_parts.specs.InView.{EndsView}
use Rattle.image_parts.proofs.Phases.{ready-read, ready-there}
use Rattle.image_parts.proofs.phase.decided_so.Goals as goal

pub returns-in-Some-clause-is : goal.returns-in-Some-clause-is
returns-in-Some-clause-is c = λ v certified p.
    let h : Pool = c.args.pool.now.pool in
    let view : IsView h.view = subst IsView c.view-current.ensures c.members-members.ensures.within.1 in
    c.ended_by.ensures.is (c.args.rank, v) (ready-read h view c.args.rank v certified (content_of c.in-Some.ready) c.in-Some.ensures.content) p

pub returns-in-Some-clause-exact : goal.returns-in-Some-clause-exact
returns-in-Some-clause-exact c = λ v certified.
    let h : Pool = c.args.pool.now.pool in
    let view : IsView h.view = subst IsView c.view-current.ensures c.members-members.ensures.within.1 in
    subst (λ (w : View). IsTrue (is_some c.ended_by.result) ↔ EndsView w c.args.keyed c.args.me c.args.places (c.args.rank, v)) c.view-current.ensures
    (c.ended_by.ensures.exact (c.args.rank, v)
    (ready-read h view c.args.rank v certified (content_of c.in-Some.ready) c.in-Some.ensures.content))

pub returns-in-None-clause-exact : goal.returns-in-None-clause-exact
returns-in-None-clause-exact c = λ v certified.
    let h : Pool = c.args.pool.now.pool in
    let view : IsView h.view = subst IsView c.view-current.ensures c.members-members.ensures.within.1 in (
      λ no_way. absurd cc,
      λ ends. absurd (ready-there h view c.args.rank v certified c.in-None.ensures.content),
    )
