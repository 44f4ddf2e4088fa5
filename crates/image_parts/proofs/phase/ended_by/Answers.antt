use Rattle.std.proofs.Common.{◌∙◌, ◌≢◌, ℕ, Some, sym, ap, subst}
use Rattle.message_defs.specs.Updates.{Value}
use Rattle.group_defs.specs.Views.{is_member}
use Rattle.claim_pool.specs.Certificates.{content_of}
use Rattle.view_phases.specs.Phases.{decided}
use Rattle.image_parts.proofs.Phases.{ended-some, ended-none}
use Rattle.image_parts.proofs.phase.ended_by.Goals as goal

pub returns-in-Some-clause-is : goal.returns-in-Some-clause-is
returns-in-Some-clause-is c = λ d read p is many so.
    let by = ended-some (is_member c.args.view.now c.args.me) c.args.keyed c.args.view.now (content_of c.args.ready.now) d read
    (decided c.in-Some.decided) c.in-Some.ensures in
    c.settled.ensures.is p (is ∙ ap Some (sym by.2)) many so

pub returns-in-Some-clause-exact : goal.returns-in-Some-clause-exact
returns-in-Some-clause-exact c = λ d read.
    let by = ended-some (is_member c.args.view.now c.args.me) c.args.keyed c.args.view.now (content_of c.args.ready.now) d read
    (decided c.in-Some.decided) c.in-Some.ensures in (
      λ ok. (by.1, by.0, subst (λ (e : ℕ × Value). c.args.places ≢ e.1.cut) by.2 (c.settled.ensures.exact.0 ok)),
      λ ends. c.settled.ensures.exact.1 (subst (λ (e : ℕ × Value). c.args.places ≢ e.1.cut) (sym by.2) ends.2),
    )

pub returns-in-None-clause-exact : goal.returns-in-None-clause-exact
returns-in-None-clause-exact c = λ d read. (
  λ no_way. absurd cc,
  λ ends. absurd (ended-none (is_member c.args.view.now c.args.me) c.args.keyed c.args.view.now (content_of c.args.ready.now) d read
      c.in-None.ensures ends.1 ends.0),
)
