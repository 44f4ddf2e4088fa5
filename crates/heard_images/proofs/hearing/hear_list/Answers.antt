use Rattle.std.proofs.Common.{◌∙◌, [], sym, ap, subst}
use Rattle.std.specs.Prelude.{◌↔◌, IsTrue}
use Rattle.group_defs.specs.Process.{Pool}
use Rattle.image_defs.specs.Kept.{AreHeard}
use Rattle.heard_images.specs.Hearing.{with_more}
use Rattle.heard_images.proofs.Heard.{at, at-none, delivered-none, list-is}
use Rattle.heard_images.proofs.hearing.hear_list.Goals as goal

pub returns-then-are_new-clause-heard : goal.returns-then-are_new-clause-heard
returns-then-are_new-clause-heard g c =
    c.in_ok-are_new.ensures.heard c.if-are_new.true ∙ ap (λ (h : Pool). with_more h c.args.claims.now) c.in_ok-pool.ensures.pool

pub returns-then-are_new-clause-exact : goal.returns-then-are_new-clause-exact
returns-then-are_new-clause-exact g c s p shares has is =
    subst (λ b. IsTrue b ↔ AreHeard s p) c.if-are_new.true
    (list-is s p c.args.view c.args.claims.now is c.in_ok-are_new.are_new
    (c.in_ok-are_new.ensures.new s (at s p []) shares (delivered-none s p c.args.own.now has)
    (at-none s p c.args.view c.args.claims.now is ∙ sym c.in_ok-pool.ensures.pool)))

pub returns-else-are_new-clause-exact : goal.returns-else-are_new-clause-exact
returns-else-are_new-clause-exact g c s p shares has is =
    subst (λ b. IsTrue b ↔ AreHeard s p) c.if-are_new.false
    (list-is s p c.args.view c.args.claims.now is c.in_ok-are_new.are_new
    (c.in_ok-are_new.ensures.new s (at s p []) shares (delivered-none s p c.args.own.now has)
    (at-none s p c.args.view c.args.claims.now is ∙ sym c.in_ok-pool.ensures.pool)))
