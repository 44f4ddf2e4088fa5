use Rattle.std.proofs.Common.{◌≡◌, ◌∙◌, map, refl, sym, subst, true, false}
use Rattle.std.specs.Prelude.{◌↔◌, is_some, IfSome, IsTrue}
use Rattle.group_defs.specs.Process.{Pool}
use Rattle.image_defs.specs.Kept.{AreHeard}
use Rattle.restored_left.specs.Facts.{heard_in}
use Rattle.snapshot_rp.specs.Views.{delivered}
use Rattle.restored_present.specs.Parts.{IsSaid, IsShown}
use Rattle.restored_left.proofs.Outcomes.{ok-same}
use Rattle.restored_present.proofs.present.pool_in.Goals as goal

pub returns-in-Some-clause-exact : goal.returns-in-Some-clause-exact
returns-in-Some-clause-exact g c s p shares has is =
    let me = c.args.image.now.me in
    let ds = map delivered c.args.delivered.now in
    let there : p.pool ≡ heard_in c.copied.result c.deref.result.now
    = is ∙ (λ j. heard_in (sym c.copied.ensures j) (sym c.deref.ensures.value j)) in
    let heard : AreHeard s p = (subst (λ o. IsTrue (is_some o) ↔ AreHeard s p) c.in-Some.is (c.in_ok-pool.ensures.exact s p shares has there)).0 refl in
    let pool_is : c.in-Some.pool.pool ≡ p.pool
    = subst (λ o. IfSome o (λ pool. pool.pool ≡ heard_in c.copied.result c.deref.result.now)) c.in-Some.is c.in_ok-pool.ensures.heard
    ∙ sym there in
    ok-same c.shown.result (IsShown c.in-Some.pool.pool me ds × IsSaid c.in-Some.pool.pool me c.deref-in-Some.result.now)
    (AreHeard s p × IsShown p.pool me ds × IsSaid p.pool me c.args.image.now.signed.items)
    (λ two. (
      heard,
      subst (λ (h : Pool). IsShown h me ds) pool_is two.0,
      subst (λ cs. IsSaid p.pool me cs) c.deref-in-Some.ensures.value (subst (λ (h : Pool). IsSaid h me c.deref-in-Some.result.now) pool_is two.1),
    ))
    (λ three. (
      subst (λ (h : Pool). IsShown h me ds) (sym pool_is) three.1,
      subst (λ (h : Pool). IsSaid h me c.deref-in-Some.result.now) (sym pool_is)
          (subst (λ cs. IsSaid p.pool me cs) (sym c.deref-in-Some.ensures.value) three.2),
    ))
    c.shown.ensures.exact

pub returns-in-None-clause-exact : goal.returns-in-None-clause-exact
returns-in-None-clause-exact g c s p shares has is = (
  λ no_way. absurd cc,
  λ so. (let there : p.pool ≡ heard_in c.copied.result c.deref.result.now
      = is ∙ (λ j. heard_in (sym c.copied.ensures j) (sym c.deref.ensures.value j)) in
      let none : IsTrue false
      = (subst (λ o. IsTrue (is_some o) ↔ AreHeard s p) c.in-None.is (c.in_ok-pool.ensures.exact s p shares has there)).1 so.0 in
      absurd (clash none refl)),
)
  where
    clash : {b : _} → b ≡ true → b ≡ false → ⊥
    clash e f = cc
