use Rattle.std.proofs.Common.{◌≡◌, ◌∙◌, ◌++◌, ◌∷◌, [], length, map, sym, ap, subst, arith}
use Rattle.std.proofs.lemmas.List.{length-map, map-append}
use Rattle.snapshot_rp.specs.Views.{delivered}
use Rattle.member_restoring.proofs.state.present_after.Goals as goal

pub present_in-requires-clause-parts : goal.present_in-requires-clause-parts
present_in-requires-clause-parts g c =
    ap (map (λ ds. map delivered ds.items)) (sym c.deref.ensures.value ∙ c.in-Some.ensures.cases.0)
    ∙ map-append (λ ds. map delivered ds.items) c.in-Some.earlier.now (c.in-Some.delivered.now ∷ [])
    ∙ (λ j. map (λ ds. map delivered ds.items) c.in-Some.earlier.now ++ map delivered (sym c.as_slice.ensures.value j) ∷ [])

pub returns-in-None-clause-exact : goal.returns-in-None-clause-exact
returns-in-None-clause-exact g c s shares behind = (
  λ no_way. absurd cc,
  λ so. absurd (let none = subst (λ es. length es ≡ 0) c.deref.ensures.value c.in-None.ensures.cases in
      let long = length-map c.args.image.now.delivered.items (λ ds. map delivered ds.items) in
      let many = c.requires.spelled.lists in
      omega (arith, none, long, many)),
)
