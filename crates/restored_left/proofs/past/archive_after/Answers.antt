use Rattle.std.proofs.Common.{◌≡◌, ◌∙◌, ◌+◌, ◌++◌, ◌∷◌, List, [], length, map, refl, sym, ap, subst, true, false, arith}
use Rattle.std.specs.Prelude.{◌↔◌, is_some, slice_index_or, IfSome, IsTrue}
use Rattle.std.specs.List.{AllByRecursion}
use Rattle.message_defs.specs.Spelling.{IsClaim}
use Rattle.message_defs.specs.Statements.{Claim}
use Rattle.group_defs.specs.Views.{View}
use Rattle.group_defs.specs.Process.{Pool, Delivered}
use Rattle.image_defs.specs.Images.{LeftView, process_of, view_behind}
use Rattle.image_defs.specs.Kept.{AreHeard, IsLeft, as_before}
use Rattle.restored_past.specs.Parts.{heard_in}
use Rattle.pool_laws.proofs.Places.{length-snoc}
use Rattle.snapshot_rp.specs.Views.{delivered, left_view, image as image_as}
use Rattle.restored_left.proofs.Ends.{each-by}
use Rattle.restored_left.proofs.Last.{exact-heard, last-there, past-heard, there-so}
use Rattle.restored_left.proofs.past.archive_after.Goals as goal

-- so many lists were delivered as views were left, and one more
long-so : (lists : List (List Delivered)) (left xs : List LeftView) (l : LeftView) → length lists ≡ length left + 1 → left ≡ xs ++ l ∷ []
    → length lists ≡ length xs + 2
long-so lists left xs l many is =
    let long = ap (λ (ls : List LeftView). length ls) is ∙ length-snoc xs l in
    omega (arith, many, long)

pub with_last-requires-clause-range : goal.with_last-requires-clause-range
with_last-requires-clause-range g c =
    let image = image_as c.args.image.now in
    let pool_is : c.in-Some.pool.pool ≡ heard_in c.args.past.view c.deref-2.result.now
    = subst (λ o. IfSome o (λ pool. pool.pool ≡ heard_in c.args.past.view c.deref-2.result.now)) c.in-Some.is c.in_ok-pool.ensures.heard in
    subst (λ (cs : List Claim). AllByRecursion IsClaim cs) (sym (ap (λ (h : Pool). h.heard) pool_is ∙ c.deref-2.ensures.value))
    (each-by IsClaim 0 image.previous c.requires.spelled.previous.1)

pub returns-in-Some-clause-exact : goal.returns-in-Some-clause-exact
returns-in-Some-clause-exact g c s xs shares left behind is_left =
    let image = image_as c.args.image.now in
    let l = left_view c.args.last.now in
    let p = process_of s 1 image in
    let h : Pool = record { view = view_behind s.genesis xs; heard = image.previous } in
    let there : h ≡ heard_in c.args.past.view c.deref-2.result.now
    = λ j. record { view = sym behind j; heard = sym c.deref-2.ensures.value j } in
    let pool_is : c.in-Some.pool.pool ≡ h
    = subst (λ o. IfSome o (λ pool. pool.pool ≡ heard_in c.args.past.view c.deref-2.result.now)) c.in-Some.is c.in_ok-pool.ensures.heard
    ∙ sym there in
    let ds : List Delivered = slice_index_or image.delivered (length xs) [] in
    let got : map delivered c.delivered_before-delivered.result.now ≡ ds
    = there-so image.delivered (length xs) (map delivered c.delivered_before-delivered.result.now)
    (long-so image.delivered image.left xs l c.requires.spelled.lists left)
    (λ rest d last e. c.delivered_before-delivered.ensures.before rest d last
    (ap (λ lists. map (λ es. map delivered es.items) lists) c.deref.ensures.value ∙ e)) in
    let heard : AreHeard s (as_before p ds h)
    = (subst (λ o. IsTrue (is_some o) ↔ AreHeard s (as_before p ds h)) c.in-Some.is
    (c.in_ok-pool.ensures.exact s (as_before p ds h) shares there (sym got))).0 refl in
    exact-heard s image xs l left c.with_last.result c.in-Some.pool.pool pool_is heard
    (c.with_last.ensures.exact s (subst (λ (v : View). IsLeft s v l) (sym (ap (λ (h : Pool). h.view) pool_is ∙ sym behind)) is_left))

pub returns-in-Some-clause-past : goal.returns-in-Some-clause-past
returns-in-Some-clause-past g c s xs left behind is_left commits =
    let image = image_as c.args.image.now in
    let l = left_view c.args.last.now in
    let h : Pool = record { view = view_behind s.genesis xs; heard = image.previous } in
    let there : h ≡ heard_in c.args.past.view c.deref-2.result.now
    = λ j. record { view = sym behind j; heard = sym c.deref-2.ensures.value j } in
    let pool_is : c.in-Some.pool.pool ≡ h
    = subst (λ o. IfSome o (λ pool. pool.pool ≡ heard_in c.args.past.view c.deref-2.result.now)) c.in-Some.is c.in_ok-pool.ensures.heard
    ∙ sym there in
    past-heard s image xs l left c.with_last.result c.args.past.archive c.in-Some.pool.pool pool_is commits
    (c.with_last.ensures.exact s (subst (λ (v : View). IsLeft s v l) (sym (ap (λ (h : Pool). h.view) pool_is ∙ sym behind)) is_left))
    c.with_last.ensures.kept

pub returns-in-None-clause-exact : goal.returns-in-None-clause-exact
returns-in-None-clause-exact g c s xs shares left behind is_left = (
  λ no_way. absurd cc,
  λ so. (let image = image_as c.args.image.now in
      let l = left_view c.args.last.now in
      let p = process_of s 1 image in
      let h : Pool = record { view = view_behind s.genesis xs; heard = image.previous } in
      let there : h ≡ heard_in c.args.past.view c.deref-2.result.now
      = λ j. record { view = sym behind j; heard = sym c.deref-2.ensures.value j } in
      let ds : List Delivered = slice_index_or image.delivered (length xs) [] in
      let got : map delivered c.delivered_before-delivered.result.now ≡ ds
      = there-so image.delivered (length xs) (map delivered c.delivered_before-delivered.result.now)
      (long-so image.delivered image.left xs l c.requires.spelled.lists left)
      (λ rest d last e. c.delivered_before-delivered.ensures.before rest d last
      (ap (λ lists. map (λ es. map delivered es.items) lists) c.deref.ensures.value ∙ e)) in
      let none : IsTrue false
      = (subst (λ o. IsTrue (is_some o) ↔ AreHeard s (as_before p ds h)) c.in-None.is
      (c.in_ok-pool.ensures.exact s (as_before p ds h) shares there (sym got))).1 (last-there s image xs l left so).1 in
      absurd (clash none refl)),
)
  where
    clash : {b : _} → b ≡ true → b ≡ false → ⊥
    clash e f = cc
