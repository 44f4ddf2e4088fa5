use Rattle.std.proofs.Common.{◌≡◌, ◌∙◌, ◌≤◌, ◌++◌, ◌∷◌, List, [], length, map, refl, sym, ap, subst, true, false, inl, arith}
use Rattle.std.specs.Prelude.{◌↔◌, is_some, IfSome, IsTrue}
use Rattle.std.proofs.lemmas.List.{length-map}
use Rattle.message_defs.specs.Spelling.{IsClaim}
use Rattle.group_defs.specs.Process.{Process, Pool, keyed, places_in}
use Rattle.group_defs.specs.Accounts.{IsByPlace}
use Rattle.image_defs.specs.Images.{process_of}
use Rattle.image_defs.specs.Kept.{AreHeard, as_before}
use Rattle.restored_left.specs.Facts.{IsDecidedSo, IsHaltedSo, SignedOnce, IsOwnSoFar, as_setting, heard_in}
use Rattle.own_place.specs.Owns.{HasDelivered}
use Rattle.pool_laws.proofs.Members.{Mem, All-mem, mem-All, mem-append, mem-behind, mem-map}
use Rattle.snapshot_rp.specs.Views.{delivered, image as image_as}
use Rattle.restored_present.specs.Parts.{IsPresentSo, IsSaid, IsShown}
use Rattle.restored_left.proofs.Ends.{few-at, few-messages}
use Rattle.restored_left.proofs.Lists.{each-all}
use Rattle.restored_left.proofs.Outcomes.{ok-same}
use Rattle.restored_present.proofs.Current.{earlier-so, now-so}
use Rattle.restored_present.proofs.present.present_in.Goals as goal

-- the last list is one of them
last-in : {A : Type 0} (all xs : List A) (y : A) → all ≡ xs ++ y ∷ [] → Mem y all
last-in {A = A} all xs y is = subst (λ (es : List A). Mem y es) (sym is) (mem-behind xs (y ∷ []) y (inl refl))

pub own_delivered-before-requires-clause-few : goal.own_delivered-before-requires-clause-few
own_delivered-before-requires-clause-few g c =
    let image = image_as c.args.image.now in
    mem-All (λ es. length es.items ≤ 16384) c.args.earlier.now (λ es m.
    (let there : Mem (map delivered es.items) image.delivered
    = subst (λ lists. Mem (map delivered es.items) lists) (sym c.requires.parts)
    (mem-append (map (λ fs. map delivered fs.items) c.args.earlier.now) _ (map delivered es.items)
    (mem-map (λ fs. map delivered fs.items) c.args.earlier.now es m)) in
    let few = few-messages (map delivered es.items) (few-at image.delivered (map delivered es.items) there c.requires.placed) in
    let long = length-map es.items delivered in
    omega (arith, few, long)))

pub place_in-own-requires-clause-few : goal.place_in-own-requires-clause-few
place_in-own-requires-clause-few g c =
    let image = image_as c.args.image.now in
    let ds = map delivered c.args.delivered.now in
    let there : Mem ds image.delivered = last-in image.delivered _ ds c.requires.parts in
    let few = few-messages ds (few-at image.delivered ds there c.requires.placed) in
    let long = length-map c.args.delivered.now delivered in
    omega (arith, few, long)

pub pool_in-requires-clause-by : goal.pool_in-requires-clause-by
pool_in-requires-clause-by g c =
    let image = image_as c.args.image.now in
    let ds = map delivered c.args.delivered.now in
    All-mem IsByPlace image.delivered ds c.requires.placed.by_place (last-in image.delivered _ ds c.requires.parts)

pub pool_in-requires-clause-places : goal.pool_in-requires-clause-places
pool_in-requires-clause-places g c =
    let image = image_as c.args.image.now in
    let t = as_setting (g.V.Scheme.valid c.args.judge.now.scheme.now) c.args.judge.now.group.now c.args.judge.now.roster.now in
    let p : Process = as_before (process_of t 1 image) (map delivered c.args.delivered.now) (heard_in c.args.view.now []) in
    sym (c.place_in-own.ensures.delivered p refl refl).places

pub returns-in-None-clause-exact : goal.returns-in-None-clause-exact
returns-in-None-clause-exact g c s shares behind =
    let image = image_as c.args.image.now in
    let p = process_of s 1 image in
    let ds = map delivered c.args.delivered.now in
    let has : HasDelivered c.place_in-own.result p = c.place_in-own.ensures.delivered p (sym behind)
    (now-so image.delivered image.left _ ds c.requires.parts c.requires.spelled.lists) in
    let exact = subst (λ o. IsTrue (is_some o) ↔ (AreHeard s p × IsShown p.pool image.me ds × IsSaid p.pool image.me image.signed)) c.in-None.is
    (c.in_ok-pool.ensures.exact s p shares has (λ j. heard_in (sym behind j) image.heard)) in (
      λ no_way. absurd cc,
      λ so. absurd (clash (exact.1 (
        so.heard,
        subst (λ es. IsShown p.pool image.me es)
            (now-so image.delivered image.left _ ds c.requires.parts c.requires.spelled.lists) so.shown,
        so.said,
      )) refl),
    )
  where
    clash : {b : _} → b ≡ true → b ≡ false → ⊥
    clash e f = cc

pub returns-in-Some-clause-exact : goal.returns-in-Some-clause-exact
returns-in-Some-clause-exact g c s shares behind =
    let image = image_as c.args.image.now in
    let p = process_of s 1 image in
    let ds = map delivered c.args.delivered.now in
    let now : p.delivered ≡ ds = now-so image.delivered image.left _ ds c.requires.parts c.requires.spelled.lists in
    let has : HasDelivered c.place_in-own.result p = c.place_in-own.ensures.delivered p (sym behind) now in
    let there : p.pool ≡ heard_in c.args.view.now image.heard = λ j. heard_in (sym behind j) image.heard in
    let three = (subst (λ o. IsTrue (is_some o) ↔ (AreHeard s p × IsShown p.pool image.me ds × IsSaid p.pool image.me image.signed)) c.in-Some.is
    (c.in_ok-pool.ensures.exact s p shares has there)).0 refl in
    let pool_is : p.pool ≡ c.in-Some.pool.pool = there ∙ sym (subst (λ o. IfSome o (λ pool. pool.pool ≡ heard_in c.args.view.now image.heard))
    c.in-Some.is c.in_ok-pool.ensures.heard) in
    let stands : IsOwnSoFar s p c.place_in-own.result = c.place_in-own.ensures.stands s p shares.keys (sym behind) refl now
    (earlier-so image.me s.genesis image.left image.delivered (λ es. map delivered es.items) c.args.earlier.now ds c.requires.parts
    c.requires.spelled.lists ∙ sym c.own_delivered-before.ensures) in
    ok-same c.phased.result
    (IsDecidedSo p.pool (keyed s) p.me (places_in p.delivered) p.decision × IsHaltedSo p.halted (places_in p.delivered) p.decision)
    (IsPresentSo s p)
    (λ two. record {
      heard = three.0;
      shown = subst (λ es. IsShown p.pool image.me es) (sym now) three.1;
      said = three.2;
      decided = two.0;
      halted = two.1;
    })
    (λ so. (so.decided, so.halted))
    (c.phased.ensures.exact s p shares stands refl pool_is refl refl)

pub returns-in-Some-clause-is : goal.returns-in-Some-clause-is
returns-in-Some-clause-is g c s batch_limit shares behind so own =
    let image = image_as c.args.image.now in
    let p = process_of s batch_limit image in
    let ds = map delivered c.args.delivered.now in
    let now : p.delivered ≡ ds = now-so image.delivered image.left _ ds c.requires.parts c.requires.spelled.lists in
    let there : p.pool ≡ heard_in c.args.view.now image.heard = λ j. heard_in (sym behind j) image.heard in
    let pool_is : p.pool ≡ c.in-Some.pool.pool = there ∙ sym (subst (λ o. IfSome o (λ pool. pool.pool ≡ heard_in c.args.view.now image.heard))
    c.in-Some.is c.in_ok-pool.ensures.heard) in
    let stands : IsOwnSoFar s p c.place_in-own.result = c.place_in-own.ensures.stands s p shares.keys (sym behind) refl now
    (earlier-so image.me s.genesis image.left image.delivered (λ es. map delivered es.items) c.args.earlier.now ds c.requires.parts
    c.requires.spelled.lists ∙ sym c.own_delivered-before.ensures) in
    let once : SignedOnce p = record { own = own; ranged = each-all IsClaim 0 image.signed c.requires.spelled.signed.1; once = so.said.once } in
    c.phased.ensures.is s p shares stands refl pool_is (ap (λ (h : Pool). h.view) (sym pool_is ∙ there)) refl once refl refl
