use Rattle.std.proofs.Common.{◌≡◌, [], ◌∷◌, ◌++◌, map, sym, ap, subst, ◌∙◌}
use Rattle.std.specs.Prelude.{filter_map}
use Rattle.std.specs.List.{AllByRecursion}
use Rattle.rp_base.specs.PidsLeft.{pids_left}
use Rattle.claim_firsts.specs.Reported.{AreSpelled, conviction, conviction_by}
use Rattle.claim_firsts.proofs.Entries.{all-push}
use Rattle.claim_firsts.proofs.Telling.{next-none, next-reported, none-left}
use Rattle.claim_firsts.proofs.firsts.Firsts.convictions_of.Goals as goal

pub loop-q-init : goal.loop-q-init
loop-q-init c =
    let left : pids_left c.into_iter-q-iterator.result ≡ c.args.of = cc
    (c.into_iter-q-iterator.ensures.into_iter_gives, c.iter-q-items.ensures) in (
      ap (λ xs. map conviction xs ++ filter_map (conviction_by c.args.self.now) (pids_left c.into_iter-q-iterator.result)) c.new-all.ensures.items
          ∙ ap (filter_map (conviction_by c.args.self.now)) left,
      subst (AllByRecursion AreSpelled) (sym c.new-all.ensures.items) tt,
    )

pub loop-q-preserved-in-Ok-1 : goal.loop-q-preserved-in-Ok-1
loop-q-preserved-in-Ok-1 c = (
  ap (λ xs. map conviction xs ++ filter_map (conviction_by c.args.self.now) (pids_left c.next.new.self))
      (c.in-Ok.ensures.items ∙ ap (λ xs. xs ++ c.in-Some-conviction_of.reported ∷ []) c.in_ok-reserve.ensures.items)
      ∙ next-reported (conviction_by c.args.self.now) c.loop-q.all.items (pids_left c.loop-q.q-iterator) (pids_left c.next.new.self) c.in-Some.q
      (filter_map (conviction_by c.args.self.now) c.args.of) c.loop-q.invariant.0 c.in-Some.ensures.steps c.in-Some-conviction_of.reported
      c.in-Some-conviction_of.ensures.reported,
  subst (AllByRecursion AreSpelled)
      (sym (c.in-Ok.ensures.items ∙ ap (λ xs. xs ++ c.in-Some-conviction_of.reported ∷ []) c.in_ok-reserve.ensures.items))
      (all-push AreSpelled c.loop-q.all.items c.in-Some-conviction_of.reported c.loop-q.invariant.1 c.in-Some-conviction_of.ensures.range),
)

pub loop-q-preserved : goal.loop-q-preserved
loop-q-preserved c = (
  next-none (conviction_by c.args.self.now) c.loop-q.all.items (pids_left c.loop-q.q-iterator) (pids_left c.next.new.self) c.in-Some.q
      (filter_map (conviction_by c.args.self.now) c.args.of) c.loop-q.invariant.0 c.in-Some.ensures.steps c.in_default.ensures.reported,
  c.loop-q.invariant.1,
)

pub returns-clause-reported : goal.returns-clause-reported
returns-clause-reported c =
    none-left (conviction_by c.args.self.now) c.loop-q.all.items (pids_left c.loop-q.q-iterator)
    (filter_map (conviction_by c.args.self.now) c.args.of) c.loop-q.invariant.0 c.in-None.ensures.steps.0
