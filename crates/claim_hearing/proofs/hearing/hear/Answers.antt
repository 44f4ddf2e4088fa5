use Rattle.std.proofs.Common.{◌≡◌, ◌∙◌, refl, sym, ap, subst}
use Rattle.std.proofs.lemmas.Result.{on_ok_weaker}
use Rattle.stmt_codec.specs.Views.{claim as claim_of}
use Rattle.rule_laws.specs.Heard.{IsPool}
use Rattle.claim_pool.specs.Verdicts.{verdict as verdict_of}
use Rattle.claim_hearing.proofs.Heard.{after-view, conflict-kept, heard-as, no-conflict}
use Rattle.claim_hearing.proofs.hearing.hear.Goals as goal

pub returns-in-Conflict-clause-heard : goal.returns-in-Conflict-clause-heard
returns-in-Conflict-clause-heard g c s p shares pool delivered same pairs =
    let as_before = c.in-Conflict.ensures.heard ∙ c.reserve.ensures.same in
    on_ok_weaker c.keep_conflict.result
    (conflict-kept s _ _ _ shares p (claim_of c.args.claim.now)
    (c.in-Conflict.ensures.first p delivered (same ∙ sym c.reserve.ensures.same)) c.take.new.self.pool c.keep_conflict.new.conflicts.pairs
    (same ∙ sym as_before))
    (c.keep_conflict.ensures.kept p (subst IsPool (sym as_before) pool) (same ∙ sym as_before) pairs)

pub returns-in_default : goal.returns-in_default
returns-in_default g c = record {
  heard = λ s p shares pool delivered same pairs. heard-as s _ _ _ shares p (claim_of c.args.claim.now) (verdict_of c.take.result)
      (no-conflict c.take.result c.in_default.not-Conflict)
      (c.take.ensures.first p delivered
      (same ∙ sym c.reserve.ensures.same)) c.reserve.new.self.pool c.take.new.self.pool c.args.conflicts.now.pairs
      (same ∙ sym c.reserve.ensures.same) c.take.ensures.heard pairs;
  view = ap (λ h. h.view) c.take.ensures.heard ∙ after-view (verdict_of c.take.result) c.reserve.new.self.pool
      (claim_of c.args.claim.now) ∙ ap (λ h. h.view) c.reserve.ensures.same;
  marked = c.take.ensures.marked ∙ c.reserve.ensures.marked;
  marked_pairs = refl;
}
