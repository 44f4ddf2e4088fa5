use Rattle.std.proofs.Common.{◌≡◌, ℕ, suc, ◌-◌, arith, sym, subst, ◌∙◌}
use Rattle.std.proofs.lemmas.Result.{err_from_is_err_and}
use Rattle.rp_base.specs.Pids.{mask_of}
use Rattle.replay_defs.specs.Worlds.{setting_of, drains}
use Rattle.replay_world.specs.declared.fault.WorldFault.{WorldFault}
use Rattle.replay_world.specs.Worlds.{Exceeds}
use Rattle.replay_world.proofs.Draining.{DrainsOn, ReportedSoFar, drains_on, drains_out, drains_done, drains_exceed, reported_done, reported_on, reported_out}
use Rattle.replay_world.proofs.world.World.drain.Goals as goal

pub deliveries-preserved : goal.deliveries-preserved
deliveries-preserved c =
    let one : c.deliveries.left ≡ suc (c.deliveries.left - 1) = omega arith in
    let P : ℕ → Type 0 = λ n. DrainsOn (mask_of c.args.to) c.args.count c.args.self.now n c.deliveries.self in
    let Q : ℕ → Type 0 = λ n. ReportedSoFar
    (mask_of c.args.to) c.args.count c.args.self.now c.args.reported.now n c.deliveries.self c.deliveries.reported in
    record {
      drains = drains_on (mask_of c.args.to) c.args.count (c.deliveries.left - 1) c.args.self.now c.deliveries.self c.deliver_next.new.self
          (subst P one c.deliveries.invariant.drains)
          c.in_ok-deliver_next.ensures.becomes (λ h v shows. sym c.if-not-branch.false ∙ c.in_ok-deliver_next.ensures.waits h v shows);
      reported = reported_on (mask_of c.args.to) c.args.count
          (c.deliveries.left - 1) c.args.self.now c.deliveries.self c.deliver_next.new.self c.args.reported.now c.deliveries.reported
          c.deliver_next.new.reported (subst Q one c.deliveries.invariant.reported) c.in_ok-deliver_next.ensures.becomes
          c.in_ok-deliver_next.ensures.tells
          (λ h v shows. sym c.if-not-branch.false ∙ c.in_ok-deliver_next.ensures.waits h v shows);
      count = c.in_ok-deliver_next.ensures.count ∙ c.deliveries.invariant.count;
    }

pub returns-then-not-branch-clause-becomes : goal.returns-then-not-branch-clause-becomes
returns-then-not-branch-clause-becomes c =
    drains_out (mask_of c.args.to) c.args.count c.deliveries.left c.args.self.now c.deliveries.self c.deliver_next.new.self
    c.deliveries.invariant.drains
    c.in_ok-deliver_next.ensures.becomes (λ h v shows. sym c.if-not-branch.true ∙ c.in_ok-deliver_next.ensures.waits h v shows)

pub returns-clause-becomes : goal.returns-clause-becomes
returns-clause-becomes c =
    let none : c.deliveries.left ≡ 0 = omega arith in
    let P : ℕ → Type 0 = λ n. DrainsOn (mask_of c.args.to) c.args.count c.args.self.now n c.deliveries.self in
    drains_done (mask_of c.args.to) c.args.count c.args.self.now c.deliveries.self (subst P none c.deliveries.invariant.drains)

pub returns-in_err-deliver_next-clause-exceeds : goal.returns-in_err-deliver_next-clause-exceeds
returns-in_err-deliver_next-clause-exceeds c =
    let p = err_from_is_err_and c.from_residual.result c.from_residual.ensures.1 in
    let one : c.deliveries.left ≡ suc (c.deliveries.left - 1) = omega arith in
    let P : ℕ → Type 0 = λ n. DrainsOn (mask_of c.args.to) c.args.count c.args.self.now n c.deliveries.self in
    let Q : WorldFault → Type 0 = λ f. Exceeds (λ h v. drains (setting_of h) (mask_of c.args.to) c.args.count v) c.args.self.now f in
    rw p.1 (subst Q (sym p.2) (drains_exceed (mask_of c.args.to) c.args.count
    (c.deliveries.left - 1) c.args.self.now c.deliveries.self c.in_err-deliver_next.field-0.0
    (subst P one c.deliveries.invariant.drains) c.in_err-deliver_next.ensures.exceeds))

pub returns-then-not-branch-clause-tells : goal.returns-then-not-branch-clause-tells
returns-then-not-branch-clause-tells c =
    reported_out (mask_of c.args.to) c.args.count c.deliveries.left c.args.self.now c.deliveries.self c.args.reported.now c.deliveries.reported
    c.deliver_next.new.reported
    c.deliveries.invariant.reported c.in_ok-deliver_next.ensures.tells
    (λ h v shows. sym c.if-not-branch.true ∙ c.in_ok-deliver_next.ensures.waits h v shows)

pub returns-clause-tells : goal.returns-clause-tells
returns-clause-tells c =
    let none : c.deliveries.left ≡ 0 = omega arith in
    let P : ℕ → Type 0 = λ n. ReportedSoFar
    (mask_of c.args.to) c.args.count c.args.self.now c.args.reported.now n c.deliveries.self c.deliveries.reported in
    reported_done (mask_of c.args.to) c.args.count c.args.self.now c.deliveries.self c.args.reported.now c.deliveries.reported
    (subst P none c.deliveries.invariant.reported)
