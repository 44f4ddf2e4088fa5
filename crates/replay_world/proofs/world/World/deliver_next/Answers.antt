use Rattle.std.proofs.Common.{refl, sym, subst}
use Rattle.std.proofs.lemmas.Result.{err_from_is_err_and}
use Rattle.rp_base.specs.Pids.{mask_of}
use Rattle.replay_defs.specs.Worlds.{setting_of}
use Rattle.replay_world.specs.declared.fault.WorldFault.{WorldFault}
use Rattle.replay_world.specs.Worlds.{Exceeds}
use Rattle.replay_world.specs.Steps.{oldest_arrives}
use Rattle.replay_world.proofs.Popping.{pops_on, pops_exceed, pops_tell}
use Rattle.replay_world.proofs.world.World.deliver_next.Goals as goal

pub returns-clause-becomes : goal.returns-clause-becomes
returns-clause-becomes c =
    let mid = record c.args.self.now { traffic = record c.args.self.now.traffic { pending = c.pop_front.new.self } } in
    pops_on c.args.self.now mid c.arrive.new.self c.in-Some.next
    (mask_of c.args.to) refl c.in-Some.ensures.items c.in_ok-arrive.ensures.becomes

pub returns-in_err-arrive-clause-exceeds : goal.returns-in_err-arrive-clause-exceeds
returns-in_err-arrive-clause-exceeds c =
    let mid = record c.args.self.now { traffic = record c.args.self.now.traffic { pending = c.pop_front.new.self } } in
    let p = err_from_is_err_and c.from_residual.result c.from_residual.ensures.1 in
    let Q : WorldFault → Type 0 = λ f. Exceeds (λ h v. oldest_arrives (setting_of h) (mask_of c.args.to) v) c.args.self.now f in
    rw p.1 (subst Q (sym p.2) (pops_exceed c.args.self.now mid c.in-Some.next
    (mask_of c.args.to) c.in_err-arrive.field-0.0 refl c.in-Some.ensures.items c.in_err-arrive.ensures.exceeds))

pub returns-clause-tells : goal.returns-clause-tells
returns-clause-tells c =
    let mid = record c.args.self.now { traffic = record c.args.self.now.traffic { pending = c.pop_front.new.self } } in
    pops_tell c.args.self.now mid c.in-Some.next
    (mask_of c.args.to) c.args.reported.now c.arrive.new.reported refl c.in-Some.ensures.items c.in_ok-arrive.ensures.tells
