use Rattle.std.proofs.Common.{List, map, sym, subst}
use Rattle.std.specs.Vec.Iter.{into_iter_items}
use Rattle.std.proofs.lemmas.Result.{err_from_is_err_and}
use Rattle.member_events.specs.declared.events.Sending.{Sending}
use Rattle.happenings.specs.Events.{frame_to}
use Rattle.replay_world.specs.declared.fault.WorldFault.{WorldFault}
use Rattle.replay_world.specs.Traffic.{SendsTooMuch, sends_all}
use Rattle.replay_world.proofs.Carrying.{SendsOn, sends_exceed}
use Rattle.replay_world.proofs.traffic.Traffic.send_all.Goals as goal

pub returns-in_err-send-clause-too_much : goal.returns-in_err-send-clause-too_much
returns-in_err-send-clause-too_much c =
    let p = err_from_is_err_and c.from_residual.result c.from_residual.ensures.1 in
    let all = map frame_to c.args.sends.items in
    let P : List Sending → Type 0 = λ xs. SendsOn c.args.players.now c.args.sender all c.args.self.now (map frame_to xs) c.sends.self in
    let Q : WorldFault → Type 0 = λ f. SendsTooMuch c.args.players.now c.args.event c.args.self.now (sends_all c.args.sender all) f in
    let much : Q c.in_err-send.field-0.0 = λ v carried same at.
    sends_exceed c.args.players.now c.args.sender c.args.event all (frame_to c.in-Some.out)
    (map frame_to (into_iter_items c.next.new.self)) c.args.self.now c.sends.self c.in_err-send.field-0.0
    (subst P c.in-Some.ensures.items c.sends.invariant.on) c.in_err-send.ensures.too_much v carried same at in
    rw p.1 (subst Q (sym p.2) much)
