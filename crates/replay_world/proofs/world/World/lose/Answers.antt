use Rattle.std.proofs.Common.{◌∷◌, [], List, sym, subst}
use Rattle.std.proofs.lemmas.Result.{on_ok_weaker}
use Rattle.trace_defs.specs.Happenings.{Happening}
use Rattle.happenings.specs.Reported.{WasReported}
use Rattle.replay_world.proofs.Giving.{looked_up}
use Rattle.replay_world.proofs.Saying.{loses_absent, loses_sent, tells_nothing}
use Rattle.replay_world.proofs.world.World.lose.Goals as goal

pub returns-in_default-clause-tells : goal.returns-in_default-clause-tells
returns-in_default-clause-tells c = λ h v shows.
    let P : List Happening → Type 0 = λ xs. WasReported c.args.reported.now xs c.args.reported.now in
    subst P (sym (loses_absent h c.args.self.now v c.args.next.to c.args.next.frame c.deref.result.now shows c.deref.ensures.value
    c.in_default.ensures.lookup.3))
    (tells_nothing c.args.reported.now)

pub returns-clause-tells : goal.returns-clause-tells
returns-clause-tells c = λ h v shows.
    let f = c.in-Some.sent.now in
    let get = looked_up c.deref.result.now c.args.self.now.traffic.frames.items c.args.next.frame f c.deref.ensures.value
    c.in-Some.ensures.lookup.0 c.in-Some.ensures.lookup.1 in
    let P : List Happening → Type 0 = λ xs. WasReported c.args.reported.now xs c.add.new.self in
    subst P (sym (loses_sent h c.args.self.now v c.args.next.to c.args.next.frame f shows get)) c.in_ok-add.ensures
