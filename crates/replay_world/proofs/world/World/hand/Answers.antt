use Rattle.std.proofs.Common.{◌==◌, List, arith, refl, subst, sym}
use Rattle.std.proofs.lemmas.Result.{on_ok_weaker, IfErr-weaker}
use Rattle.happenings.specs.Events.{event}
use Rattle.replay_world.specs.Steps.{NotesTooMuch}
use Rattle.replay_cast.specs.declared.player.Player.{Player}
use Rattle.replay_defs.specs.Worlds.{setting_of}
use Rattle.trace_defs.specs.Happenings.{Happening}
use Rattle.happenings.specs.Reported.{handed, WasReported}
use Rattle.replay_world.proofs.Places.{position_low}
use Rattle.replay_world.proofs.Saying.{frames_counted, takes_absent, tells_nothing}
use Rattle.replay_world.proofs.Giving.{placed, nobody, no_player, given, given_becomes, given_exceeds, given_tells, raws_keep}
use Rattle.replay_world.proofs.world.World.hand.Goals as goal

pub step_at-requires : goal.step_at-requires
step_at-requires c =
    let place = placed c.args.at c.place_of.result c.deref.result.now c.args.self.now.players.items c.in-Some.i c.in-Some.is
    c.place_of.ensures c.deref.ensures.value in
    omega (arith, position_low (λ (q : Player). q.process == c.args.at) 0 c.args.self.now.players.items c.in-Some.i place)

pub returns-in_default-clause-becomes : goal.returns-in_default-clause-becomes
returns-in_default-clause-becomes c = nobody c.args.self.now c.args.at
    (event c.args.event.now) c.place_of.result c.deref.result.now c.in_default.is c.place_of.ensures c.deref.ensures.value

pub returns-clause-becomes : goal.returns-clause-becomes
returns-clause-becomes c =
    let stepped = record c.args.self.now { players = c.step_at.new.players; raws = c.keep_bytes.new.raws } in
    let place = placed c.args.at c.place_of.result c.deref.result.now c.args.self.now.players.items c.in-Some.i c.in-Some.is
    c.place_of.ensures c.deref.ensures.value in
    on_ok_weaker c.note.result (λ notes. λ h v shows.
    given_becomes h stepped c.note.new.self v c.args.at (event c.args.event.now) c.in_ok-outcome.outcome
    (given h c.args.self.now stepped v c.args.at c.in-Some.i c.args.event.now c.in_ok-outcome.outcome shows place c.in_ok-outcome.ensures
    (record { group = refl; scheme = refl; roster = refl; liars = refl; refused = refl; spent = refl; count = refl })
    (λ x. x) (raws_keep c.args.self.now stepped c.args.event.now refl c.in_ok-keep_bytes.ensures))
    notes) c.note.ensures.notes

pub returns-clause-exceeds : goal.returns-clause-exceeds
returns-clause-exceeds c =
    let stepped = record c.args.self.now { players = c.step_at.new.players; raws = c.keep_bytes.new.raws } in
    let place = placed c.args.at c.place_of.result c.deref.result.now c.args.self.now.players.items c.in-Some.i c.in-Some.is
    c.place_of.ensures c.deref.ensures.value in
    IfErr-weaker c.note.result (NotesTooMuch stepped c.args.at c.in_ok-outcome.outcome) _ (λ fault much. λ h v shows.
    given_exceeds h stepped v c.args.at (event c.args.event.now) c.in_ok-outcome.outcome fault
    (given h c.args.self.now stepped v c.args.at c.in-Some.i c.args.event.now c.in_ok-outcome.outcome shows place c.in_ok-outcome.ensures
    (record { group = refl; scheme = refl; roster = refl; liars = refl; refused = refl; spent = refl; count = refl })
    (λ x. x) (raws_keep c.args.self.now stepped c.args.event.now refl c.in_ok-keep_bytes.ensures))
    much) c.note.ensures.too_much

pub returns-in_default-clause-tells : goal.returns-in_default-clause-tells
returns-in_default-clause-tells c = λ h v shows.
    let P : List Happening → Type 0 = λ xs. WasReported c.args.reported.now xs c.args.reported.now in
    subst P (sym (takes_absent (setting_of h) v c.args.at (handed c.args.handed) (event c.args.event.now)
    (no_player h c.args.self.now v c.args.at c.place_of.result c.deref.result.now shows c.in_default.is c.place_of.ensures
    c.deref.ensures.value)))
    (tells_nothing c.args.reported.now)

pub returns-clause-tells : goal.returns-clause-tells
returns-clause-tells c =
    let stepped = record c.args.self.now { players = c.step_at.new.players; raws = c.keep_bytes.new.raws } in
    let place = placed c.args.at c.place_of.result c.deref.result.now c.args.self.now.players.items c.in-Some.i c.in-Some.is
    c.place_of.ensures c.deref.ensures.value in
    on_ok_weaker c.note.result (λ tells. λ h v shows.
    given_tells h stepped v c.args.at (event c.args.event.now) c.in_ok-outcome.outcome c.args.handed _ c.args.reported.now c.note.new.reported
    (given h c.args.self.now stepped v c.args.at c.in-Some.i c.args.event.now c.in_ok-outcome.outcome shows place c.in_ok-outcome.ensures
    (record { group = refl; scheme = refl; roster = refl; liars = refl; refused = refl; spent = refl; count = refl })
    (λ x. x) (raws_keep c.args.self.now stepped c.args.event.now refl c.in_ok-keep_bytes.ensures))
    (frames_counted h c.args.self.now v shows)
    tells) c.note.ensures.tells
