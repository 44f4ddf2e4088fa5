use Rattle.std.proofs.Common.{◌≡◌, ◌==◌, ℕ, true, List, [], length, length-set, arith, refl, sym, ap, subst, ◌∙◌}
use Rattle.std.proofs.lemmas.Result.{on_ok_weaker, IfErr-weaker}
use Rattle.message_defs.specs.Claims.{frame_said}
use Rattle.group_defs.specs.Events as group
use Rattle.replay_defs.specs.Worlds as plain
use Rattle.replay_world.specs.Traffic.{IsTooMuch}
use Rattle.replay_world.specs.Worlds.{Shows}
use Rattle.replay_world.specs.Steps.{NotesTooMuch}
use Rattle.replay_cast.specs.declared.player.Player.{Player}
use Rattle.replay_defs.specs.Worlds.{setting_of}
use Rattle.trace_defs.specs.Happenings as defs
use Rattle.trace_defs.specs.Happenings.{Happening}
use Rattle.happenings.specs.declared.reported.Handed.TheVariants as kinds
use Rattle.happenings.specs.Reported.{WasReported}
use Rattle.replay_world.proofs.Places.{position_low}
use Rattle.replay_world.proofs.Saying.{frames_counted, gets_absent, gets_sent, takes_absent, tells_nothing}
use Rattle.replay_world.proofs.Giving.{placed, looked_up, delivered, delivers_frame, delivers_absent, delivers_nobody, given_becomes, given_exceeds, given_tells, no_player}
use Rattle.replay_world.proofs.world.World.deliver.Goals as goal

pub step_at-requires : goal.step_at-requires
step_at-requires c =
    let place = placed c.args.to c.place_of.result c.deref-2.result.now c.args.self.now.players.items c.in-Some-place_of.i
    c.in-Some-place_of.is c.place_of.ensures c.deref-2.ensures.value in
    omega (arith, position_low (λ (q : Player). q.process == c.args.to) 0 c.args.self.now.players.items c.in-Some-place_of.i place)

pub returns-in_default-clause-becomes : goal.returns-in_default-clause-becomes
returns-in_default-clause-becomes c = λ h v shows.
    let P : plain.World → Type 0 = λ w. Shows h c.args.self.now w in
    subst P (sym (delivers_absent h c.args.self.now v c.args.to c.args.frame c.deref.result.now shows c.deref.ensures.value
    c.in_default.ensures.lookup.3)) shows

pub returns-in_default-place_of-clause-becomes : goal.returns-in_default-place_of-clause-becomes
returns-in_default-place_of-clause-becomes c =
    delivers_nobody c.args.self.now c.args.to c.args.frame c.in-Some.sent.now c.place_of.result c.deref-2.result.now
    (looked_up c.deref.result.now c.args.self.now.traffic.frames.items c.args.frame c.in-Some.sent.now c.deref.ensures.value
    c.in-Some.ensures.lookup.0 c.in-Some.ensures.lookup.1)
    c.in_default-place_of.is c.place_of.ensures c.deref-2.ensures.value

pub returns-clause-becomes : goal.returns-clause-becomes
returns-clause-becomes c =
    let f = c.in-Some.sent.now in
    let get = looked_up c.deref.result.now c.args.self.now.traffic.frames.items c.args.frame f c.deref.ensures.value
    c.in-Some.ensures.lookup.0 c.in-Some.ensures.lookup.1 in
    let stepped = record c.args.self.now {
      players = c.step_at.new.players;
      traffic = record c.args.self.now.traffic { frames = c.mark.new.frames };
    } in
    let place = placed c.args.to c.place_of.result c.deref-2.result.now c.args.self.now.players.items c.in-Some-place_of.i
    c.in-Some-place_of.is c.place_of.ensures c.deref-2.ensures.value in
    on_ok_weaker c.note.result (λ notes. λ h v shows.
    let P : plain.World → Type 0 = λ w. Shows h c.note.new.self w in
    subst P (sym (delivers_frame h c.args.self.now v c.args.to c.args.frame f shows get))
    (given_becomes h stepped c.note.new.self v c.args.to (group.Hand f.sender (frame_said f.bytes)) c.in_ok-outcome.outcome
    (delivered h c.args.self.now stepped v c.args.to c.in-Some-place_of.i c.args.frame f _ c.in_ok-outcome.outcome shows place
    c.in_ok-outcome.ensures
    (ap (λ bytes. group.Hand f.sender (frame_said bytes)) c.bytes.ensures) get
    (record { group = refl; scheme = refl; roster = refl; liars = refl; refused = refl; spent = refl; count = refl })
    (c.mark.ensures f get) refl refl refl)
    notes)) c.note.ensures.notes

pub returns-clause-exceeds : goal.returns-clause-exceeds
returns-clause-exceeds c =
    let f = c.in-Some.sent.now in
    let get = looked_up c.deref.result.now c.args.self.now.traffic.frames.items c.args.frame f c.deref.ensures.value
    c.in-Some.ensures.lookup.0 c.in-Some.ensures.lookup.1 in
    let stepped = record c.args.self.now {
      players = c.step_at.new.players;
      traffic = record c.args.self.now.traffic { frames = c.mark.new.frames };
    } in
    let place = placed c.args.to c.place_of.result c.deref-2.result.now c.args.self.now.players.items c.in-Some-place_of.i
    c.in-Some-place_of.is c.place_of.ensures c.deref-2.ensures.value in
    IfErr-weaker c.note.result (NotesTooMuch stepped c.args.to c.in_ok-outcome.outcome) _ (λ fault much. λ h v shows.
    let P : plain.World → Type 0 = λ w. IsTooMuch fault w in
    subst P (sym (delivers_frame h c.args.self.now v c.args.to c.args.frame f shows get))
    (given_exceeds h stepped v c.args.to (group.Hand f.sender (frame_said f.bytes)) c.in_ok-outcome.outcome fault
    (delivered h c.args.self.now stepped v c.args.to c.in-Some-place_of.i c.args.frame f _ c.in_ok-outcome.outcome shows place
    c.in_ok-outcome.ensures
    (ap (λ bytes. group.Hand f.sender (frame_said bytes)) c.bytes.ensures) get
    (record { group = refl; scheme = refl; roster = refl; liars = refl; refused = refl; spent = refl; count = refl })
    (c.mark.ensures f get) refl refl refl)
    much)) c.note.ensures.too_much

pub returns-in_default-clause-tells : goal.returns-in_default-clause-tells
returns-in_default-clause-tells c = λ h v shows.
    let P : List Happening → Type 0 = λ xs. WasReported c.args.reported.now xs c.args.reported.now in
    subst P (sym (gets_absent h c.args.self.now v c.args.to c.args.frame c.deref.result.now shows c.deref.ensures.value
    c.in_default.ensures.lookup.3))
    (tells_nothing c.args.reported.now)

pub returns-in_default-place_of-clause-tells : goal.returns-in_default-place_of-clause-tells
returns-in_default-place_of-clause-tells c = λ h v shows.
    let f = c.in-Some.sent.now in
    let get = looked_up c.deref.result.now c.args.self.now.traffic.frames.items c.args.frame f c.deref.ensures.value
    c.in-Some.ensures.lookup.0 c.in-Some.ensures.lookup.1 in
    let P : List Happening → Type 0 = λ xs. WasReported c.args.reported.now xs c.args.reported.now in
    subst P (sym (gets_sent h c.args.self.now v c.args.to c.args.frame f shows get
    ∙ takes_absent (setting_of h) v c.args.to (defs.Frame c.args.frame f.sender) (group.Hand f.sender (frame_said f.bytes))
    (no_player h c.args.self.now v c.args.to c.place_of.result c.deref-2.result.now shows c.in_default-place_of.is c.place_of.ensures
    c.deref-2.ensures.value)))
    (tells_nothing c.args.reported.now)

pub returns-clause-tells : goal.returns-clause-tells
returns-clause-tells c =
    let f = c.in-Some.sent.now in
    let get = looked_up c.deref.result.now c.args.self.now.traffic.frames.items c.args.frame f c.deref.ensures.value
    c.in-Some.ensures.lookup.0 c.in-Some.ensures.lookup.1 in
    let stepped = record c.args.self.now {
      players = c.step_at.new.players;
      traffic = record c.args.self.now.traffic { frames = c.mark.new.frames };
    } in
    let place = placed c.args.to c.place_of.result c.deref-2.result.now c.args.self.now.players.items c.in-Some-place_of.i
    c.in-Some-place_of.is c.place_of.ensures c.deref-2.ensures.value in
    let marked : length c.mark.new.frames.items ≡ length c.args.self.now.traffic.frames.items =
    ap length (c.mark.ensures f get) ∙ length-set c.args.self.now.traffic.frames.items c.args.frame (record f { handed = true }) in
    on_ok_weaker c.note.result (λ tells. λ h v shows.
    let P : List Happening → Type 0 = λ xs. WasReported c.args.reported.now xs c.note.new.reported in
    subst P (sym (gets_sent h c.args.self.now v c.args.to c.args.frame f shows get))
    (given_tells h stepped v c.args.to (group.Hand f.sender (frame_said f.bytes)) c.in_ok-outcome.outcome
    (kinds.Frame c.args.frame f.sender) _ c.args.reported.now c.note.new.reported
    (delivered h c.args.self.now stepped v c.args.to c.in-Some-place_of.i c.args.frame f _ c.in_ok-outcome.outcome shows place
    c.in_ok-outcome.ensures
    (ap (λ bytes. group.Hand f.sender (frame_said bytes)) c.bytes.ensures) get
    (record { group = refl; scheme = refl; roster = refl; liars = refl; refused = refl; spent = refl; count = refl })
    (c.mark.ensures f get) refl refl refl)
    (frames_counted h c.args.self.now v shows ∙ sym marked)
    tells)) c.note.ensures.tells
