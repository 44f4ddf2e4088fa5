use Rattle.std.proofs.Common.{◌≡◌, ◌<◌, ◌^◌, ℕ, List, Option, Some, [], ◌∷◌, refl, sym, ap, subst, ◌∙◌, arith}
use Rattle.std.specs.Prelude.{◌==◌}
use Rattle.std.specs.List.{position_from}
use Rattle.std.proofs.lemmas.Result.{on_ok_weaker, IfErr-weaker}
use Rattle.byte_defs.specs.Members.{has}
use Rattle.rp_base.specs.Pids.{mask_of, members}
use Rattle.rp_base.specs.Masks.{mask_of-members}
use Rattle.member_events.specs.Below.{stmt}
use Rattle.replay_defs.specs.Schedules.{Lie}
use Rattle.replay_defs.specs.Worlds as plain
use Rattle.replay_defs.specs.Worlds.{setting_of}
use Rattle.replay_cast.specs.declared.liar.Liar.{Liar}
use Rattle.replay_world.specs.Lying.{LiesAt}
use Rattle.replay_world.specs.Telling.{frame_count}
use Rattle.replay_world.proofs.Showing.{players_numbers}
use Rattle.replay_world.proofs.Giving.{on_ok_both}
use Rattle.replay_world.proofs.Happenings.{too_much_stops}
use Rattle.trace_defs.specs.Happenings as defs
use Rattle.trace_defs.specs.Happenings.{Happening}
use Rattle.happenings.specs.Reported.{WasReported}
use Rattle.replay_world.proofs.Saying.{frames_counted}
use Rattle.replay_world.proofs.Places.{position_low}
use Rattle.replay_world.proofs.Telling.{lie_by_nobody, lie_spent, lie_reported, lie_shows, no_liar, tells_of_lie, tells_of_silence}
use Rattle.replay_world.proofs.world.World.lie.Goals as goal

pub returns-in_default-clause-happens : goal.returns-in_default-clause-happens
returns-in_default-clause-happens c =
    lie_by_nobody c.args.self.now c.args.signer
    (mask_of c.args.to) c.args.statement.now c.place_of.result c.deref.result.now c.in_default.is c.place_of.ensures c.deref.ensures.value

pub lie_at-requires-clause-place : goal.lie_at-requires-clause-place
lie_at-requires-clause-place c =
    let find : List Liar → Option ℕ = position_from (λ x. x.process == c.args.signer) 0 in
    let place : find c.args.self.now.liars.items
    ≡ Some c.in-Some.i = sym (ap find c.deref.ensures.value) ∙ (sym c.place_of.ensures ∙ c.in-Some.is) in
    omega (arith, position_low (λ (x : Liar). x.process == c.args.signer) 0 c.args.self.now.liars.items c.in-Some.i place)

pub returns-in_default-2-clause-happens : goal.returns-in_default-2-clause-happens
returns-in_default-2-clause-happens c =
    let find : List Liar → Option ℕ = position_from (λ x. x.process == c.args.signer) 0 in
    let place : find c.args.self.now.liars.items
    ≡ Some c.in-Some.i = sym (ap find c.deref.ensures.value) ∙ (sym c.place_of.ensures ∙ c.in-Some.is) in
    let P : Option (List ℕ) → Type 0 = λ lie. LiesAt c.args.self.now.group
    (stmt c.in-Ok.said) c.args.self.now.liars.items c.lie_at.new.liars.items c.in-Some.i lie in
    lie_spent c.args.self.now (record c.args.self.now { liars = c.lie_at.new.liars }) c.args.signer c.in-Some.i
    (mask_of c.args.to) c.args.statement.now (stmt c.in-Ok.said) place
    (subst P c.in_default-2.is c.in_ok-frame.ensures) c.in-Ok.ensures.exact refl

pub returns-clause-happens : goal.returns-clause-happens
returns-clause-happens c =
    let m = c.mask.result in
    let low : m < 2 ^ 64 = omega arith in
    let mask : mask_of c.args.to ≡ m = ap mask_of (sym c.mask.ensures) ∙ mask_of-members m low in
    let find : List Liar → Option ℕ = position_from (λ x. x.process == c.args.signer) 0 in
    let place : find c.args.self.now.liars.items
    ≡ Some c.in-Some.i = sym (ap find c.deref.ensures.value) ∙ (sym c.place_of.ensures ∙ c.in-Some.is) in
    let new = record c.args.self.now { liars = c.lie_at.new.liars; traffic = c.send.new.self } in
    let P : Option (List ℕ) → Type 0 = λ lie. LiesAt c.args.self.now.group
    (stmt c.in-Ok.said) c.args.self.now.liars.items c.lie_at.new.liars.items c.in-Some.i lie in
    let lie = subst P c.in-Some-2.is c.in_ok-frame.ensures in
    on_ok_weaker c.send.result (λ both. λ h v s event. (
      plain.send c.args.signer (has c.from_mask-to.result) v c.in-Some-2.frame,
      lie_reported h c.args.self.now new v c.args.signer c.in-Some.i
          (mask_of c.args.to) c.from_mask-to.result c.args.statement.now c.in-Some-2.frame
          (stmt c.in-Ok.said) s place lie c.in-Ok.ensures.exact
          (c.from_mask-to.ensures ∙ ap members (sym mask)),
      lie_shows h c.args.self.now new v c.args.signer c.in-Some.i c.from_mask-to.result c.in-Some-2.frame (stmt c.in-Ok.said) s place lie
          (record {
            group = refl;
            scheme = refl;
            roster = refl;
            players = refl;
            raws = refl;
            refused = refl;
            spent = refl;
            frames = both.1;
            count = refl;
          })
          (both.0 v s.traffic (rw c.deref-2.ensures.value
          (players_numbers (setting_of h) c.args.self.now.players.items v.players s.players))),
    )) (on_ok_both _ _ c.send.result c.send.ensures.sends c.send.ensures.handed)

pub returns-clause-stops : goal.returns-clause-stops
returns-clause-stops c =
    let m = c.mask.result in
    let low : m < 2 ^ 64 = omega arith in
    let mask : mask_of c.args.to ≡ m = ap mask_of (sym c.mask.ensures) ∙ mask_of-members m low in
    let find : List Liar → Option ℕ = position_from (λ x. x.process == c.args.signer) 0 in
    let place : find c.args.self.now.liars.items
    ≡ Some c.in-Some.i = sym (ap find c.deref.ensures.value) ∙ (sym c.place_of.ensures ∙ c.in-Some.is) in
    let new = record c.args.self.now { liars = c.lie_at.new.liars; traffic = c.send.new.self } in
    let P : Option (List ℕ) → Type 0 = λ lie. LiesAt c.args.self.now.group
    (stmt c.in-Ok.said) c.args.self.now.liars.items c.lie_at.new.liars.items c.in-Some.i lie in
    let lie = subst P c.in-Some-2.is c.in_ok-frame.ensures in
    IfErr-weaker c.send.result _ _ (λ fault much. λ h v s event.
    too_much_stops h v (plain.send c.args.signer (has c.from_mask-to.result) v c.in-Some-2.frame)
    (Lie c.args.signer (mask_of c.args.to) c.args.statement.now) fault
    (lie_reported h c.args.self.now new v c.args.signer c.in-Some.i
    (mask_of c.args.to) c.from_mask-to.result c.args.statement.now c.in-Some-2.frame (stmt c.in-Ok.said) s place lie c.in-Ok.ensures.exact
    (c.from_mask-to.ensures ∙ ap members (sym mask)))
    (much v s.traffic (rw c.deref-2.ensures.value
    (players_numbers (setting_of h) c.args.self.now.players.items v.players s.players)) s.count)) c.send.ensures.too_much

pub returns-in_default-clause-tells : goal.returns-in_default-clause-tells
returns-in_default-clause-tells c = λ h v s event. absurd
    (no_liar c.args.self.now c.args.signer
    (mask_of c.args.to) c.args.statement.now c.place_of.result c.deref.result.now c.in_default.is c.place_of.ensures c.deref.ensures.value
    h v s event)

pub returns-in_default-2-clause-tells : goal.returns-in_default-2-clause-tells
returns-in_default-2-clause-tells c = λ h v s event.
    let find : List Liar → Option ℕ = position_from (λ x. x.process == c.args.signer) 0 in
    let place : find c.args.self.now.liars.items
    ≡ Some c.in-Some.i = sym (ap find c.deref.ensures.value) ∙ (sym c.place_of.ensures ∙ c.in-Some.is) in
    let P : Option (List ℕ) → Type 0 = λ lie. LiesAt c.args.self.now.group
    (stmt c.in-Ok.said) c.args.self.now.liars.items c.lie_at.new.liars.items c.in-Some.i lie in
    let Q : List Happening → Type 0 = λ xs. WasReported c.args.reported.now xs c.add.new.self in
    subst Q (sym (tells_of_silence h c.args.self.now (record c.args.self.now { liars = c.lie_at.new.liars }) v c.args.signer c.in-Some.i
    (mask_of c.args.to) c.args.statement.now (stmt c.in-Ok.said)
    s place (subst P c.in_default-2.is c.in_ok-frame.ensures) c.in-Ok.ensures.exact)) c.in_ok-add.ensures

pub returns-clause-tells : goal.returns-clause-tells
returns-clause-tells c =
    let m = c.mask.result in
    let low : m < 2 ^ 64 = omega arith in
    let mask : mask_of c.args.to ≡ m = ap mask_of (sym c.mask.ensures) ∙ mask_of-members m low in
    let those : c.from_mask-to.result ≡ members (mask_of c.args.to) = c.from_mask-to.ensures ∙ ap members (sym mask) in
    let find : List Liar → Option ℕ = position_from (λ x. x.process == c.args.signer) 0 in
    let place : find c.args.self.now.liars.items
    ≡ Some c.in-Some.i = sym (ap find c.deref.ensures.value) ∙ (sym c.place_of.ensures ∙ c.in-Some.is) in
    let P : Option (List ℕ) → Type 0 = λ lie. LiesAt c.args.self.now.group
    (stmt c.in-Ok.said) c.args.self.now.liars.items c.lie_at.new.liars.items c.in-Some.i lie in
    let lie = subst P c.in-Some-2.is c.in_ok-frame.ensures in
    on_ok_weaker c.send.result (λ sent. λ h v s event.
    let Q : List Happening → Type 0 = λ xs. WasReported c.args.reported.now xs c.tell_lie.new.reported in
    let reported = tells_of_lie h c.args.self.now (record c.args.self.now { liars = c.lie_at.new.liars }) v c.args.signer c.in-Some.i
    (mask_of c.args.to) c.args.statement.now c.in-Some-2.frame (stmt c.in-Ok.said) s place lie c.in-Ok.ensures.exact in
    let number = ap (λ (n : ℕ). defs.Lies c.args.signer c.args.statement.now n (members (mask_of c.args.to)) ∷ [])
    (frames_counted h c.args.self.now v s) in
    let addressed = ap (λ (ps : List ℕ). defs.Lies c.args.signer c.args.statement.now (frame_count c.args.self.now) ps ∷ []) (sym those) in
    subst Q (sym (reported ∙ number ∙ addressed)) c.in_ok-tell_lie.ensures) c.send.ensures.sends
