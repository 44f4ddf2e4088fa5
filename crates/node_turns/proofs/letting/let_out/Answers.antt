use Rattle.std.proofs.Common.{List, sym, subst}
use Rattle.std.specs.Prelude.{All}
use Rattle.std.proofs.lemmas.Result.{on_err_weaker, on_ok_weaker}
use Rattle.member_events.specs.declared.events.Sending.{Sending}
use Rattle.journal_rp.specs.Turns.{outcome_of}
use Rattle.node_defs.specs.Casts.{cast_of}
use Rattle.node_service.specs.Words.{IsHosted}
use Rattle.node_turns.specs.Letters.{IsSealable, letters_in, link_seen}
use Rattle.node_turns.proofs.Sent.{on-err}
use Rattle.node_turns.proofs.Turned.{turn-heard, turn-stopped, turn-untold}
use Rattle.node_turns.proofs.letting.let_out.Goals as goal

pub let_frames_out-requires-clause-sealable : goal.let_frames_out-requires-clause-sealable
let_frames_out-requires-clause-sealable g c =
    subst (λ (ss : List Sending). All (IsSealable c.args.speaker.now.kit.now c.args.speaker.now.me) (letters_in ss)) (sym c.sends.ensures)
    c.requires.sealable

pub returns-in_err-let_frames_out-clause-begun : goal.returns-in_err-let_frames_out-clause-begun
returns-in_err-let_frames_out-clause-begun g c = λ version o at h is has hosted. on-err _
    (turn-stopped g.V.Service.heard c.args.service.now (cast_of c.args.speaker.now.kit.now version) at c.args.speaker.now.me o
    (outcome_of c.args.turn.now)
    (link_seen g.L.Link.sent g.L.Link.coming g.L.Link.faults c.args.link.now)
    (link_seen g.L.Link.sent g.L.Link.coming g.L.Link.faults c.let_frames_out.new.link) c.sends.result.now h is c.sends.ensures has
    (c.in_err-let_frames_out.ensures.begun version at h))

pub returns-clause-out : goal.returns-clause-out
returns-clause-out g c = λ version o at h is has hosted. on_ok_weaker c.tell_notes.result
    (turn-heard g.V.Service.heard c.tell_notes.new.service (cast_of c.args.speaker.now.kit.now version) at c.args.speaker.now.me o
    (outcome_of c.args.turn.now)
    (link_seen g.L.Link.sent g.L.Link.coming g.L.Link.faults c.args.link.now)
    (link_seen g.L.Link.sent g.L.Link.coming g.L.Link.faults c.let_frames_out.new.link) c.sends.result.now c.notes.result.now _ _ _ _ _ h is
    c.sends.ensures c.notes.ensures c.new-late.ensures.items c.as_slice.ensures.value (c.in_ok-let_frames_out.ensures.out version at h))
    (c.tell_notes.ensures.reported (cast_of c.args.speaker.now.kit.now version) at h has
    (subst (IsHosted (cast_of c.args.speaker.now.kit.now version) c.args.speaker.now.me (at c.args.speaker.now.me)) (sym c.process.ensures)
    hosted))

pub returns-clause-begun : goal.returns-clause-begun
returns-clause-begun g c = λ version o at h is has hosted. on_err_weaker c.tell_notes.result
    (turn-untold g.V.Service.heard c.tell_notes.new.service (cast_of c.args.speaker.now.kit.now version) at c.args.speaker.now.me o
    (outcome_of c.args.turn.now)
    (link_seen g.L.Link.sent g.L.Link.coming g.L.Link.faults c.args.link.now)
    (link_seen g.L.Link.sent g.L.Link.coming g.L.Link.faults c.let_frames_out.new.link) c.sends.result.now c.notes.result.now _ _ h is
    c.sends.ensures c.notes.ensures (c.in_ok-let_frames_out.ensures.out version at h))
    (c.tell_notes.ensures.begun (cast_of c.args.speaker.now.kit.now version) at
    (link_seen g.L.Link.sent g.L.Link.coming g.L.Link.faults c.let_frames_out.new.link) h has
    (subst (IsHosted (cast_of c.args.speaker.now.kit.now version) c.args.speaker.now.me (at c.args.speaker.now.me)) (sym c.process.ensures)
    hosted))
