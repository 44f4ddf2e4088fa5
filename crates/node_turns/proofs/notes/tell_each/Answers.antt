use Rattle.std.proofs.Common.{arith, refl}
use Rattle.letting_laws.proofs.Joined.{let-nothing}
use Rattle.node_service.proofs.Lines.{goes_on-more, goes_on-same}
use Rattle.node_turns.proofs.Sent.{on-err}
use Rattle.node_turns.proofs.Reported.{notes-ended, notes-step, notes-stop}
use Rattle.node_turns.proofs.notes.tell_each.Goals as goal

pub notes-init : goal.notes-init
notes-init g c = record {
  reported = λ k at link h has hosted. record { history = h; has = has; holds = let-nothing k at _ };
  grows = goes_on-same _ _ refl;
}

pub notes-preserved : goal.notes-preserved
notes-preserved g c = record {
  reported = λ k at link h has hosted.
      let before = c.notes.invariant.reported k at link h has hosted in
      notes-step g.V.Service.heard c.tell_note.new.service k at c.args.me c.args.notes.now c.notes.note-index c.note-item.result link
      c.args.text.now.items c.notes.text.items c.tell_note.new.text.items h before.history c.notes-test.true c.note-item.is before.holds
      (c.in_ok-tell_note.ensures.reported k at link before.history before.has hosted);
  grows = goes_on-more _ c.notes.invariant.grows.0 _ _ c.notes.invariant.grows.1 c.tell_note.ensures.grows;
}

pub returns-in_err-tell_note-clause-begun : goal.returns-in_err-tell_note-clause-begun
returns-in_err-tell_note-clause-begun g c = λ k at link h has hosted. on-err _
    (let before = c.notes.invariant.reported k at link h has hosted in
    notes-stop g.V.Service.heard c.tell_note.new.service k at c.args.me c.args.notes.now c.notes.note-index c.note-item.result link
    c.args.text.now.items c.notes.text.items h before.history c.notes-test.true c.note-item.is before.holds
    (c.in_err-tell_note.ensures.begun k at link before.history before.has hosted))

pub returns-in_err-tell_note-clause-grows : goal.returns-in_err-tell_note-clause-grows
returns-in_err-tell_note-clause-grows g c =
    goes_on-more _ c.notes.invariant.grows.0 _ _ c.notes.invariant.grows.1 c.tell_note.ensures.grows

pub returns-clause-reported : goal.returns-clause-reported
returns-clause-reported g c = λ k at link h has hosted.
    notes-ended g.V.Service.heard c.notes.service k at c.args.me c.args.notes.now c.notes.note-index link c.args.text.now.items
    c.notes.text.items h (omega arith) (c.notes.invariant.reported k at link h has hosted)
