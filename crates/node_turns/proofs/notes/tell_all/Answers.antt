use Rattle.node_turns.proofs.Sent.{on-err}
use Rattle.node_turns.proofs.Reported.{heard-all, heard-notes}
use Rattle.node_turns.proofs.notes.tell_all.Goals as goal

pub returns-in_err-tell_each-clause-begun : goal.returns-in_err-tell_each-clause-begun
returns-in_err-tell_each-clause-begun g c = λ k at link h has hosted. on-err _
    (c.in_err-tell_each.ensures.begun k at link h has hosted)

pub returns-in_err-extend_from_slice-clause-begun : goal.returns-in_err-extend_from_slice-clause-begun
returns-in_err-extend_from_slice-clause-begun g c = λ k at link h has hosted. on-err _
    (heard-all g.V.Service.heard c.tell_each.new.service k at c.args.me c.args.notes.now link h c.args.text.now.items
    c.tell_each.new.text.items (c.in_ok-tell_each.ensures.reported k at link h has hosted))

pub returns-clause-reported : goal.returns-clause-reported
returns-clause-reported g c = λ k at h has hosted.
    heard-notes g.V.Service.heard c.tell_each.new.service k at c.args.me c.args.notes.now h c.args.text.now.items
    c.tell_each.new.text.items c.args.late.now c.extend_from_slice.new.self.items
    (λ link. c.in_ok-tell_each.ensures.reported k at link h has hosted) c.in_ok-extend_from_slice.ensures.items
