use Rattle.std.proofs.Common.{[], ◌∷◌}
use Rattle.std.proofs.lemmas.Result.{on_err_weaker, on_ok_weaker}
use Rattle.node_defs.specs.Lines.{note_line}
use Rattle.node_service.specs.Lines.{note}
use Rattle.node_service.proofs.Lines.{goes_on-more, goes_on-same}
use Rattle.node_turns.specs.Letters.{tells_of}
use Rattle.node_turns.proofs.Sent.{on-err}
use Rattle.node_turns.proofs.Reported.{reported-by, untold-by}
use Rattle.node_turns.proofs.notes.tell_note.Goals as goal

pub returns-in_err-push_note-clause-begun : goal.returns-in_err-push_note-clause-begun
returns-in_err-push_note-clause-begun g c = λ k at link h has hosted. on-err _
    (untold-by g.V.Service.heard c.args.service.now k at (tells_of c.args.me (c.args.note.now ∷ [])) link h has)

pub returns-in_err-push_note-clause-grows : goal.returns-in_err-push_note-clause-grows
returns-in_err-push_note-clause-grows g c =
    goes_on-same c.args.text.now.items c.push_note.new.out.items c.in_err-push_note.ensures.unchanged

pub returns-clause-reported : goal.returns-clause-reported
returns-clause-reported g c = λ k at link h has hosted. on_ok_weaker c.noted.result
    (reported-by g.V.Service.heard c.noted.new.self k at c.args.me c.args.note.now link c.args.text.now.items c.push_note.new.out.items
    c.noted.new.lines.items h c.in_ok-push_note.ensures.pushed) (c.noted.ensures.tells k c.args.me (at c.args.me) h has hosted)

pub returns-clause-begun : goal.returns-clause-begun
returns-clause-begun g c = λ k at link h has hosted. on_err_weaker c.noted.result
    (untold-by g.V.Service.heard c.noted.new.self k at (tells_of c.args.me (c.args.note.now ∷ [])) link h) (c.noted.ensures.lost h has)

pub returns-clause-grows : goal.returns-clause-grows
returns-clause-grows g c =
    goes_on-more c.args.text.now.items (note_line c.args.me (note c.args.note.now)) c.push_note.new.out.items c.noted.new.lines.items
    c.in_ok-push_note.ensures.pushed c.noted.ensures.more
