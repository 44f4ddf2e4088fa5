use Rattle.std.proofs.Common.{ℕ, List, [], take}
use Rattle.group_defs.specs.Process.{Process}
use Rattle.node_service.specs.Lines.{GoesOn}
use Rattle.node_defs.specs.Casts.{Cast}
use Rattle.node_traces.specs.Outside.{LinkSeen}
use Rattle.node_traces.specs.Service.{Asked, HeardBy}
use Rattle.letting_laws.specs.Letting.{edge, LetOut}
use Rattle.node_service.specs.Words.{IsHosted}
use Rattle.node_turns.specs.Letters.{tells_of}
use Rattle.node_turns.proofs.notes.tell_each.Given as goal

abbrev pub invariant-notes : goal.invariant-notes
invariant-notes g l = record {
  reported : (c : Cast) (at : ℕ → Process) (link : LinkSeen) (h : List Asked) → g.V.Service.heard l.fn.service h
      → IsHosted c l.me (at l.me) l.process
      → HeardBy g.V.Service.heard l.service (λ i. LetOut c at (tells_of l.me (take l.note-index l.notes)) (edge link l.fn.text.items [] h)
      (edge link l.text.items [] i));
  grows : GoesOn l.fn.text.items l.text.items;
}
