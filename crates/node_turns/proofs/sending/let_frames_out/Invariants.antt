use Rattle.std.proofs.Common.{ℕ, List, [], take}
use Rattle.group_defs.specs.Process.{Process}
use Rattle.journal_defs.specs.declared.Version.{Version}
use Rattle.node_defs.specs.Casts.{cast_of}
use Rattle.node_traces.specs.Service.{Asked}
use Rattle.letting_laws.specs.Letting.{edge, LetOut}
use Rattle.node_turns.specs.Letters.{letters_in, link_seen, sends_of}
use Rattle.node_turns.proofs.sending.let_frames_out.Given as goal

abbrev pub invariant-frames : goal.invariant-frames
invariant-frames g l = (version : Version) (at : ℕ → Process) (h : List Asked) → LetOut (cast_of l.speaker.kit.now version) at
    (sends_of l.speaker.me (letters_in (take l.out-index l.sends)))
    (edge (link_seen g.L.Link.sent g.L.Link.coming g.L.Link.faults l.fn.link) [] l.fn.late.items h)
    (edge (link_seen g.L.Link.sent g.L.Link.coming g.L.Link.faults l.link) [] l.late.items h)
