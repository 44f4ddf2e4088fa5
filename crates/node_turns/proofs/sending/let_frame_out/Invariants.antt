use Rattle.std.proofs.Common.{ℕ, List, []}
use Rattle.group_defs.specs.Process.{Process}
use Rattle.journal_defs.specs.declared.Version.{Version}
use Rattle.rp_base.specs.PidsLeft.{pids_left}
use Rattle.node_defs.specs.Casts.{cast_of}
use Rattle.node_traces.specs.Service.{Asked}
use Rattle.letting_laws.specs.Letting.{edge}
use Rattle.node_turns.specs.Letters.{link_seen}
use Rattle.node_turns.proofs.Sent.{Along}
use Rattle.node_turns.proofs.sending.let_frame_out.Given as goal

abbrev pub invariant-letters : goal.invariant-letters
invariant-letters g l = (version : Version) (at : ℕ → Process) (h : List Asked)
    → Along (cast_of l.speaker.kit.now version) at l.speaker.me l.out.frame l.out.to (pids_left l.to-iterator)
    (edge (link_seen g.L.Link.sent g.L.Link.coming g.L.Link.faults l.fn.link) [] l.fn.late.items h)
    (edge (link_seen g.L.Link.sent g.L.Link.coming g.L.Link.faults l.link) [] l.late.items h)
