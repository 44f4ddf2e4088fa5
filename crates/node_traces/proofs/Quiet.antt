-- Memory that runs out: the node ends, and nothing outside changes.
use Rattle.std.proofs.Common.{◌≡◌, ℕ, None, Some, refl, sym, ap}
use Rattle.std.specs.Prelude.{Option}
use Rattle.std.proofs.lemmas.List.{append-nil}
use Rattle.node_defs.specs.Casts.{Cast}
use Rattle.node_defs.specs.Lines.{Stop, NoMemory}
use Rattle.node_defs.specs.Nodes.{Node, Call, Binds, Writes, Serves, Finishes, SendsTo, NotesOf, Steps, Appends, Asks, ReceivesOn, Words, Marks, ReadsLine, Rests, Snapper, Unremembered, call_of, answered, unless_stopped}
use Rattle.node_traces.specs.Outside.{LinkSeen, LinkStep, SinkSeen, SinkStep, SourceSeen, SourceStep}
use Rattle.node_traces.specs.Goes.{Outside, Does}

nothing-happens : (most : ℕ) (call : Call) (k : LinkSeen) (s : SinkSeen) (o : SourceSeen)
    → LinkStep k (call, Unremembered) k × SinkStep s (call, Unremembered) s × SourceStep most o (call, Unremembered) o
nothing-happens most (Binds port) k s o = (refl, refl, refl)
nothing-happens most (Writes text) k s o = (refl, refl, refl)
nothing-happens most Serves k s o = (refl, refl, refl)
nothing-happens most Finishes k s o = (refl, refl, refl)
nothing-happens most (SendsTo port datagram) k s o = (refl, refl, refl)
nothing-happens most (NotesOf p note) k s o = (refl, refl, refl)
nothing-happens most (Steps p e) k s o = (refl, refl, refl)
nothing-happens most (Appends entry) k s o = (refl, refl, refl)
nothing-happens most (Asks p e notes above) k s o = (refl, refl, refl)
nothing-happens most (ReceivesOn port) k s o = (refl, refl, refl)
nothing-happens most (Words p line) k s o = (refl, refl, refl)
nothing-happens most Marks k s o = (refl, refl, refl)
nothing-happens most ReadsLine k s o = (refl, refl, refl)
nothing-happens most Rests k s o = (refl, refl, refl)

-- whatever the node asks next, memory may run out
pub no-memory : (c : Cast) (most : ℕ) (n : Node) (x : Outside) → Does c most n Unremembered x x
no-memory c most n x =
    let is = nothing-happens most (call_of c n) x.link x.sink x.source in
    record { link = is.0; sink = is.1; source = is.2; service = sym (append-nil x.service) }

-- and a node that runs ends then, with what it has kept
pub runs-out : (c : Cast) (snap : Snapper) (n : Node) → n.stopped ≡ None
    → ((answered c snap n Unremembered).stopped ≡ Some NoMemory) × ((answered c snap n Unremembered).kept ≡ n.kept)
unfolding answered
runs-out c snap n runs = (
  ap (λ (o : Option Stop). (unless_stopped c snap n Unremembered o).stopped) runs,
  ap (λ (o : Option Stop). (unless_stopped c snap n Unremembered o).kept) runs,
)
