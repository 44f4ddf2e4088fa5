-- A node that stops with what it has kept; and a line that it writes.
use Rattle.std.proofs.Common.{◌≡◌, ℕ, List, ◌∷◌, None, Some, Result, Err, refl, subst}
use Rattle.journal_defs.specs.Entries.{Entry}
use Rattle.node_defs.specs.Casts.{Cast}
use Rattle.node_defs.specs.Lines.{Stop, NoMemory}
use Rattle.node_defs.specs.Nodes.{Node, Task, Say, Done, Failed, Unremembered, Snapper, answered}
use Rattle.node_traces.specs.Outside.{LinkSeen, SinkSeen, SinkWrote, SourceSeen}
use Rattle.node_traces.specs.Service.{Asked}
use Rattle.node_traces.specs.Goes.{Outside, Goes}
use Rattle.node_traces.proofs.Going.{parts_go_on}
use Rattle.node_traces.proofs.Quiet.{no-memory, runs-out}
use Rattle.sealing_laws.specs.Running.{stop as stop_of, Stop as Why}
use Rattle.sealing_laws.specs.Running as whys
use Rattle.node_taking.specs.Taking.{outside}
use Rattle.node_taking.specs.Keeping.{at}
use Rattle.node_taking.specs.Telling.{WritesText}
use Rattle.node_taking.proofs.Machine.{answers}
use Rattle.node_taking.proofs.Lines.{said-so, say-failed, says-does}

-- The node went on to one that has stopped so, with what it has kept.
pub record Ends (c : Cast) (snap : Snapper) (most : ℕ) (n : Node) (x : Outside) (why : Stop) (y : Outside) (kept : List Entry) : Type 0 where
  pub last : Node
  pub stops : last.stopped ≡ Some why
  pub keeps : last.kept ≡ kept
  pub goes : Goes c snap most n x last y

-- memory runs out
pub forgets : (c : Cast) (snap : Snapper) (most : ℕ) (n : Node) (x : Outside) → n.stopped ≡ None → Ends c snap most n x NoMemory x n.kept
forgets c snap most n x runs =
    let last : Node = answered c snap n Unremembered in
    let out = runs-out c snap n runs in
    record { last = last; stops = out.0; keeps = out.1; goes = answers c snap most n last Unremembered x x refl (no-memory c most n x) }

-- after another part
pub ends-after : (c : Cast) (snap : Snapper) (most : ℕ) (n m : Node) (x y z : Outside) (why : Stop) (kept : List Entry) → Goes c snap most n x m y
    → Ends c snap most m y why z kept → Ends c snap most n x why z kept
ends-after c snap most n m x y z why kept first ends = record {
  last = ends.last;
  stops = ends.stops;
  keeps = ends.keeps;
  goes = parts_go_on c snap most n m ends.last x y z first ends.goes;
}

-- ---- a line

pub says-on : (c : Cast) (snap : Snapper) (most : ℕ) (n : Node) (text : List ℕ) (ts : List Task) (l : LinkSeen) (s t : SinkSeen) (o : SourceSeen)
    (h : List Asked) → SinkWrote s t text → Goes c snap most (at n (Say text ∷ ts)) (outside l s o h) (at n ts) (outside l t o h)
says-on c snap most n text ts l s t o h wrote =
    answers c snap most (at n (Say text ∷ ts)) (at n ts) Done (outside l s o h) (outside l t o h) (said-so c snap n text ts)
    (says-does c most n text ts Done l s t o h wrote)

pub says-stops : (T : Type 0) (why : Why) (c : Cast) (snap : Snapper) (most : ℕ) (n : Node) (text : List ℕ) (ts : List Task) (l : LinkSeen)
    (s t : SinkSeen) (o : SourceSeen) (h : List Asked) → WritesText (let r : Result T Why = Err why in r) text s t
    → Ends c snap most (at n (Say text ∷ ts)) (outside l s o h) (stop_of why) (outside l t o h) n.kept
says-stops T whys.NoMemory c snap most n text ts l s t o h same =
    subst (λ (z : SinkSeen). Ends c snap most (at n (Say text ∷ ts)) (outside l s o h) NoMemory (outside l z o h) n.kept) same
    (forgets c snap most (at n (Say text ∷ ts)) (outside l s o h) refl)
says-stops T whys.WriteFailed c snap most n text ts l s t o h failed =
    let m : Node = at n (Say text ∷ ts) in
    let last : Node = answered c snap m Failed in
    let ends = say-failed c snap n text ts in
    record {
      last = last;
      stops = ends.0;
      keeps = ends.1;
      goes = answers c snap most m last Failed (outside l s o h) (outside l t o h) refl (says-does c most n text ts Failed l s t o h failed);
    }
says-stops T _ c snap most n text ts l s t o h bad = absurd bad
