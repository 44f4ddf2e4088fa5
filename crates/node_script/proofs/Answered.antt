-- What the answer to a read of the script makes of a node.
use Rattle.std.proofs.Common.{◌≡◌, inl, inr, ℕ, ◌+◌, List, [], Option, None, sym, ap, subst, ◌∙◌}
use Rattle.std.specs.Prelude.{◌≢◌}
use Rattle.node_defs.specs.Casts.{Cast}
use Rattle.node_defs.specs.Lines.{Stop, Ended, NoMemory, ReadFailed, BadLine}
use Rattle.node_defs.specs.Nodes.{Node, Snapper, tasks_of_line}
use Rattle.node_defs.specs.Scripts.{Line, line_said, most_lines}
use Rattle.node_traces.specs.Stops.{Outset}
use Rattle.node_traces.specs.Outside.{LinkSeen, SinkSeen, SourceSeen}
use Rattle.node_traces.specs.Service.{Asked}
use Rattle.node_traces.specs.Goes.{Outside}
use Rattle.node_traces.specs.Went.{Went}
use Rattle.script_laws.specs.Script.{EachReads, HasToDo, IsNoLine, StopsWith, with_line}
use Rattle.script_laws.proofs.Reading.{reads_in_order}
use Rattle.node_input.specs.Reads.{Asks, AsksNone, EndsAfter, TakesBad, TakesNone}
use Rattle.node_snapping.specs.Taking.{StopsSo, outside}
use Rattle.node_snapping.proofs.Handed.{Rests, still, stops-still}

module _ {D : Type 0} (seen : D → Option (List ℕ)) (may_leave : D → List ℕ → Type 0) (moment : D → ℕ)
    (left_since : D → ℕ → List ℕ → Type 0) (only_now : (d : D) (image : List ℕ) → left_since d (moment d) image
    → may_leave d image) (c : Cast)
    (snap : Snapper) (most : ℕ) (f : Outset) where
  -- it stops with what it has kept
  pub stops-so : (n : Node) (x y : Outside) (d : D) (why : Stop) → n.opening ≡ [] → Rests (seen d) (may_leave d) f.head n
      → StopsWith c snap most n x why y → StopsSo seen may_leave moment left_since c snap most f n x d why y d
  stops-so n x y d why opened rests stops =
      stops-still seen may_leave moment left_since only_now c snap most f n stops.last x y d why opened rests stops.goes stops.stops
      stops.kept

  module _ (n : Node) (l : LinkSeen) (s : SinkSeen) (k : SourceSeen) (h : List Asked) (d : D) (todo : HasToDo n []) (rests : Rests (seen d)
      (may_leave d) f.head n) where
    reads : EachReads c snap most n (outside l s k h)
    reads = reads_in_order c snap most n (outside l s k h) todo

    -- The node stops so, and the input was seen so then.
    abbrev Stops : Stop → SourceSeen → Type 0
    Stops why o = StopsSo seen may_leave moment left_since c snap most f n (outside l s k h) d why (outside l s o h) d

    by-read : (why : Stop) (o : SourceSeen) → StopsWith c snap most n (outside l s k h) why (outside l s o h) → Stops why o
    by-read why o stops = stops-so n (outside l s k h) (outside l s o h) d why todo.opened rests stops

    -- memory ran out
    pub forgets : Stops NoMemory k
    forgets = by-read NoMemory k reads.unremembered

    -- no line was taken
    takes-none : (number : ℕ) (o : SourceSeen) (why : Stop) → number ≡ n.lines + 1 → TakesNone most number k o why → Stops why o
    takes-none number o Ended is none = by-read Ended o (reads.ended o none)
    takes-none number o ReadFailed is none = by-read ReadFailed o (reads.failed o none)
    takes-none number o NoMemory is same = subst (λ (m : SourceSeen). Stops NoMemory m) same forgets
    takes-none number o (BadLine m) is broke =
        subst (λ (w : ℕ). Stops (BadLine w) o) (sym (broke.0 ∙ is)) (by-read (BadLine (n.lines + 1)) o (reads.broken o broke.1))
    takes-none number o _ is none = absurd none

    -- one was, and the script has no such line there
    takes-bad : (P : List ℕ → Type 0) (number : ℕ) (o : SourceSeen) (why : Stop) → ((line : List ℕ) → P line → IsNoLine c n line)
        → number ≡ n.lines + 1 → TakesBad P most number k o why → Stops why o
    takes-bad P number o why each is bad =
        subst (λ (w : Stop). Stops w o) (sym (bad.reported ∙ ap BadLine is))
        (by-read (BadLine (n.lines + 1)) o (reads.refused bad.line o bad.took (each bad.line bad.bad)))

    pub asks-none : (hosted : List ℕ) (number : ℕ) (o : SourceSeen) (why : Stop) → hosted ≡ c.hosted → number ≡ n.lines + 1
        → AsksNone most hosted number k o why → Stops why o
    asks-none hosted number o why same is (inl none) = takes-none number o why is none
    asks-none hosted number o why same is (inr bad) =
        takes-bad (λ line. line_said hosted line ≡ None) number o why
        (λ line none. inr (ap (λ ps. line_said ps line) (sym same) ∙ none)) is bad

    -- 1,000,000 lines came before it
    pub ends-after : (number : ℕ) (o : SourceSeen) (why : Stop) → n.script ≡ most_lines → number ≡ n.lines + 1 → EndsAfter most number k o why
        → Stops why o
    ends-after number o why many is (inl none) = takes-none number o why is none
    ends-after number o why many is (inr bad) = takes-bad (λ line. Unit {0}) number o why (λ line none. inl many) is bad

    -- a line was taken that asks for this
    pub asks-on : (hosted : List ℕ) (o : SourceSeen) (line : List ℕ) (said : Line) → hosted ≡ c.hosted → n.script ≢ most_lines
        → Asks most hosted k o line said
        → Went seen moment left_since c snap most f n (outside l s k h) d (with_line n (tasks_of_line line said)) (outside l s o h) d
    asks-on hosted o line said same few asked =
        still seen may_leave moment left_since only_now c snap most f n (with_line n (tasks_of_line line said)) (outside l s k h)
        (outside l s o h) d todo.opened rests
        (reads.took line said o asked.took few (ap (λ ps. line_said ps line) (sym same) ∙ asked.says))
