-- How a script goes on line by line, and how it ends.
use Rattle.std.proofs.Common.{◌≡◌, ℕ, ◌+◌, ◌<◌, List, [], Option, None, refl, subst, ◌∙◌, arith}
use Rattle.std.specs.Prelude.{◌≢◌}
use Rattle.node_defs.specs.Casts.{Cast}
use Rattle.node_defs.specs.Lines.{Stop, NoMemory}
use Rattle.node_defs.specs.Nodes.{Node, Task, Snapper}
use Rattle.node_defs.specs.Scripts.{most_lines}
use Rattle.node_traces.specs.Stops.{Outset}
use Rattle.node_traces.specs.Outside.{LinkSeen, SinkSeen, SourceSeen}
use Rattle.node_traces.specs.Service.{Asked}
use Rattle.node_traces.specs.Goes.{Outside}
use Rattle.node_input.specs.Reads.{AsksNone, EndsAfter}
use Rattle.node_input.specs.Sources.{IsSeen, SeenAs}
use Rattle.node_snapping.specs.Hosts.{Running, IsNode, cast_in, numbers_of}
use Rattle.node_snapping.specs.Taking.{HasNode, StopsSo, outside}
use Rattle.node_snapping.proofs.Handed.{stops-after}
use Rattle.node_script.specs.Ends.{ReadsOn}
use Rattle.node_script.proofs.Carried.{to-do}
use Rattle.node_script.proofs.Joined.{reads-more}
use Rattle.node_script.proofs.Answered.{asks-none, ends-after, forgets}

-- fewer lines than the script may have
pub not-all : (count : ℕ) (script : ℕ) → count < 1000000 → script ≡ count → script ≢ most_lines
unfolding most_lines
not-all count script few is same = absurd (omega arith)

-- ---- a running node that has read so many lines, and an input of which nothing is known

abbrev pub at-line : Node → ℕ → ℕ → Node
at-line n lines script = record n { tasks = []; lines = lines; script = script }

pub at-line-is : (f : Outset) (seen : Option (List ℕ)) (may_leave : List ℕ → Type 0) (r : Running) (n : Node) (ts : List Task) (lines script : ℕ)
    → IsNode f seen may_leave r n ts → IsNode f seen may_leave r (at-line n lines script) []
at-line-is f seen may_leave r n ts lines script is = record {
  at = record { runs = is.at.runs; opened = is.at.opened; leaving = is.at.leaving; tasks = refl; text = is.at.text; late = is.at.late };
  hosts = is.hosts;
  journal = record { gate = is.journal.gate; length = is.journal.length; rest = is.journal.rest };
  keyed = is.keyed;
  sound = record { processes = is.sound.processes; out = is.sound.out; finished = is.sound.finished };
  counts = record { each = is.counts.each; few = is.counts.few };
}

abbrev pub untold : ℕ → SourceSeen
untold faults = record { left = None; faults = faults }

pub untold-is : (ahead : List ℕ) (left : Option (List ℕ)) (faults : ℕ) → IsSeen (untold faults) ahead left faults
untold-is ahead left faults = record { bytes = tt; count = refl }

module _ {D : Type 0} (seen : D → Option (List ℕ)) (may_leave : D → List ℕ → Type 0) (moment : D → ℕ)
    (left_since : D → ℕ → List ℕ → Type 0) (only_now : (d : D) (image : List ℕ) → left_since d (moment d) image → may_leave d image)
    (snaps : Cast → Snapper) (most : ℕ) (f : Outset) (ahead : List ℕ) (left : Option (List ℕ)) (faults : ℕ) where
  -- the running node is a node of the definitions still
  pub has-node : (c : Cast) (n : Node) (x : Outside) (l : LinkSeen) (s : SinkSeen) (old new : D) (count : ℕ) (r : Running)
      (i : List Asked) → SeenAs (λ o. ReadsOn seen may_leave moment left_since c (snaps c) most f n x old count
      (outside l s o i) new r) ahead left faults
      → HasNode (seen new) (may_leave new) r
  has-node c n x l s old new count r i on = record { from = f; node = on.holds.node; tasks = []; is = on.holds.is }

  -- ---- at one line

  module _ (r : Running) (n : Node) (l : LinkSeen) (s : SinkSeen) (k : SourceSeen) (h : List Asked) (d : D) (is : IsNode f (seen d) (may_leave d) r n []) where
    -- The script ends so, and the input was seen so then.
    abbrev EndsHere : Stop → SourceSeen → Type 0
    EndsHere why o = StopsSo seen may_leave moment left_since (cast_in r) (snaps (cast_in r)) most f n (outside l s k h) d why
        (outside l s o h) d

    pub forgets-here : IsSeen k ahead left faults → (all : List ℕ) × SeenAs (EndsHere NoMemory) all left faults
    forgets-here here = (
      ahead,
      record {
        source = k;
        seen = here;
        holds = (forgets seen may_leave moment left_since only_now (cast_in r) (snaps (cast_in r)) most f n l s k h d (to-do n [] is.at) is.journal.rest);
      },
    )

    pub asked-none : (hosted : List ℕ) (number : ℕ) (why : Stop) → hosted ≡ numbers_of r.hosts → number ≡ n.lines + 1
        → SeenAs (λ o. AsksNone most hosted number k o why) ahead left faults → SeenAs (EndsHere why) ahead left faults
    asked-none hosted number why same next way = record {
      source = way.source;
      seen = way.seen;
      holds = (asks-none seen may_leave moment left_since only_now (cast_in r) (snaps (cast_in r)) most f n l s k h d
          (to-do n [] is.at) is.journal.rest hosted
          number way.source why (same ∙ is.hosts.numbers) next way.holds);
    }

    ended-after : (number : ℕ) (why : Stop) → n.script ≡ most_lines → number ≡ n.lines + 1
        → SeenAs (λ o. EndsAfter most number k o why) ahead left faults → SeenAs (EndsHere why) ahead left faults
    ended-after number why many next way = record {
      source = way.source;
      seen = way.seen;
      holds = (ends-after seen may_leave moment left_since only_now (cast_in r) (snaps (cast_in r)) most f n l s k h d
          (to-do n [] is.at) is.journal.rest number
          way.source why many next way.holds);
    }

  -- ---- after other lines

  module _ (c : Cast) (n : Node) (x : Outside) (l m : LinkSeen) (s t : SinkSeen) (k : SourceSeen) (h i : List Asked) (old mid new : D)
      (count : ℕ) (r : Running)
      (first : ReadsOn seen may_leave moment left_since c (snaps c) most f n x old count (outside l s k h) mid r) where
    pub then-more : (r' : Running) (more : ℕ)
        → SeenAs (λ o. ReadsOn seen may_leave moment left_since (cast_in r) (snaps (cast_in r)) most f first.node (outside l s k h) mid more
        (outside m t o i) new r') ahead left faults
        → SeenAs (λ o. ReadsOn seen may_leave moment left_since c (snaps c) most f n x old (count + more) (outside m t o i) new r') ahead left
        faults
    then-more r' more next = record {
      source = next.source;
      seen = next.seen;
      holds = reads-more seen may_leave moment left_since only_now snaps most f c n x (outside l s k h)
          (outside m t next.source i) old mid
          new r r' count more first next.holds;
    }

    pub then-stops : (why : Stop)
        → SeenAs (λ o. StopsSo seen may_leave moment left_since (cast_in r) (snaps (cast_in r)) most f first.node (outside l s k h) mid why
        (outside m t o i) new) ahead left faults
        → SeenAs (λ o. StopsSo seen may_leave moment left_since c (snaps c) most f n x old why (outside m t o i) new) ahead left faults
    then-stops why next =
        let end = subst (λ (d : Cast). StopsSo seen may_leave moment left_since d (snaps d) most f first.node
        (outside l s k h) mid why
        (outside m t next.source i) new) first.cast next.holds in
        record {
          source = next.source;
          seen = next.seen;
          holds = stops-after seen may_leave moment left_since only_now c (snaps c) most f n first.node x (outside l s k h)
              (outside m t next.source i) old mid new why first.went end;
        }

  -- the last line that a script may have, and then one too many
  pub ends-at-last : (c : Cast) (n : Node) (x : Outside) (l : LinkSeen) (s : SinkSeen) (h : List Asked) (old new : D) (r : Running) (go : ℕ)
      (why : Stop) (k : SourceSeen) → n.lines ≡ go → n.script ≡ 0
      → ReadsOn seen may_leave moment left_since c (snaps c) most f n x old most_lines (outside l s k h) new r
      → SeenAs (λ o. EndsAfter most (go + most_lines + 1) k o why) ahead left faults
      → SeenAs (λ o. StopsSo seen may_leave moment left_since c (snaps c) most f n x old why (outside l s o h) new) ahead left faults
  ends-at-last c n x l s h old new r go why k lines script first way =
      let many : first.node.script ≡ most_lines = omega (arith, first.script, script) in
      let next : go + most_lines + 1 ≡ first.node.lines + 1 = omega (arith, first.lines, lines) in
      then-stops c n x l l s s k h h old new new most_lines r first why
      (ended-after r first.node l s k h new first.is (go + most_lines + 1) why many next way)
