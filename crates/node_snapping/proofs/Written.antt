-- The line of a snapshot, made and written: the node goes on to its other tasks, or stops.
use Rattle.std.proofs.Common.{◌≡◌, ℕ, List, ◌∷◌, Option, None, Err, Result, refl, sym, subst}
use Rattle.journal_disk.specs.Disks.{HasLength, OnlyReads}
use Rattle.journal_rp.specs.Answers.{HasCauses, of_memory}
use Rattle.journal_rp.specs.Stages.{len_of, version_of}
use Rattle.journal_rp.specs.declared.fault.JournalFault.{JournalFault}
use Rattle.journal_rp.specs.declared.fault.JournalFault.TheVariants as faults
use Rattle.kit_defs.specs.Kits.{Kit}
use Rattle.node_defs.specs.Casts.{Cast, cast_of}
use Rattle.node_defs.specs.Lines.{Stop, NoMemory, DiskFailed}
use Rattle.node_defs.specs.Nodes.{Node, Task, Say, Mark, Snapper}
use Rattle.node_traces.specs.Stops.{Outset}
use Rattle.node_traces.specs.Outside.{LinkSeen, SinkSeen, SinkWrote, SourceSeen}
use Rattle.node_traces.specs.Service.{Asked}
use Rattle.node_traces.specs.Goes.{Goes}
use Rattle.node_traces.specs.Went.{Went}
use Rattle.node_traces.proofs.Going.{parts_go_on}
use Rattle.node_serving.specs.Hosts.{AreCountsOf, AreHosts, Counts, Hosts, IsJournalOf, IsNode, Running, cast_in}
use Rattle.node_serving.specs.Stops.{stop as stop_of, Stop as Why, stop_of_fault}
use Rattle.node_serving.specs.Taking.{GoesOnTo, WritesText, StopsSo, at, outside}
use Rattle.node_serving.proofs.Handed.{Ends, at-so, ends-after, forgets, is-now, says-on, says-stops, sound-on}
use Rattle.node_snapping.specs.Snapping.{HasNoLine}
use Rattle.node_snapping.proofs.Marked.{marking, marks-on, marks-stops}
use Rattle.node_snapping.proofs.Read.{journal-on, stops-reading, went-reading}

-- a fault of the journal, of a call that has no other than want of memory, leaves no line
pub none-by : (T : Type 0) (before now : ℕ) (fault : JournalFault) (why : Stop) → HasCauses {T = T} of_memory before now (Err fault)
    → why ≡ stop_of_fault fault → HasNoLine why
none-by T before now fault why causes is = subst HasNoLine (sym is) (go fault causes)
  where
    go : (f : JournalFault) → HasCauses {T = T} of_memory before now (Err f) → HasNoLine (stop_of_fault f)
    go faults.DiskFault cause = tt
    go faults.NotAJournal cause = absurd cc
    go (faults.Entry place) cause = absurd cc
    go (faults.Other place) cause = absurd cc
    go (faults.Full whole entry) cause = absurd cc
    go faults.NoMemory cause = tt

module _ {D : Type 0} (seen : D → Option (List ℕ)) (may_leave : D → List ℕ → Type 0) (moment : D → ℕ)
    (left_since : D → ℕ → List ℕ → Type 0) (old new : D) (reads : OnlyReads seen may_leave moment left_since old new) (snap : Snapper) (most : ℕ)
    (f : Outset) (r : Running) (n : Node) (ts : List Task) (l : LinkSeen) (s : SinkSeen) (o : SourceSeen) (h : List Asked)
    (is : IsNode f (seen old) (may_leave old) r n (Mark ∷ ts)) where
  abbrev c : Cast
  c = cast_in r

  abbrev asked : Node
  asked = marking c snap most n ts (outside l s o h)

  -- the same node
  pub counts-asked : AreCountsOf f.begins asked r.counts
  counts-asked = record { each = is.counts.each; few = is.counts.few }

  pub journal-asked : IsJournalOf f.head asked r.journal (seen old) (may_leave old)
  journal-asked = record { gate = is.journal.gate; length = is.journal.length; rest = is.journal.rest }

  stops-asked : (t : SinkSeen) (why : Stop) → Ends c snap most asked (outside l s o h) why (outside l t o h) n.kept
      → StopsSo seen may_leave moment left_since c snap most f n (outside l s o h) old why (outside l t o h) new
  stops-asked t why ends =
      subst (λ (m : Node). StopsSo seen may_leave moment left_since c snap most f m (outside l s o h) old why (outside l t o h) new)
      (sym (at-so n (Mark ∷ ts) is.at))
      (stops-reading seen may_leave moment left_since old new reads c snap most f asked refl is.journal.rest (outside l s o h) (outside l t o h)
      why ends)

  -- there is no line
  pub no-line : (why : Stop) → HasNoLine why
      → StopsSo seen may_leave moment left_since c snap most f n (outside l s o h) old why (outside l s o h) new
  no-line NoMemory none = stops-asked s NoMemory (forgets c snap most asked (outside l s o h) refl)
  no-line DiskFailed none = stops-asked s DiskFailed (marks-stops c snap most n ts (outside l s o h))
  no-line _ none = absurd none

  module _ (line : List ℕ) (made : (digest : List ℕ) × (line ≡ snap asked digest)) where
    says-it : Goes c snap most asked (outside l s o h) (at n (Say line ∷ ts)) (outside l s o h)
    says-it = subst (λ (text : List ℕ). Goes c snap most asked (outside l s o h) (at n (Say text ∷ ts)) (outside l s o h)) (sym made.1)
        (marks-on c snap most n ts (outside l s o h) made.0)

    -- it is not written
    pub not-written : (T : Type 0) (why : Why) (t : SinkSeen) → WritesText (let w : Result T Why = Err why in w) line s t
        → StopsSo seen may_leave moment left_since c snap most f n (outside l s o h) old (stop_of why) (outside l t o h) new
    not-written T why t said = stops-asked t (stop_of why)
        (ends-after c snap most asked (at n (Say line ∷ ts)) (outside l s o h) (outside l s o h) (outside l t o h) (stop_of why) n.kept says-it
        (says-stops T why c snap most n line ts l s t o h said))

    -- or it is
    pub written : (r' : Running) (t : SinkSeen) → r'.journal ≡ r.journal → r'.kit.now ≡ r.kit.now → r'.hosts ≡ r.hosts → r'.counts ≡ r.counts
        → HasLength (seen new) (len_of r'.journal) → SinkWrote s t line
        → GoesOnTo seen may_leave moment left_since c snap most f n (outside l s o h) old ts (outside l t o h) new r'
    written r' t journal kit hosts counts long wrote =
        let goes = parts_go_on c snap most asked (at n (Say line ∷ ts)) (at n ts) (outside l s o h) (outside l s o h) (outside l t o h) says-it
        (says-on c snap most n line ts l s t o h wrote) in
        let went = subst (λ (m : Node). Went seen moment left_since c snap most f m (outside l s o h) old (at n ts) (outside l t o h) new)
        (sym (at-so n (Mark ∷ ts) is.at))
        (went-reading seen may_leave moment left_since old new reads c snap most f asked refl is.journal.rest (at n ts) (outside l s o h)
        (outside l t o h) goes) in
        let cast : cast_in r' ≡ c = λ i. cast_of (kit i) (version_of (journal i)) in
        record {
          node = at n ts;
          went = went;
          is = is-now f r r' (seen new) (may_leave new) n ts cast
              (subst (λ (hs : Hosts). AreHosts c r'.kit.now n.now None hs) (sym hosts)
              (subst (λ (k : Kit). AreHosts c k n.now None r.hosts) (sym kit) is.hosts))
              (journal-on seen may_leave moment left_since old new reads f.head n n r.journal r'.journal journal refl refl is.journal long)
              is.keyed (sound-on f c snap most n (at n ts) (outside l s o h) (outside l t o h) went.goes is.keyed is.sound)
              (subst (λ (cs : Counts). AreCountsOf f.begins n cs) (sym counts) (record { each = is.counts.each; few = is.counts.few }));
          cast = cast;
          lines = refl;
          script = refl;
        }
