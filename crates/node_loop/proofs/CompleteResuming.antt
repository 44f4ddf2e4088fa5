-- What a run in order of a node that begins by a snapshot may stop for.
use Rattle.std.proofs.Common.{◌≡◌, ◌≢◌, ℕ, ◌+◌, ◌≤◌, List, [], length, take, Option, Some, None, Ok, sym, ap, subst, arith, ◌∙◌, length-append}
use Rattle.kit_defs.specs.Kits.{Kit}
use Rattle.input_defs.specs.Fronts.{Front}
use Rattle.input_defs.specs.Lines.{line_within}
use Rattle.journal_defs.specs.declared.Version.{Version}
use Rattle.journal_defs.specs.Entries.{Entry}
use Rattle.journal_defs.specs.Journals.{ReadsAs, header_bytes}
use Rattle.journal_defs.proofs.Recording.{one_reading}
use Rattle.journal_rp.specs.Headers.{IsJournal}
use Rattle.node_defs.specs.Scripts.{most_lines}
use Rattle.node_defs.specs.Casts.{Beginning, cast_of, hosted_by}
use Rattle.node_defs.specs.Lines.{Stop}
use Rattle.node_defs.specs.Lives.{FitsFrom, Found}
use Rattle.node_defs.specs.Nodes.{Node, Snapper, at_first, opens}
use Rattle.node_defs.specs.Snapshots.{IsSnapshotFor, from_snapshot}
use Rattle.node_laws.proofs.Openings.{opens_sound}
use Rattle.node_traces.specs.Stops.{Outset}
use Rattle.node_traces.specs.Outside.{LinkSeen, SinkSeen, SourceSeen, SourceTook, AtEnd, LineTaken, NoLine}
use Rattle.node_traces.specs.Service.{Asked}
use Rattle.node_traces.specs.Goes.{Outside, Goes}
use Rattle.opening_laws.specs.Reading.{BreaksReading}
use Rattle.node_opening.specs.Below.{SnapSaid, snap_said, snapshot_said}
use Rattle.node_opening.specs.Holding.{HoldsBy, IsPlaceOf, IsStartedOn, header_in}
use Rattle.node_opening.specs.Opened.{Unopened, reading, opening}
use Rattle.node_opening.specs.Reading.{Unread, no_memory, no_disk, no_header, no_place, no_entry}
use Rattle.node_script.specs.Inputs.{BeginsWith, node_front}
use Rattle.node_script.specs.Words.{outside}
use Rattle.stop_laws.specs.Scripts.{IsScript}
use Rattle.stop_laws.proofs.Carried.{script_is_carried_out}
use Rattle.stop_laws.proofs.Stopping.{stops_only_so}
use Rattle.stop_laws.proofs.Whole.{journal_is_read}
use Rattle.node_loop.specs.Inputs.{IsInOrderResuming, IsJournalFrom}
use Rattle.node_loop.specs.Resumed.{HasStoppedResuming, IsNoSnap, IsSnap, NodeEnds, lacks_memory, most_snap_bytes, no_kit, no_line, no_snap, node_ended, not_read, ran_on, says_other, stays_shut, too_long}
use Rattle.node_loop.specs.Runs.{snaps_from}
use Rattle.node_loop.proofs.Complete.{Ends, IsNoFault, no-fault, no-kit-fine, reads-script, stops-fine}
use Rattle.node_loop.proofs.InOrder.{one-kind}

-- ---- a node of the kit, where the journal has the snapshot's place

module _ (kit : Kit) (t : SnapSaid) (file : List ℕ) (journal : IsJournalFrom kit t file) where
  abbrev begins : Version → Beginning
  begins v = from_snapshot (cast_of kit v) (snapshot_said t)

  abbrev head : List ℕ
  head = take t.place file

  some-bytes : file ≢ []
  some-bytes e = absurd (omega (
    arith,
    ap length journal.begins.parts,
    ap length e,
    length-append (header_bytes journal.version (header_in kit)) journal.begins.rest,
    journal.begins.goes_on,
  ))

  same-kind : (v : Version) → IsJournal v (header_in kit) file → v ≡ journal.version
  same-kind v is = one-kind (header_in kit) v journal.version is.rest journal.begins.rest (sym is.parts ∙ journal.begins.parts)

  -- the journal that was started is the file
  started-so : (v : Version) (f : List ℕ) → IsStartedOn kit v file f → (f ≡ file) × (v ≡ journal.version)
  started-so v f started = let is = started.old some-bytes in (is.0, same-kind v is.1)

  fits-here : (v : Version) (es : List Entry) → HoldsBy kit v (Some t) es (Some file) → FitsFrom (cast_of kit v) (begins v).from es
  fits-here v es from =
      let is = started-so v from.file from.started in
      let reads = subst (λ (f : List ℕ). ReadsAs (take t.place f) f es) is.0 from.reads in
      subst (λ (w : Version). FitsFrom (cast_of kit w) (begins w).from es) (sym is.1)
      (subst (FitsFrom (cast_of kit journal.version) (begins journal.version).from) (one_reading head file journal.entries es journal.reads reads)
      journal.fits)

  -- the reading breaks off nowhere
  no-break : (go : ℕ) (v : Version) (f : List ℕ) (es : List Entry) (place : ℕ) → (f ≡ file) × (v ≡ journal.version)
      → BreaksReading (cast_of kit v) (begins v) go (take t.place f) f es place → ⊥
  no-break go v f es place is breaks =
      let there = subst (λ (g : List ℕ). BreaksReading (cast_of kit v) (begins v) go (take t.place g) g es place) is.0 breaks in
      let here = subst (λ (w : Version). BreaksReading (cast_of kit w) (begins w) go head file es place) is.1 there in
      journal_is_read (cast_of kit journal.version) (begins journal.version) go head file es journal.entries place journal.reads journal.fits here

  unread-fine : (go : ℕ) (why : Stop) → Unread kit (Some t) go (Some file) why → IsNoFault why
  unread-fine go _ no_memory = tt
  unread-fine go _ no_disk = tt
  unread-fine go _ (no_header none) = absurd (none.neither journal.version journal.begins)
  unread-fine go _ (no_place u is none) =
      let same : t ≡ u = cc in
      let there = started-so none.version none.file none.started in
      absurd (none.other (subst (λ (s : SnapSaid). IsPlaceOf kit s none.file) same
      (subst (IsPlaceOf kit t) (sym there.0) journal.place)))
  unread-fine go _ (no_entry v es place from) = absurd (no-break go v from.file es place (started-so v from.file from.started) from.breaks)

  module _ (snap : Snapper) (most go : ℕ) (x : Outside) (rest : List ℕ) (left : x.source.left ≡ Some rest)
      (script : IsScript most (hosted_by kit) most_lines rest) where
    ends : (v : Version) (es : List Entry) (last : Node) (y : Outside) → HoldsBy kit v (Some t) es (Some file)
        → Goes (cast_of kit v) snap most (opens (cast_of kit v) (begins v) go es) x last y → Ends last
    ends v es last y holds goes =
        let c = cast_of kit v in
        let n : Node = opens c (begins v) go es in
        let opened = opens_sound c (begins v) go es (fits-here v es holds) in
        let few : n.script + most_lines ≤ most_lines = omega (arith, reads-script c (at_first (begins v) go) es) in
        record {
          carries = script_is_carried_out c snap most n last x y most_lines rest goes opened.goes_on opened.tasks few left script;
          can = stops_only_so c snap most n last x y goes opened.goes_on;
        }

    unopened-fine : (why : Stop) (y : Outside) → Unopened kit (Some t) snap most go (Some file) x y why → IsNoFault why
    unopened-fine _ y (reading why unread same) = unread-fine go why unread
    unopened-fine _ y (opening why v es holds stops) = stops-fine stops.last why stops.stops (ends v es stops.last y holds stops.goes)

-- ---- the front of the input

front-there : (bytes : List ℕ) (front : Front) (kit : Kit) (go : ℕ) (left : Option (List ℕ)) → node_front bytes ≡ Ok front
    → BeginsWith (Some bytes) kit go left → (front.kit ≡ kit) × (left ≡ Some front.rest)
front-there bytes front kit go None is begins = absurd begins
front-there bytes front kit go (Some rest) is begins =
    let read : Front = record { kit = kit; line = go + 1; rest = rest } in
    let both : Ok front ≡ Ok read = sym is ∙ begins in
    let same : front ≡ read = cc in
    (ap (λ (f : Front). f.kit) same, ap (λ (f : Front). Some f.rest) (sym same))

-- the line that is taken is the first one
line-there : (most : ℕ) (bytes line rest : List ℕ) (left : Option (List ℕ)) (taken : List ℕ) → line_within most bytes ≡ Some (line, rest)
    → LineTaken most (Some bytes) left taken → (line ≡ taken) × (left ≡ Some rest)
line-there most bytes line rest None taken is took = absurd took
line-there most bytes line rest (Some new) taken is took =
    let both : Some (line, rest) ≡ Some (taken, new) = sym is ∙ took in
    let parts : (line, rest) ≡ (taken, new) = cc in
    (ap (λ (l : List ℕ × List ℕ). l.0) parts, ap (λ (l : List ℕ × List ℕ). Some l.1) (sym parts))

-- ---- a run

module _ (most : ℕ) (bytes file : List ℕ) (order : IsInOrderResuming most bytes file) (kit : Kit) (go : ℕ) (same : order.front.kit ≡ kit)
    (l : SourceSeen) (left : l.left ≡ Some order.front.rest) where
  took-so : (m : SourceSeen) (line : List ℕ) → SourceTook most_snap_bytes l m line → (order.line ≡ line) × (m.left ≡ Some order.rest)
  took-so m line took = line-there most_snap_bytes order.front.rest order.line order.rest m.left line order.takes
      (subst (λ (o : Option (List ℕ)). LineTaken most_snap_bytes o m.left line) left took.taken)

  no-snap-fine : (m : SourceSeen) (why : Stop) → IsNoSnap kit go l m why → IsNoFault why
  no-snap-fine m _ (lacks_memory steady) = tt
  no-snap-fine m _ (not_read failed) = tt
  no-snap-fine m _ (no_line end) =
      let none : order.front.rest ≡ [] = subst AtEnd left end.ended in
      let bad : line_within most_snap_bytes [] ≡ Some (order.line, order.rest)
      = subst (λ (b : List ℕ). line_within most_snap_bytes b ≡ Some (order.line, order.rest)) none order.takes in
      absurd cc
  no-snap-fine m _ (too_long broke) =
      let none = subst (NoLine most_snap_bytes) left broke.broken in
      let bad : None ≡ Some (order.line, order.rest) = sym none.0 ∙ order.takes in
      absurd cc
  no-snap-fine m _ (says_other line took not) =
      let is = took-so m line took in
      absurd (not order.journal.version (record {
        said = order.said;
        says = subst (λ (q : Kit). snap_said (hosted_by q) line ≡ Some order.said) same
            (subst (λ (b : List ℕ). snap_said (hosted_by order.front.kit) b ≡ Some order.said) is.0 order.says);
        is_for = subst (λ (q : Kit). IsSnapshotFor (cast_of q order.journal.version) (snapshot_said order.said)) same
            (order.is_for order.journal.version);
      }))

  -- the snapshot is the one that the line says
  said-so : (t : SnapSaid) (m : SourceSeen) → IsSnap kit t l m → order.said ≡ t
  said-so t m snap =
      let is = took-so m snap.line snap.took in
      let says = subst (λ (q : Kit). snap_said (hosted_by q) snap.line ≡ Some order.said) same
      (subst (λ (b : List ℕ). snap_said (hosted_by order.front.kit) b ≡ Some order.said) is.0 order.says) in
      let both : Some order.said ≡ Some t = sym says ∙ snap.says in
      cc

  journal-so : (t : SnapSaid) (m : SourceSeen) → IsSnap kit t l m → IsJournalFrom kit t file
  journal-so t m snap = subst (λ (u : SnapSaid). IsJournalFrom kit u file) (said-so t m snap)
      (subst (λ (q : Kit). IsJournalFrom q order.said file) same order.journal)

  script-so : IsScript most (hosted_by kit) most_lines order.rest
  script-so = subst (λ (q : Kit). IsScript most (hosted_by q) most_lines order.rest) same order.script

module _ {D : Type 0} (seen : D → Option (List ℕ)) (may_leave : D → List ℕ → Type 0) (moment : D → ℕ)
    (left_since : D → ℕ → List ℕ → Type 0) (most : ℕ) (f : Found) (k : SourceSeen) (link : LinkSeen) (sink : SinkSeen) (old : D)
    (left : Option (List ℕ)) (faults : ℕ) (link_now : LinkSeen) (sink_now : SinkSeen) (new : D) (h i : List Asked) (bytes file : List ℕ)
    (tells : k.left ≡ Some bytes) (holds : seen old ≡ Some file) (order : IsInOrderResuming most bytes file) where
  node-fine : (kit : Kit) (t : SnapSaid) (go : ℕ) (m : SourceSeen) → IsJournalFrom kit t file → m.left ≡ Some order.rest
      → IsScript most (hosted_by kit) most_lines order.rest → (why : Stop)
      → NodeEnds seen may_leave moment left_since kit (Some t) most f go m link sink old left faults link_now sink_now new h i why
      → IsNoFault why
  node-fine kit t go m journal rest script _ (stays_shut why ahead here not) =
      let x = outside link sink m h in
      let y = outside link_now sink_now m i in
      unopened-fine kit t file journal not.snap most go x order.rest rest script why y
      (subst (λ (o : Option (List ℕ)). Unopened kit (Some t) not.snap most go o x y why) holds not.unopened)
  node-fine kit t go m journal rest script _ (ran_on why ahead can on) =
      let run = on.holds.2.run in
      let c = cast_of kit run.version in
      let from : Outset = record { head = on.holds.2.head; begins = from_snapshot c (snapshot_said t); found = f } in
      let end = ends kit t file journal (snaps_from from (seen old) c) most go (outside link sink m h) order.rest rest script run.version
      run.entries on.holds.0 (outside link_now sink_now on.source i)
      (subst (HoldsBy kit run.version (Some t) run.entries) holds run.holds) run.goes in
      no-fault why can (λ number e. absurd (end.carries number (on.holds.1 ∙ ap (λ (w : Stop). Some w) e)))

  pub in-order-resuming : (why : Stop)
      → HasStoppedResuming seen may_leave moment left_since most f k link sink old left faults link_now sink_now new h i why → IsNoFault why
  in-order-resuming _ (no_kit why none links sinks disks same) = no-kit-fine k.left k.faults faults bytes order.front why tells order.begins none
  in-order-resuming _ (no_snap why ahead read links sinks disks same) =
      let front = front-there bytes order.front read.kit read.go read.source.left order.begins
      (subst (λ (o : Option (List ℕ)). BeginsWith o read.kit read.go read.source.left) tells read.has.begins) in
      no-snap-fine most bytes file order read.kit read.go front.0 read.source front.1 read.holds.source why read.holds.holds
  in-order-resuming _ (node_ended why read) =
      let front = front-there bytes order.front read.kit read.go read.source.left order.begins
      (subst (λ (o : Option (List ℕ)). BeginsWith o read.kit read.go read.source.left) tells read.has.begins) in
      let t = read.holds.0 in
      let m = read.holds.1 in
      let snap = read.holds.2 in
      node-fine read.kit t (read.go + 1) m (journal-so most bytes file order read.kit read.go front.0 read.source front.1 t m snap)
      (took-so most bytes file order read.kit read.go front.0 read.source front.1 m snap.line snap.took).1
      (script-so most bytes file order read.kit read.go front.0 read.source front.1) why read.holds.3
