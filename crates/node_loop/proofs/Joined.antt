-- The opening of a node, and after it its script, are one run.
use Rattle.std.proofs.Common.{◌≡◌, ◌≢◌, inl, inr, ℕ, List, [], ◌++◌, Option, None, Some, sym, subst}
use Rattle.std.specs.Prelude.{IfSome, IsSome, is_some}
use Rattle.std.specs.Option.{IsSomeAnd}
use Rattle.kit_defs.specs.Kits.{Kit}
use Rattle.journal_defs.specs.declared.Version.{Version}
use Rattle.journal_defs.specs.Entries.{Entry}
use Rattle.journal_defs.specs.Crashes.{Survives}
use Rattle.journal_disk.specs.Disks.{LeavesOnly, LeavesStaged}
use Rattle.journal_disk.proofs.Moments.{then, weaker}
use Rattle.journal_rp.specs.Stages.{version_of}
use Rattle.node_defs.specs.Casts.{Cast, cast_of}
use Rattle.node_defs.specs.Lines.{Stop}
use Rattle.node_defs.specs.Lives.{Found}
use Rattle.node_defs.specs.Nodes.{Node, Snapper, opens}
use Rattle.node_defs.specs.Snapshots.{from_snapshot}
use Rattle.node_traces.specs.Outside.{LinkSeen, SinkSeen, SourceSeen}
use Rattle.node_traces.specs.Service.{Asked}
use Rattle.node_traces.specs.Goes.{Outside, Goes}
use Rattle.node_traces.specs.Stops.{LeftFrom, Outset, at_start}
use Rattle.node_traces.proofs.Going.{parts_go_on}
use Rattle.node_traces.proofs.Left.{parts_leave}
use Rattle.node_opening.specs.Below.{SnapSaid, snapshot_said}
use Rattle.node_opening.specs.Begins.{IsHeadIn, head_in, outset}
use Rattle.node_opening.specs.Holding.{HoldsAs, HoldsBy}
use Rattle.node_opening.specs.Opened.{HasOpened}
use Rattle.node_opening.proofs.Moments.{not-empty}
use Rattle.node_script.specs.Words.{IsNode, Running, StopsSo, cast_in, outside}
use Rattle.node_script.specs.Sources.{SeenAs}
use Rattle.stop_laws.specs.Stops.{CanHaveStopped, CanStop}
use Rattle.stop_laws.proofs.Stopping.{stops_only_so}
use Rattle.node_loop.specs.Runs.{HasRunFrom, MayBeLeft, snaps_from}
use Rattle.node_loop.specs.Resumed.{NodeEnds, ran_on}
use Rattle.node_loop.proofs.AsNode.{as-node}

-- what is said of a disk that tells
of-some : {P : Type 0} (o : Option (List ℕ)) → IsSome o → IfSome o (λ file. P) → P
of-some None some p = absurd cc
of-some (Some file) some p = p

-- it stopped so, as a node that ran may
can : (last : Node) (why : Stop) → last.stopped ≡ Some why → CanHaveStopped last.stopped → CanStop why
can last why is so = subst CanHaveStopped is so

-- ---- a running node that began so, by the kind of its journal

module _ {D : Type 0} (seen : D → Option (List ℕ)) (may_leave : D → List ℕ → Type 0) (moment : D → ℕ)
    (left_since : D → ℕ → List ℕ → Type 0) (r : Running) (from : Version → Outset) (held : Version → List Entry → Type 0) (most go : ℕ)
    (x y : Outside) (old mid : D) where
  abbrev c : Cast
  c = cast_in r

  abbrev f : Outset
  f = from (version_of r.journal)

  abbrev snap : Snapper
  snap = snaps_from f (seen old) c

  module _ (entries : List Entry) (node : Node) (holds : held (version_of r.journal) entries)
      (opening : Goes c snap most (opens c f.begins go entries) x node y) (is : IsNode f (seen mid) (may_leave mid) r node [])
      (tells : IsSome (seen old) → IsSome (seen mid))
      (moments : IsSome (seen old) → Survives f.head f.found.sure (may_leave old)
      → LeavesOnly moment left_since old mid (LeavesStaged f.head f.found.sure (may_leave old))) where
    abbrev n : Node
    n = opens c f.begins go entries

    -- what a crash leaves in the script, it may leave in the run
    in-script : (last : Node) (z : Outside) (goes : Goes c snap most node y last z) (image : List ℕ)
        → LeftFrom c snap f node goes.answers [] image → LeftFrom c snap f n (opening.answers ++ goes.answers) [] image
    in-script last z goes image left =
        let parts = parts_leave c snap f n opening.answers goes.answers in
        parts.by_more [] image (subst (λ (w : Node). LeftFrom c snap f w goes.answers [] image) opening.becomes left)

    pub one-run : (last : Node) (z : Outside) (new : D) (goes : Goes c snap most node y last z)
        → (IsSome (seen mid) → LeavesOnly moment left_since mid new (LeftFrom c snap f node goes.answers []))
        → IfSome (seen mid) (λ file. Survives f.head last.kept (may_leave new))
        → HasRunFrom seen may_leave moment left_since r.kit.now from held most go x old last z new
    unfolding parts_go_on
    one-run last z new goes leaves finds =
        let answers = opening.answers ++ goes.answers in
        record {
          version = version_of r.journal;
          entries = entries;
          holds = holds;
          goes = parts_go_on c snap most n node last x y z opening goes;
          leaves = λ some stands.
              then moment left_since old mid new (MayBeLeft c snap f n answers (may_leave old))
              (weaker moment left_since old mid (LeavesStaged f.head f.found.sure (may_leave old)) (MayBeLeft c snap f n answers (may_leave old))
              (λ image left. inl left) (moments some stands))
              (weaker moment left_since mid new (LeftFrom c snap f node goes.answers []) (MayBeLeft c snap f n answers (may_leave old))
              (λ image left. inr (in-script last z goes image left)) (leaves (tells some)));
          once_opened = λ some. record {
            disk = mid;
            begun = node;
            rest = of-some (seen mid) (tells some) is.journal.rest;
            leaves = weaker moment left_since mid new (LeftFrom c snap f node goes.answers []) (LeftFrom c snap f n answers [])
                (in-script last z goes) (leaves (tells some));
          };
          finds = λ some. of-some (seen mid) (tells some) finds;
        }

-- ---- by how its script ends

module _ {D : Type 0} (seen : D → Option (List ℕ)) (may_leave : D → List ℕ → Type 0) (moment : D → ℕ)
    (left_since : D → ℕ → List ℕ → Type 0) (reads_image : (d : D) → IfSome (seen d) (may_leave d)) (r : Running) (most : ℕ) (f : Found)
    (go : ℕ) (l : SourceSeen) (link link_mid link_now : LinkSeen) (sink sink_mid sink_now : SinkSeen) (old mid new : D) (h g i : List Asked)
    (left : Option (List ℕ)) (faults : ℕ) where
  -- how the node makes the lines of its snapshots
  abbrev pub snaps : Option SnapSaid → Snapper
  snaps s = snaps_from (outset (cast_in r) s (seen mid) f) (seen old) (cast_in r)

  -- The node has opened so; and its script ends so.
  abbrev pub Opens : Option SnapSaid → Type 0
  Opens s = HasOpened s r (snaps s) most go (seen old) (outside link sink l h) (outside link_mid sink_mid l g) (seen mid) (may_leave mid)

  abbrev pub Scripts : (s : Option SnapSaid) → Opens s → Stop → List ℕ → Type 0
  Scripts s opened why ahead = SeenAs (λ m. StopsSo seen may_leave moment left_since (cast_in r) (snaps s) most
      (outset (cast_in r) s (seen mid) f) opened.node (outside link_mid sink_mid l g) mid why (outside link_now sink_now m i) new) ahead left faults

  abbrev pub FoundAgain : Kit → Option SnapSaid → Type 0
  FoundAgain kit s = (version : Version) (es : List Entry) → IsSome (seen old)
      → Survives (head_in (cast_of kit version) s (seen old)) es (may_leave old)
      → LeavesOnly moment left_since old mid (LeavesStaged (head_in (cast_of kit version) s (seen old)) es (may_leave old))

  abbrev pub Ends : Kit → Option SnapSaid → Stop → Type 0
  Ends kit s why = NodeEnds seen may_leave moment left_since kit s most f go l link sink old left faults link_now sink_now new h i why

  -- it may stop so
  stops-so : (s : Option SnapSaid) (opened : Opens s) (why : Stop) (ahead : List ℕ) → Scripts s opened why ahead → CanStop why
  stops-so s opened why ahead script =
      let ends = script.holds in
      can ends.stop.last why ends.stop.stops (stops_only_so (cast_in r) (snaps s) most opened.node ends.stop.last
      (outside link_mid sink_mid l g) (outside link_now sink_now script.source i) ends.stop.goes (opened.is f).at.runs)

  -- the bytes before the place are those that the run found there
  same-head : (t : SnapSaid) (head : List ℕ) → IsHeadIn (Some t) (seen old) head → IsSome (seen old) → (es : List Entry)
      → Survives head es (may_leave old) → head ≡ head_in (cast_in r) (Some t) (seen old)
  same-head t head is some es stands =
      by (seen old) is (not-empty seen may_leave moment left_since head es old (reads_image old) some stands) some
    where
      by : (o : Option (List ℕ)) → IsHeadIn (Some t) o head → IsSomeAnd o (λ file. file ≢ []) → IsSome o
          → head ≡ head_in (cast_in r) (Some t) o
      by None is there some = absurd cc
      by (Some file) is there some = is.0 there

  ends-by : (s : Option SnapSaid) (opened : Opens s) → FoundAgain r.kit.now s → (why : Stop) (ahead : List ℕ)
      → Scripts s opened why ahead → Ends r.kit.now s why
  ends-by None opened moments why ahead script =
      let m : SourceSeen = script.source in
      let ends = script.holds in
      ran_on why ahead (stops-so None opened why ahead script) (record {
        source = m;
        seen = script.seen;
        holds = (
          ends.stop.last,
          ends.stop.stops,
          one-run seen may_leave moment left_since r (λ v. at_start (cast_of r.kit.now v) f) (λ v es. HoldsAs r.kit.now v es (seen old)) most go
              (outside link sink l h) (outside link_mid sink_mid l g) old mid opened.entries opened.node opened.holds opened.goes (opened.is f)
              opened.tells (moments (version_of r.journal) f.sure) ends.stop.last (outside link_now sink_now m i) new ends.stop.goes
              ends.stop.leaves ends.stands,
        );
      })
  ends-by (Some t) opened moments why ahead script =
      let m : SourceSeen = script.source in
      let ends = script.holds in
      let head = head_in (cast_in r) (Some t) (seen mid) in
      let run = one-run seen may_leave moment left_since r
      (λ v. record { head = head; begins = from_snapshot (cast_of r.kit.now v) (snapshot_said t); found = f })
      (λ v es. HoldsBy r.kit.now v (Some t) es (seen old)) most go (outside link sink l h) (outside link_mid sink_mid l g) old mid
      opened.entries opened.node opened.holds opened.goes (opened.is f) opened.tells
      (λ some stands.
      let same = same-head t head opened.head some f.sure stands in
      subst (λ (b : List ℕ). LeavesOnly moment left_since old mid (LeavesStaged b f.sure (may_leave old))) (sym same)
      (moments (version_of r.journal) f.sure some (subst (λ (b : List ℕ). Survives b f.sure (may_leave old)) same stands)))
      ends.stop.last (outside link_now sink_now m i) new ends.stop.goes ends.stop.leaves ends.stands in
      ran_on why ahead (stops-so (Some t) opened why ahead script) (record {
        source = m;
        seen = script.seen;
        holds = (
          ends.stop.last,
          ends.stop.stops,
          record {
            head = head;
            is_head = opened.head;
            run = run;
            as_node = as-node (cast_of r.kit.now run.version) t head (is_some (seen old)) most go run.entries (outside link sink l h)
                (outside link_now sink_now m i) ends.stop.last run.goes;
          },
        );
      })

  -- of the kit that was read
  pub whole : (kit : Kit) → r.kit.now ≡ kit → (s : Option SnapSaid) (opened : Opens s) → FoundAgain kit s → (why : Stop) (ahead : List ℕ)
      → Scripts s opened why ahead → Ends kit s why
  whole kit same s opened moments why ahead script =
      subst (λ (q : Kit). Ends q s why) same
      (ends-by s opened (subst (λ (q : Kit). FoundAgain q s) (sym same) moments) why ahead script)
