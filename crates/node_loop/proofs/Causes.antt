-- Which counts of faults rose in a run, by what it has stopped for.
use Rattle.std.proofs.Common.{◌≡◌, ◌≢◌, inl, inr, ℕ, ◌+◌, Bool, true, false, if◌then◌else◌, List, [], ◌∷◌, Option, Some, None, refl, sym, ap, subst, ◌∙◌}
use Rattle.rp_base.specs.Causes.{Rose}
use Rattle.kit_defs.specs.Kits.{Kit}
use Rattle.journal_defs.specs.declared.Version.{Version}
use Rattle.journal_defs.specs.Entries.{Entry}
use Rattle.node_defs.specs.Casts.{Cast, Beginning, cast_of}
use Rattle.node_defs.specs.Lines.{Stop, NoMemory, ReadFailed, WriteFailed, BindFailed, BadKit, BadSnap, BadJournal}
use Rattle.node_defs.specs.Lives.{Found}
use Rattle.node_defs.specs.Nodes.{Node, Snapper, at_first, opens, reads, reads_one, takes_up}
use Rattle.node_defs.specs.Snapshots.{from_snapshot}
use Rattle.node_traces.specs.Outside.{LinkSeen, SinkSeen, SourceSeen}
use Rattle.node_traces.specs.Service.{Asked}
use Rattle.node_traces.specs.Goes.{Outside, Goes}
use Rattle.node_traces.specs.Stops.{Outset, at_start}
use Rattle.script_laws.specs.Faults.{ByCount, HasCauses, HasNotFailed}
use Rattle.script_laws.proofs.Stopping.{faults_stop}
use Rattle.stop_laws.specs.Binds.{IsSilent}
use Rattle.stop_laws.proofs.Binding.{binds_first}
use Rattle.stop_laws.proofs.Rested.{ends-so}
use Rattle.node_script.specs.Inputs.{HasNoKit}
use Rattle.node_opening.specs.Below.{SnapSaid, snapshot_said}
use Rattle.node_opening.specs.Begins.{begins_by}
use Rattle.node_opening.specs.Holding.{HoldsAs, HoldsBy}
use Rattle.node_opening.specs.Opened.{Unopened, reading, opening}
use Rattle.node_opening.specs.Reading.{Unread, no_memory, no_disk, no_header, no_place, no_entry}
use Rattle.node_script.specs.Words.{outside}
use Rattle.node_loop.specs.Runs.{HasRunFrom, HasStopped, no_kit, not_opened, ran, snaps_from}
use Rattle.node_loop.specs.Resumed as resumed
use Rattle.node_loop.specs.Resumed.{HasStoppedResuming, IsNoSnap, NodeEnds, lacks_memory, no_line, no_snap, node_ended, not_read, ran_on, says_other, stays_shut, too_long}

-- ---- of a node that opens

reads-calm : (c : Cast) (n : Node) (es : List Entry) → HasNotFailed n.stopped → HasNotFailed (reads c n es).stopped
unfolding reads
reads-calm c n [] is = is
reads-calm c n (e ∷ es) is = by (takes_up c n e) (reads-calm c (reads_one c n e) es is)
  where
    by : (b : Bool) → HasNotFailed (reads c (reads_one c n e) es).stopped
        → HasNotFailed (if b then reads c (reads_one c n e) es else record n { stopped = Some (BadJournal n.gate) }).stopped
    by true is = is
    by false _ = record { no_read = λ e. absurd cc; no_write = λ e. absurd cc; no_bind = λ e. absurd cc; no_end = λ e. absurd cc }

opens-calm : (c : Cast) (b : Beginning) (go : ℕ) (es : List Entry) → HasNotFailed (opens c b go es).stopped
opens-calm c b go es = reads-calm c (at_first b go) es
    (record { no_read = λ e. absurd cc; no_write = λ e. absurd cc; no_bind = λ e. absurd cc; no_end = λ e. absurd cc })

module _ (c : Cast) (b : Beginning) (snap : Snapper) (most : ℕ) (go : ℕ) (es : List Entry) (last : Node) (x y : Outside)
    (goes : Goes c snap most (opens c b go es) x last y) where
  goes-causes : HasCauses last.stopped x y
  goes-causes = faults_stop c snap most (opens c b go es) last x y goes (opens-calm c b go es)

  -- a node that stops for a port has sent and written nothing
  goes-silent : last.stopped ≡ Some BindFailed → IsSilent x y
  goes-silent failed = of n.stopped refl
    where
      n : Node
      n = opens c b go es

      of : (stopped : Option Stop) → n.stopped ≡ stopped → IsSilent x y
      of None runs = binds_first c snap most n last x y c.hosted _ goes runs refl tt failed
      of (Some why) is =
          let same : last ≡ n = goes.becomes ∙ ends-so c snap why n goes.answers is in
          absurd ((opens-calm c b go es).no_bind (sym (ap (λ (w : Node). w.stopped) same) ∙ failed))

-- ---- by what it has stopped for

-- input, output and link, by the stop
pub record Counted (why : Stop) (faults now : ℕ) (sink sink_now : SinkSeen) (link link_now : LinkSeen) : Type 0 where
  pub read : why ≡ ReadFailed → Rose faults now
  pub no_read : why ≢ ReadFailed → now ≡ faults
  pub written : why ≡ WriteFailed → Rose sink.faults sink_now.faults
  pub no_write : why ≢ WriteFailed → sink_now.faults ≡ sink.faults
  pub bound : why ≡ BindFailed → Rose link.faults link_now.faults
  -- no host has its line, and nothing was sent
  pub untold : why ≡ BindFailed → (link_now.sent ≡ link.sent) × (sink_now ≡ sink)

rose-by : (why this : Stop) (before now : ℕ) → ByCount (Some why) this before now → why ≡ this → Rose before now
rose-by why this before now (inl rose) e = rose.1
rose-by why this before now (inr still) e = absurd (still.0 (ap (λ (w : Stop). Some w) e))

still-by : (why this : Stop) (before now : ℕ) → ByCount (Some why) this before now → why ≢ this → now ≡ before
still-by why this before now (inl rose) other = let same : why ≡ this = cc in absurd (other same)
still-by why this before now (inr still) other = still.1

by-causes : (why : Stop) (x y : Outside) → HasCauses (Some why) x y → (why ≡ BindFailed → IsSilent x y)
    → Counted why x.source.faults y.source.faults x.sink y.sink x.link y.link
by-causes why x y causes silent = record {
  read = rose-by why ReadFailed _ _ causes.read;
  no_read = still-by why ReadFailed _ _ causes.read;
  written = rose-by why WriteFailed _ _ causes.written;
  no_write = still-by why WriteFailed _ _ causes.written;
  bound = λ e. causes.bound (ap (λ (w : Stop). Some w) e);
  untold = λ e. ((silent e).sent, (silent e).sink);
}

-- nothing was called that fails
quiet : (why : Stop) (faults : ℕ) (sink : SinkSeen) (link : LinkSeen) → HasNotFailed (Some why) → Counted why faults faults sink sink link link
quiet why faults sink link not = record {
  read = λ e. absurd (not.no_read (ap (λ (w : Stop). Some w) e));
  no_read = λ other. refl;
  written = λ e. absurd (not.no_write (ap (λ (w : Stop). Some w) e));
  no_write = λ other. refl;
  bound = λ e. absurd (not.no_bind (ap (λ (w : Stop). Some w) e));
  untold = λ e. (refl, refl);
}

not-read : {kit : Kit} {s : Option SnapSaid} {go : ℕ} {seen : Option (List ℕ)} {why : Stop} → Unread kit s go seen why
    → HasNotFailed (Some why)
not-read no_memory = record { no_read = λ e. absurd cc; no_write = λ e. absurd cc; no_bind = λ e. absurd cc; no_end = λ e. absurd cc }
not-read no_disk = record { no_read = λ e. absurd cc; no_write = λ e. absurd cc; no_bind = λ e. absurd cc; no_end = λ e. absurd cc }
not-read (no_header other) = record { no_read = λ e. absurd cc; no_write = λ e. absurd cc; no_bind = λ e. absurd cc; no_end = λ e. absurd cc }
not-read (no_place t is other) = record { no_read = λ e. absurd cc; no_write = λ e. absurd cc; no_bind = λ e. absurd cc; no_end = λ e. absurd cc }
not-read (no_entry version es place breaks) =
    record { no_read = λ e. absurd cc; no_write = λ e. absurd cc; no_bind = λ e. absurd cc; no_end = λ e. absurd cc }

bad-line : (kit : Kit) (go : ℕ) (k l : SourceSeen) (sink : SinkSeen) (link : LinkSeen) → l.faults ≡ k.faults
    → Counted (BadSnap (go + 1)) k.faults l.faults sink sink link link
bad-line kit go k l sink link steady = record {
  read = λ e. absurd cc;
  no_read = λ other. steady;
  written = λ e. absurd cc;
  no_write = λ other. refl;
  bound = λ e. absurd cc;
  untold = λ e. absurd cc;
}

no-kit : (k : SourceSeen) (faults : ℕ) (sink : SinkSeen) (link : LinkSeen) (why : Stop) → HasNoKit k faults why
    → Counted why k.faults faults sink sink link link
no-kit k faults sink link NoMemory h = record {
  read = λ e. absurd cc;
  no_read = λ other. h;
  written = λ e. absurd cc;
  no_write = λ other. refl;
  bound = λ e. absurd cc;
  untold = λ e. absurd cc;
}
no-kit k faults sink link ReadFailed h = record {
  read = λ e. h;
  no_read = λ other. absurd (other refl);
  written = λ e. absurd cc;
  no_write = λ other. refl;
  bound = λ e. absurd cc;
  untold = λ e. absurd cc;
}
no-kit k faults sink link (BadKit fault) h = record {
  read = λ e. absurd cc;
  no_read = λ other. h.1;
  written = λ e. absurd cc;
  no_write = λ other. refl;
  bound = λ e. absurd cc;
  untold = λ e. absurd cc;
}
no-kit k faults sink link _ h = absurd h

-- ---- of a run

-- no memory, or a failed read; or the line is another
no-snap : (kit : Kit) (go : ℕ) (k l : SourceSeen) (sink : SinkSeen) (link : LinkSeen) (why : Stop) → IsNoSnap kit go k l why
    → Counted why k.faults l.faults sink sink link link
no-snap kit go k l sink link _ (lacks_memory steady) = record {
  read = λ e. absurd cc;
  no_read = λ other. steady;
  written = λ e. absurd cc;
  no_write = λ other. refl;
  bound = λ e. absurd cc;
  untold = λ e. absurd cc;
}
no-snap kit go k l sink link _ (not_read failed) = record {
  read = λ e. failed.rose;
  no_read = λ other. absurd (other refl);
  written = λ e. absurd cc;
  no_write = λ other. refl;
  bound = λ e. absurd cc;
  untold = λ e. absurd cc;
}
no-snap kit go k l sink link _ (no_line ended) = bad-line kit go k l sink link ended.steady
no-snap kit go k l sink link _ (too_long broke) = bad-line kit go k l sink link broke.steady
no-snap kit go k l sink link _ (says_other line took not) = bad-line kit go k l sink link took.steady

not-opened : (kit : Kit) (s : Option SnapSaid) (snap : Snapper) (most : ℕ) (go : ℕ) (seen : Option (List ℕ)) (x y : Outside) (why : Stop)
    → Unopened kit s snap most go seen x y why → Counted why x.source.faults y.source.faults x.sink y.sink x.link y.link
not-opened kit s snap most go seen x y _ (reading why unread same) =
    subst (λ (z : Outside). Counted why x.source.faults z.source.faults x.sink z.sink x.link z.link) (sym same)
    (quiet why x.source.faults x.sink x.link (not-read unread))
not-opened kit s snap most go seen x y _ (opening why version es holds stops) =
    let c = cast_of kit version in
    let b = begins_by c s in
    by-causes why x y (subst (λ (o : Option Stop). HasCauses o x y) stops.stops (goes-causes c b snap most go es stops.last x y stops.goes))
    (λ e. goes-silent c b snap most go es stops.last x y stops.goes (stops.stops ∙ ap (λ (w : Stop). Some w) e))

-- by the input as it is seen before and after
by-source : (why : Stop) (a b c d : ℕ) (sink sink_now : SinkSeen) (link link_now : LinkSeen) → b ≡ a → c ≡ d
    → Counted why b c sink sink_now link link_now → Counted why a d sink sink_now link link_now
by-source why a b c d sink sink_now link link_now before after counted =
    subst (λ (m : ℕ). Counted why m d sink sink_now link link_now) before
    (subst (λ (m : ℕ). Counted why b m sink sink_now link link_now) after counted)

-- nothing else was touched
untouched : (why : Stop) (faults now : ℕ) (sink sink_now : SinkSeen) (link link_now : LinkSeen) → link_now ≡ link → sink_now ≡ sink
    → Counted why faults now sink sink link link → Counted why faults now sink sink_now link link_now
untouched why faults now sink sink_now link link_now links sinks counted =
    subst (λ (l : LinkSeen). Counted why faults now sink sink_now link l) (sym links)
    (subst (λ (s : SinkSeen). Counted why faults now sink s link link) (sym sinks) counted)

module _ {D : Type 0} (seen : D → Option (List ℕ)) (may_leave : D → List ℕ → Type 0) (moment : D → ℕ)
    (left_since : D → ℕ → List ℕ → Type 0) (kit : Kit) (from : Version → Outset) (held : Version → List Entry → Type 0) (most : ℕ) (go : ℕ)
    (x : Outside) (old : D) (last : Node) (y : Outside) (new : D) where
  ran-so : (why : Stop) → last.stopped ≡ Some why
      → HasRunFrom seen may_leave moment left_since kit from held most go x old last y new
      → Counted why x.source.faults y.source.faults x.sink y.sink x.link y.link
  ran-so why is run =
      let c = cast_of kit run.version in
      let f = from run.version in
      let snap : Snapper = snaps_from f (seen old) c in
      by-causes why x y
      (subst (λ (o : Option Stop). HasCauses o x y) is (goes-causes c f.begins snap most go run.entries last x y run.goes))
      (λ e. goes-silent c f.begins snap most go run.entries last x y run.goes (is ∙ ap (λ (w : Stop). Some w) e))

module _ {D : Type 0} (seen : D → Option (List ℕ)) (may_leave : D → List ℕ → Type 0) (moment : D → ℕ)
    (left_since : D → ℕ → List ℕ → Type 0) (most : ℕ) (f : Found) (k : SourceSeen) (link : LinkSeen) (sink : SinkSeen) (old : D)
    (left : Option (List ℕ)) (faults : ℕ) (link_now : LinkSeen) (sink_now : SinkSeen) (new : D) (h i : List Asked) where
  pub counted : (why : Stop) → HasStopped seen may_leave moment left_since most f k link sink old left faults link_now sink_now new h i why
      → Counted why k.faults faults sink sink_now link link_now
  counted _ (no_kit why none links sinks disks same) =
      untouched why k.faults faults sink sink_now link link_now links sinks (no-kit k faults sink link why none)
  counted _ (not_opened why ahead read) =
      by-source why k.faults read.source.faults read.source.faults faults sink sink_now link link_now read.has.steady read.holds.0.count
      (not-opened read.kit None read.holds.1.snap most read.go (seen old) (outside link sink read.source h) (outside link_now sink_now read.source i)
      why read.holds.1.unopened)
  counted _ (ran why ahead can read) =
      let m = read.holds.source in
      by-source why k.faults read.source.faults m.faults faults sink sink_now link link_now read.has.steady read.holds.seen.count
      (ran-so seen may_leave moment left_since read.kit (λ v. at_start (cast_of read.kit v) f) (λ v es. HoldsAs read.kit v es (seen old)) most
      read.go (outside link sink read.source h) old read.holds.holds.0 (outside link_now sink_now m i) new why read.holds.holds.1
      read.holds.holds.2)

  module _ (kit : Kit) (t : SnapSaid) (go : ℕ) (l : SourceSeen) where
    ended-counted : (why : Stop)
        → NodeEnds seen may_leave moment left_since kit (Some t) most f go l link sink old left faults link_now sink_now new h i why
        → Counted why l.faults faults sink sink_now link link_now
    ended-counted _ (stays_shut why ahead here not) =
        by-source why l.faults l.faults l.faults faults sink sink_now link link_now refl here.count
        (not-opened kit (Some t) not.snap most go (seen old) (outside link sink l h) (outside link_now sink_now l i) why not.unopened)
    ended-counted _ (ran_on why ahead can on) =
        let m = on.source in
        let run = on.holds.2 in
        by-source why l.faults l.faults m.faults faults sink sink_now link link_now refl on.seen.count
        (ran-so seen may_leave moment left_since kit
        (λ v. record { head = run.head; begins = from_snapshot (cast_of kit v) (snapshot_said t); found = f })
        (λ v es. HoldsBy kit v (Some t) es (seen old)) most go (outside link sink l h) old on.holds.0 (outside link_now sink_now m i) new why
        on.holds.1 run.run)

  -- of a node that begins by a snapshot
  pub counted-resuming : (why : Stop)
      → HasStoppedResuming seen may_leave moment left_since most f k link sink old left faults link_now sink_now new h i why
      → Counted why k.faults faults sink sink_now link link_now
  counted-resuming _ (resumed.no_kit why none links sinks disks same) =
      untouched why k.faults faults sink sink_now link link_now links sinks (no-kit k faults sink link why none)
  counted-resuming _ (no_snap why ahead read links sinks disks same) =
      let m = read.holds.source in
      untouched why k.faults faults sink sink_now link link_now links sinks
      (by-source why k.faults read.source.faults m.faults faults sink sink link link read.has.steady read.holds.seen.count
      (no-snap read.kit read.go read.source m sink link why read.holds.holds))
  counted-resuming _ (node_ended why read) =
      let is = read.holds.2 in
      by-source why k.faults read.holds.1.faults faults faults sink sink_now link link_now (is.took.steady ∙ read.has.steady) refl
      (ended-counted read.kit read.holds.0 (read.go + 1) read.holds.1 why read.holds.3)
