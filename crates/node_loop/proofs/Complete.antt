-- What a run in order may stop for.
use Rattle.std.proofs.Common.{◌≡◌, ◌≢◌, ◌⊎◌, inl, inr, ℕ, ◌+◌, ◌≤◌, Bool, true, false, List, [], ◌∷◌, Option, Some, None, Ok, Err, refl, sym, ap, subst, arith, ◌∙◌}
use Rattle.std.specs.Prelude.{IfSome, if◌then◌else◌}
use Rattle.kit_defs.specs.Kits.{Kit}
use Rattle.input_defs.specs.Fronts.{Front}
use Rattle.journal_defs.specs.declared.Version.{Version}
use Rattle.journal_defs.specs.Entries.{Entry}
use Rattle.node_defs.specs.Scripts.{most_lines}
use Rattle.node_defs.specs.Casts.{Cast, cast_of, from_start, hosted_by}
use Rattle.node_defs.specs.Lines.{Stop, Ended, NoMemory, ReadFailed, WriteFailed, DiskFailed, BindFailed, BadKit, BadLine, BadSnap, BadJournal, Full, status_of}
use Rattle.node_defs.specs.Lives.{Found}
use Rattle.node_defs.specs.Nodes.{Node, Snapper, at_first, reads, reads_one, takes_up}
use Rattle.node_laws.proofs.Openings.{opens_sound}
use Rattle.node_traces.specs.Outside.{LinkSeen, SinkSeen, SourceSeen}
use Rattle.node_traces.specs.Service.{Asked}
use Rattle.node_traces.specs.Goes.{Outside, Goes}
use Rattle.node_script.specs.Inputs.{BeginsWith, HasKit, HasNoKit, node_front}
use Rattle.node_opening.specs.Holding.{HoldsAs}
use Rattle.node_opening.specs.Opened.{Unopened, reading, opening}
use Rattle.node_opening.specs.Reading.{Unread, no_memory, no_disk, no_header, no_place, no_entry}
use Rattle.node_script.specs.Words.{outside}
use Rattle.stop_laws.specs.Scripts.{CarriesOut, IsScript}
use Rattle.stop_laws.specs.Stops.{CanStop, CanHaveStopped}
use Rattle.stop_laws.proofs.Carried.{script_is_carried_out}
use Rattle.stop_laws.proofs.Stopping.{stops_only_so}
use Rattle.node_loop.specs.Ended.{EndsWith}
use Rattle.node_loop.specs.Inputs.{IsInOrder, IsJournalOf}
use Rattle.node_loop.specs.Runs.{HasRun, HasStopped, no_kit, not_opened, opened_on, ran, snaps_of}
use Rattle.node_loop.proofs.InOrder.{fits-there, no-place, not-other}

-- a stop for no fault of kit, script, snapshot or journal
abbrev pub IsNoFault : Stop → Type 0
IsNoFault (BadKit fault) = ⊥
IsNoFault (BadLine line) = ⊥
IsNoFault (BadSnap line) = ⊥
IsNoFault (BadJournal place) = ⊥
IsNoFault _ = Unit {0}

pub no-fault : (why : Stop) → CanStop why → ((number : ℕ) → why ≢ BadLine number) → IsNoFault why
no-fault (BadKit fault) can other = can
no-fault (BadLine line) can other = absurd (other line refl)
no-fault (BadSnap line) can other = can
no-fault (BadJournal place) can other = can
no-fault _ can other = tt

-- ---- the input after the kit

-- the script of this kit is left, and the file is its node's
record InOrder (most : ℕ) (kit : Kit) (left : Option (List ℕ)) (file : List ℕ) : Type 0 where
  rest : List ℕ
  reported : left ≡ Some rest
  script : IsScript most (hosted_by kit) most_lines rest
  journal : (file ≡ []) ⊎ IsJournalOf kit file

after-kit : (most : ℕ) (bytes file : List ℕ) (kit : Kit) (go : ℕ) (left : Option (List ℕ)) → IsInOrder most bytes file
    → BeginsWith (Some bytes) kit go left → InOrder most kit left file
after-kit most bytes file kit go None order begins = absurd begins
after-kit most bytes file kit go (Some rest) order begins =
    let read : Front = record { kit = kit; line = go + 1; rest = rest } in
    let both : Ok order.front ≡ Ok read = sym order.begins ∙ begins in
    let same : order.front ≡ read = cc in
    record {
      rest = rest;
      reported = refl;
      script = subst (λ (f : Front). IsScript most (hosted_by f.kit) most_lines f.rest) same order.script;
      journal = subst (λ (f : Front). (file ≡ []) ⊎ IsJournalOf f.kit file) same order.journal;
    }

-- ---- a node that opened

pub reads-script : (c : Cast) (n : Node) (es : List Entry) → (reads c n es).script ≡ n.script
unfolding reads
reads-script c n [] = refl
reads-script c n (e ∷ es) = by (takes_up c n e) (reads-script c (reads_one c n e) es)
  where
    by : (b : Bool) → (reads c (reads_one c n e) es).script ≡ n.script
        → (if b then reads c (reads_one c n e) es else record n { stopped = Some (BadJournal n.gate) }).script ≡ n.script
    by true is = is
    by false _ = refl

-- it carries out its script, and stops as a node that ran may
pub record Ends (last : Node) : Type 0 where
  pub carries : CarriesOut last
  pub can : CanHaveStopped last.stopped

pub stops-fine : (last : Node) (why : Stop) → last.stopped ≡ Some why → Ends last → IsNoFault why
stops-fine last why is end = no-fault why (subst CanHaveStopped is end.can) (λ number e. absurd (end.carries number
    (is ∙ ap (λ (w : Stop). Some w) e)))

module _ (kit : Kit) (snap : Snapper) (most : ℕ) (go : ℕ) (file : List ℕ) (x : Outside) (order : InOrder most kit x.source.left file) where
  ends : (v : Version) (es : List Entry) (last : Node) (y : Outside) → HoldsAs kit v es (Some file)
      → Goes (cast_of kit v) snap most (opened_on kit v go es) x last y → Ends last
  ends v es last y holds goes =
      let c = cast_of kit v in
      let n : Node = opened_on kit v go es in
      let opened = opens_sound c (from_start c) go es (fits-there kit file v es order.journal holds) in
      let few : n.script + most_lines ≤ most_lines = omega (arith, reads-script c (at_first (from_start c) go) es) in
      record {
        carries = script_is_carried_out c snap most n last x y most_lines order.rest goes opened.goes_on opened.tasks few order.reported
            order.script;
        can = stops_only_so c snap most n last x y goes opened.goes_on;
      }

  unread-fine : (why : Stop) → Unread kit None go (Some file) why → IsNoFault why
  unread-fine _ no_memory = tt
  unread-fine _ no_disk = tt
  unread-fine _ (no_header other) = absurd (not-other kit file order.journal other)
  unread-fine _ (no_place t is other) = absurd cc
  unread-fine _ (no_entry v es place breaks) = absurd (no-place kit go file v es place order.journal breaks)

  unopened-fine : (why : Stop) (y : Outside) → Unopened kit None snap most go (Some file) x y why → IsNoFault why
  unopened-fine _ y (reading why unread same) = unread-fine why unread
  unopened-fine _ y (opening why v es holds stops) = stops-fine stops.last why stops.stops (ends v es stops.last y holds stops.goes)

-- ---- a run

pub no-kit-fine : (left : Option (List ℕ)) (steady faults : ℕ) (bytes : List ℕ) (front : Front) (why : Stop) → left ≡ Some bytes
    → node_front bytes ≡ Ok front → HasNoKit (record { left = left; faults = steady }) faults why → IsNoFault why
no-kit-fine left steady faults bytes front (BadKit fault) is begins none =
    let refused : node_front bytes ≡ Err fault = subst (λ (o : Option (List ℕ)). IfSome o (λ b. node_front b ≡ Err fault)) is none.0 in
    let both : Ok front ≡ Err fault = sym begins ∙ refused in
    absurd cc
no-kit-fine left steady faults bytes front (BadLine line) is begins none = none
no-kit-fine left steady faults bytes front (BadSnap line) is begins none = none
no-kit-fine left steady faults bytes front (BadJournal place) is begins none = none
no-kit-fine left steady faults bytes front _ is begins none = tt

module _ {D : Type 0} (seen : D → Option (List ℕ)) (may_leave : D → List ℕ → Type 0) (moment : D → ℕ)
    (left_since : D → ℕ → List ℕ → Type 0) (most : ℕ) (f : Found) (k : SourceSeen) (link : LinkSeen) (sink : SinkSeen) (old : D)
    (left : Option (List ℕ)) (faults : ℕ) (link_now : LinkSeen) (sink_now : SinkSeen) (new : D) (h i : List Asked) (bytes file : List ℕ)
    (tells : k.left ≡ Some bytes) (holds : seen old ≡ Some file) (order : IsInOrder most bytes file) where
  kit-there : (kit : Kit) (go : ℕ) (l : SourceSeen) → HasKit k kit go l → InOrder most kit l.left file
  kit-there kit go l has =
      after-kit most bytes file kit go l.left order (subst (λ (o : Option (List ℕ)). BeginsWith o kit go l.left) tells has.begins)

  run-ends : (kit : Kit) (go : ℕ) (l m : SourceSeen) (last : Node) → HasKit k kit go l
      → HasRun seen may_leave moment left_since kit most f go (outside link sink l h) old last (outside link_now sink_now m i) new
      → Ends last
  run-ends kit go l m last has run = ends kit (snaps_of (seen old) kit run.version) most go file (outside link sink l h) (kit-there kit go l has) run.version run.entries last
      (outside link_now sink_now m i) (subst (HoldsAs kit run.version run.entries) holds run.holds) run.goes

  pub in-order : (why : Stop) → HasStopped seen may_leave moment left_since most f k link sink old left faults link_now sink_now new h i why
      → IsNoFault why
  in-order _ (no_kit why none links sinks disks same) = no-kit-fine k.left k.faults faults bytes order.front why tells order.begins none
  in-order _ (not_opened why ahead read) =
      let l = read.source in
      let x = outside link sink l h in
      let y = outside link_now sink_now l i in
      unopened-fine read.kit read.holds.1.snap most read.go file x (kit-there read.kit read.go l read.has) why y
      (subst (λ (o : Option (List ℕ)). Unopened read.kit None read.holds.1.snap most read.go o x y why) holds read.holds.1.unopened)
  in-order _ (ran why ahead can read) =
      let end = run-ends read.kit read.go read.source read.holds.source read.holds.holds.0 read.has read.holds.holds.2 in
      no-fault why can (λ number e. absurd (end.carries number (read.holds.holds.1 ∙ ap (λ (w : Stop). Some w) e)))

-- ---- the status

-- a stop that is no fault, and for which nothing failed
abbrev pub IsFine : ℕ → Type 0
IsFine status = (status ≡ 0) ⊎ (status ≡ 1) ⊎ (status ≡ 6) ⊎ (status ≡ 9)

fine-stop : (why : Stop) → IsNoFault why → why ≢ ReadFailed → why ≢ WriteFailed → why ≢ DiskFailed → IsFine (status_of why)
fine-stop Ended is read write disk = inl refl
fine-stop NoMemory is read write disk = inr (inl refl)
fine-stop ReadFailed is read write disk = absurd (read refl)
fine-stop WriteFailed is read write disk = absurd (write refl)
fine-stop DiskFailed is read write disk = absurd (disk refl)
fine-stop BindFailed is read write disk = inr (inr (inl refl))
fine-stop (BadKit fault) is read write disk = absurd is
fine-stop (BadLine line) is read write disk = absurd is
fine-stop (BadSnap line) is read write disk = absurd is
fine-stop (BadJournal place) is read write disk = absurd is
fine-stop (Full whole entry) is read write disk = inr (inr (inr refl))

pub fine-status : (why : Stop) (status : ℕ) (old new : SinkSeen) → EndsWith why status old new → IsNoFault why → why ≢ ReadFailed → why ≢ WriteFailed
    → why ≢ DiskFailed → IsFine status
fine-status why status old new (inl said) is read write disk = subst IsFine (sym said.0) (fine-stop why is read write disk)
fine-status why status old new (inr forgot) is read write disk = inr (inl forgot.0)

-- ---- every status

abbrev pub IsStatus : ℕ → Type 0
IsStatus status = (status ≡ 0) ⊎ (status ≡ 1) ⊎ (status ≡ 3) ⊎ (status ≡ 4) ⊎ (status ≡ 5) ⊎ (status ≡ 6) ⊎ (status ≡ 7) ⊎ (status ≡ 8) ⊎ (status ≡ 9)

each-stop : (why : Stop) → IsStatus (status_of why)
each-stop Ended = inl refl
each-stop NoMemory = inr (inl refl)
each-stop ReadFailed = inr (inr (inl refl))
each-stop WriteFailed = inr (inr (inr (inl refl)))
each-stop DiskFailed = inr (inr (inr (inr (inl refl))))
each-stop BindFailed = inr (inr (inr (inr (inr (inl refl)))))
each-stop (BadKit fault) = inr (inr (inr (inr (inr (inr (inl refl))))))
each-stop (BadLine line) = inr (inr (inr (inr (inr (inr (inl refl))))))
each-stop (BadSnap line) = inr (inr (inr (inr (inr (inr (inl refl))))))
each-stop (BadJournal place) = inr (inr (inr (inr (inr (inr (inr (inl refl)))))))
each-stop (Full whole entry) = inr (inr (inr (inr (inr (inr (inr (inr refl)))))))

pub each-status : (why : Stop) (status : ℕ) (old new : SinkSeen) → EndsWith why status old new → IsStatus status
each-status why status old new (inl said) = subst IsStatus (sym said.0) (each-stop why)
each-status why status old new (inr forgot) = inr (inl forgot.0)
