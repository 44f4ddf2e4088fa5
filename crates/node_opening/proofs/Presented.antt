-- A node that binds its ports, tells of its processes and begins its service.
use Rattle.std.proofs.Common.{◌≡◌, ℕ, List, [], ◌∷◌, ◌++◌, map, Option, None, refl, sym, ap, subst, ◌∙◌}
use Rattle.kit_defs.specs.Kits.{Kit}
use Rattle.journal_defs.specs.declared.Version.{Version}
use Rattle.journal_defs.specs.Entries.{Entry}
use Rattle.node_defs.specs.Lines.{Stop, BindFailed, DiskFailed, NoMemory, WriteFailed}
use Rattle.node_defs.specs.Casts.{Cast, cast_of}
use Rattle.node_defs.specs.Nodes.{Node, Opening, Greet, Serve, Finish, Serves, Said, Snapper, opens}
use Rattle.node_traces.specs.Outside.{LinkSeen, SinkSeen, SourceSeen, SinkWrote, SinkFailed}
use Rattle.node_traces.specs.Service.{Asked, HeardBy, one_asked}
use Rattle.node_traces.specs.Goes.{Outside, Goes}
use Rattle.node_traces.proofs.Going.{parts_go_on}
use Rattle.opening_laws.specs.Opening.{HasToOpen, FailsAtOne, StopsBy, binds, left_to_open, stopped_by}
use Rattle.opening_laws.proofs.Opened.{opens_in_order}
use Rattle.restored_hosts.specs.Below.{HasAnswered, SnapSaid, outside}
use Rattle.node_opening.specs.Begins.{begins_by}
use Rattle.node_opening.specs.Holding.{HoldsBy}
use Rattle.node_opening.specs.Opened.{Unopened, reading, opening}
use Rattle.node_opening.specs.Reading.{Unread}

-- what is to be done after the binds
abbrev pub to_tell : List ℕ → List Opening
to_tell text = Greet text ∷ Serve ∷ Finish ∷ []

-- ---- the service

-- what it says as it begins is written, and it is shown the processes as the node has them
served-so : (c : Cast) (snap : Snapper) (most : ℕ) (n : Node) (link : LinkSeen) (s t : SinkSeen) (source : SourceSeen) (h : List Asked)
    (text : List ℕ) → HasToOpen n (Serve ∷ Finish ∷ []) → SinkWrote s t text
    → Goes c snap most n (outside link s source h) (left_to_open n (Finish ∷ []))
    (outside link t source (h ++ one_asked c (map n.now c.hosted) Serves (Said text [])))
served-so c snap most n link s t source h text has wrote =
    let x = outside link s source h in
    let y = outside link s source (h ++ one_asked c (map n.now c.hosted) Serves (Said text [])) in
    let z = outside link t source (h ++ one_asked c (map n.now c.hosted) Serves (Said text [])) in
    let said = left_to_open n (Greet text ∷ Finish ∷ []) in
    let last = left_to_open n (Finish ∷ []) in
    parts_go_on c snap most n said last x y z ((opens_in_order c snap most n x).served text [] (Finish ∷ []) has)
    ((opens_in_order c snap most said y).greeted text (Finish ∷ []) t (record { runs = has.runs; opening = refl }) wrote)

-- it began, and the output failed
served-untold : (c : Cast) (snap : Snapper) (most : ℕ) (n : Node) (link : LinkSeen) (s t : SinkSeen) (source : SourceSeen) (h : List Asked)
    (text : List ℕ) → HasToOpen n (Serve ∷ Finish ∷ []) → SinkFailed s t text
    → StopsBy c snap most n (outside link s source h) WriteFailed
    (outside link t source (h ++ one_asked c (map n.now c.hosted) Serves (Said text [])))
served-untold c snap most n link s t source h text has failed =
    let x = outside link s source h in
    let y = outside link s source (h ++ one_asked c (map n.now c.hosted) Serves (Said text [])) in
    let z = outside link t source (h ++ one_asked c (map n.now c.hosted) Serves (Said text [])) in
    let said = left_to_open n (Greet text ∷ Finish ∷ []) in
    record {
      last = stopped_by WriteFailed said;
      stops = refl;
      goes = parts_go_on c snap most n said (stopped_by WriteFailed said) x y z
          ((opens_in_order c snap most n x).served text [] (Finish ∷ []) has)
          ((opens_in_order c snap most said y).not_greeted text (Finish ∷ []) t (record { runs = has.runs; opening = refl }) failed);
    }

-- what was told after no lines is all there is
said-is : (reported first text : List ℕ) → first ≡ [] → text ≡ first ++ reported → text ≡ reported
said-is reported first text none is = is ∙ ap (λ (t : List ℕ). t ++ reported) none

module _ {V : Type 0} (heard : V → List Asked → Type 0) (service : V) (c : Cast) (snap : Snapper) (most : ℕ) (n : Node) (link : LinkSeen)
    (source : SourceSeen) (h : List Asked) (ready : HasToOpen n (Serve ∷ Finish ∷ [])) where
  -- as the code has it: the lines that the service made of none
  pub serves : (s t : SinkSeen) (first text bytes : List ℕ) → first ≡ [] → bytes ≡ text
      → HasAnswered heard service h c (map n.now c.hosted) Serves first text → SinkWrote s t bytes
      → HeardBy heard service (λ i. Goes c snap most n (outside link s source h) (left_to_open n (Finish ∷ [])) (outside link t source i))
  serves s t first text bytes none lent tells wrote = record {
    history = h ++ one_asked c (map n.now c.hosted) Serves (Said tells.text []);
    has = tells.has;
    holds = served-so c snap most n link s t source h tells.text ready
        (subst (λ (b : List ℕ). SinkWrote s t b) (lent ∙ said-is tells.text first text none tells.reported) wrote);
  }

  pub serves-untold : (s t : SinkSeen) (first text bytes : List ℕ) → first ≡ [] → bytes ≡ text
      → HasAnswered heard service h c (map n.now c.hosted) Serves first text → SinkFailed s t bytes
      → HeardBy heard service (λ i. StopsBy c snap most n (outside link s source h) WriteFailed (outside link t source i))
  serves-untold s t first text bytes none lent tells failed = record {
    history = h ++ one_asked c (map n.now c.hosted) Serves (Said tells.text []);
    has = tells.has;
    holds = served-untold c snap most n link s t source h tells.text ready
        (subst (λ (b : List ℕ). SinkFailed s t b) (lent ∙ said-is tells.text first text none tells.reported) failed);
  }

  -- memory ran out, and the service has heard nothing
  pub serves-not : (s : SinkSeen) → heard service h
      → HeardBy heard service (λ i. StopsBy c snap most n (outside link s source h) NoMemory (outside link s source i))
  serves-not s still = record {
    history = h;
    has = still;
    holds = record {
      last = stopped_by NoMemory n;
      stops = refl;
      goes = (opens_in_order c snap most n (outside link s source h)).unremembered ready.runs;
    };
  }

-- ---- binds and greeting

module _ (c : Cast) (snap : Snapper) (most : ℕ) (n : Node) (source : SourceSeen) (h : List Asked) (numbers : List ℕ) (text : List ℕ)
    (same : numbers ≡ c.hosted) (ready : HasToOpen n (binds c c.hosted ++ to_tell text)) where
  bound : (x : Outside) → Goes c snap most n x (left_to_open n (to_tell text)) x
  bound x = (opens_in_order c snap most n x).bound c.hosted (to_tell text) ready

  -- the greeting is written
  reported : (k l : LinkSeen) (s t : SinkSeen) → l ≡ k → SinkWrote s t text
      → Goes c snap most n (outside k s source h) (left_to_open n (Serve ∷ Finish ∷ [])) (outside l t source h)
  reported k l s t still wrote =
      let x = outside k s source h in
      let y = outside k t source h in
      let first = left_to_open n (to_tell text) in
      let second = left_to_open n (Serve ∷ Finish ∷ []) in
      let greeted : Goes c snap most first x second y
      = (opens_in_order c snap most first x).greeted text (Serve ∷ Finish ∷ []) t (record { runs = ready.runs; opening = refl }) wrote in
      subst (λ (j : LinkSeen). Goes c snap most n x second (outside j t source h)) (sym still)
      (parts_go_on c snap most n first second x x y (bound x) greeted)

  -- and the service begins
  pub presents : {V : Type 0} (heard : V → List Asked → Type 0) (service : V) (k l : LinkSeen) (s t u : SinkSeen) → l ≡ k
      → SinkWrote s t text
      → HeardBy heard service (λ i. Goes c snap most (left_to_open n (Serve ∷ Finish ∷ [])) (outside l t source h)
      (left_to_open n (Finish ∷ [])) (outside l u source i))
      → HeardBy heard service (λ i. Goes c snap most n (outside k s source h) (left_to_open n (Finish ∷ [])) (outside l u source i))
  presents heard service k l s t u still wrote begun = record {
    history = begun.history;
    has = begun.has;
    holds = parts_go_on c snap most n (left_to_open n (Serve ∷ Finish ∷ [])) (left_to_open n (Finish ∷ [])) (outside k s source h)
        (outside l t source h) (outside l u source begun.history) (reported k l s t still wrote) begun.holds;
  }

  pub presents-part : {V : Type 0} (heard : V → List Asked → Type 0) (service : V) (why : Stop) (k l : LinkSeen) (s t u : SinkSeen) → l ≡ k
      → SinkWrote s t text
      → HeardBy heard service (λ i. StopsBy c snap most (left_to_open n (Serve ∷ Finish ∷ [])) (outside l t source h) why (outside l u source i))
      → HeardBy heard service (λ i. StopsBy c snap most n (outside k s source h) why (outside l u source i))
  presents-part heard service why k l s t u still wrote begun = record {
    history = begun.history;
    has = begun.has;
    holds = record {
      last = begun.holds.last;
      stops = begun.holds.stops;
      goes = parts_go_on c snap most n (left_to_open n (Serve ∷ Finish ∷ [])) begun.holds.last (outside k s source h)
          (outside l t source h) (outside l u source begun.history) (reported k l s t still wrote) begun.holds.goes;
    };
  }

  -- the link failed at one of the ports
  pub not-bound : (k l : LinkSeen) (s : SinkSeen) → FailsAtOne numbers k l
      → StopsBy c snap most n (outside k s source h) BindFailed (outside l s source h)
  not-bound k l s fails =
      let at : HasToOpen n (binds c (fails.first ++ fails.process ∷ fails.others) ++ to_tell text)
      = subst (λ ps. HasToOpen n (binds c ps ++ to_tell text)) (sym same ∙ fails.parts) ready in
      record {
        last = stopped_by BindFailed (left_to_open n (binds c (fails.process ∷ fails.others) ++ to_tell text));
        stops = refl;
        goes = (opens_in_order c snap most n (outside k s source h)).not_bound fails.first fails.others fails.process (to_tell text) l at fails.failed;
      }

  -- the output failed
  pub not-reported : (k l : LinkSeen) (s t : SinkSeen) → l ≡ k → SinkFailed s t text
      → StopsBy c snap most n (outside k s source h) WriteFailed (outside l t source h)
  not-reported k l s t still failed =
      let x = outside k s source h in
      let y = outside k t source h in
      let first = left_to_open n (to_tell text) in
      let greeted : Goes c snap most first x (stopped_by WriteFailed first) y
      = (opens_in_order c snap most first x).not_greeted text (Serve ∷ Finish ∷ []) t (record { runs = ready.runs; opening = refl }) failed in
      record {
        last = stopped_by WriteFailed first;
        stops = refl;
        goes = subst (λ (j : LinkSeen). Goes c snap most n x (stopped_by WriteFailed first) (outside j t source h)) (sym still)
            (parts_go_on c snap most n first (stopped_by WriteFailed first) x x y (bound x) greeted);
      }

-- ---- the finish of the journal

module _ (c : Cast) (snap : Snapper) (most : ℕ) (n : Node) (x y : Outside) (runs : n.stopped ≡ None)
    (goes : Goes c snap most n x (left_to_open n (Finish ∷ [])) y) where
  pub finished : Goes c snap most n x (left_to_open n []) y
  finished =
      let last = left_to_open n (Finish ∷ []) in
      parts_go_on c snap most n last (left_to_open n []) x y y goes
      ((opens_in_order c snap most last y).finished [] (record { runs = runs; opening = refl }))

  pub not-finished : StopsBy c snap most n x DiskFailed y
  not-finished =
      let last = left_to_open n (Finish ∷ []) in
      record {
        last = stopped_by DiskFailed last;
        stops = refl;
        goes = parts_go_on c snap most n last (stopped_by DiskFailed last) x y y goes
            ((opens_in_order c snap most last y).not_finished [] (record { runs = runs; opening = refl }));
      }

-- ---- a node that has not opened

-- its journal was not read, and the service was asked nothing
pub unread : {V : Type 0} (heard : V → List Asked → Type 0) (service : V) (kit : Kit) (by : Option SnapSaid) (snap : Snapper)
    (most lines : ℕ) (held : Option (List ℕ)) (link : LinkSeen) (sink : SinkSeen) (source : SourceSeen) (h : List Asked) (why : Stop) → heard service h
    → Unread kit by lines held why
    → HeardBy heard service (λ i. Unopened kit by snap most lines held (outside link sink source h) (outside link sink source i) why)
unread heard service kit by snap most lines held link sink source h why still is = record {
  history = h;
  has = still;
  holds = reading why is refl;
}

-- it was read, and the node stopped before its first line
pub unopened : {V : Type 0} (heard : V → List Asked → Type 0) (service : V) (kit : Kit) (by : Option SnapSaid) (v : Version) (es : List Entry)
    (snap : Snapper) (most lines : ℕ) (held : Option (List ℕ)) (k l : LinkSeen) (s t : SinkSeen) (source : SourceSeen) (h : List Asked) (why : Stop)
    → HoldsBy kit v by es held
    → HeardBy heard service (λ i. StopsBy (cast_of kit v) snap most (opens (cast_of kit v) (begins_by (cast_of kit v) by) lines es)
    (outside k s source h) why (outside l t source i))
    → HeardBy heard service (λ i. Unopened kit by snap most lines held (outside k s source h) (outside l t source i) why)
unopened heard service kit by v es snap most lines held k l s t source h why holds stops = record {
  history = stops.history;
  has = stops.has;
  holds = opening why v es holds stops.holds;
}
