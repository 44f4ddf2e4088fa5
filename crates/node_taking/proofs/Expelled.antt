-- Whom the service names after a turn, one after the other.
use Rattle.std.proofs.Common.{◌≡◌, ℕ, ◌-◌, ◌<◌, List, [], ◌∷◌, ◌++◌, Option, None, Some, Result, Ok, Err, refl, sym, subst, arith}
use Rattle.std.specs.Prelude.{map, IfErr, IfOk}
use Rattle.group_defs.specs.Process.{Process}
use Rattle.group_defs.specs.Events.{Note}
use Rattle.journal_defs.specs.declared.Version.{Version}
use Rattle.journal_defs.specs.Entries.{Event, Suspect}
use Rattle.journal_rp.specs.Stages.{version_of}
use Rattle.member_events.specs.declared.events.Event.TheVariants as codes
use Rattle.member_events.specs.declared.events.Note.{Note as CodeNote}
use Rattle.member_events.specs.declared.events.Outcome.{Outcome}
use Rattle.node_defs.specs.Casts.{cast_of}
use Rattle.node_defs.specs.Lines.{Stop, expel_line}
use Rattle.node_defs.specs.Nodes.{Node, Snapper, Task, Take, Say, Ask, Answer, Done, Named, Asks, asks}
use Rattle.node_traces.specs.Stops.{Outset}
use Rattle.node_traces.specs.Outside.{SinkSeen, SinkWrote, SourceSeen}
use Rattle.node_traces.specs.Service.{Asked, HeardBy, one_asked}
use Rattle.sealing_laws.specs.Events.{event as event_of, Event as CodeEvent}
use Rattle.sealing_laws.specs.Running.{AreHosts, IsNode, Running, cast_in, stop as stop_of, Stop as Why}
use Rattle.sealing_laws.specs.Service.{IsAbove, note}
use Rattle.node_taking.specs.Asking.{left_to_ask}
use Rattle.node_taking.specs.Taking.{GoesOnTo, HasNode, StopsSo, outside}
use Rattle.node_taking.specs.Telling.{WritesText}
use Rattle.node_taking.specs.Turns.{HasHosts}
use Rattle.node_taking.proofs.Ends.{says-on, says-stops}
use Rattle.node_taking.proofs.Lines.{asked-of, names-nobody, names-one}
use Rattle.node_taking.proofs.Joined.{on-still, stops-there}
use Rattle.node_taking.proofs.Leads.{Around, Leads, LeadsToStop, leads-and-stops, leads-before, leads-on, stop-before}

-- a running node has its hosts
pub has-hosts : (seen : Option (List ℕ)) (may_leave : List ℕ → Type 0) (r : Running) → HasNode seen may_leave r → HasHosts r.kit.now r.hosts
has-hosts seen may_leave r here = record { version = version_of r.journal; now = here.node.now; are = here.is.hosts }

-- after a suspicion nothing is asked
pub not-asked : (p q : ℕ) (o : Option Outcome) → left_to_ask p (Suspect q) o ≡ []
not-asked p q None = refl
not-asked p q (Some came) = refl

-- After a frame the service is asked, and after any other event it is not.
pub asked-of-frame : (p : ℕ) (event : CodeEvent) (notes : List Note) (from : ℕ) (bytes : _) → event ≡ codes.Frame from bytes
    → asks p (event_of event) notes ≡ Ask p (event_of event) notes None ∷ []
asked-of-frame p event notes from bytes is = subst (λ (w : CodeEvent). asks p (event_of w) notes ≡ Ask p (event_of w) notes None ∷ []) (sym is) refl

pub asked-of-none : (p : ℕ) (event : CodeEvent) (notes : List Note) → ((from : ℕ) (bytes : _) → event ≡ codes.Frame from bytes → ⊥)
    → asks p (event_of event) notes ≡ []
asked-of-none p (codes.Submit payload) notes other = refl
asked-of-none p (codes.Frame from bytes) notes other = absurd (other from bytes refl)
asked-of-none p (codes.Suspect q) notes other = refl
asked-of-none p (codes.Join q) notes other = refl
asked-of-none p codes.Renew notes other = refl
asked-of-none p codes.Tick notes other = refl

-- ---- how many may still be named

abbrev pub numbers_left : Option ℕ → ℕ
numbers_left None = 64
numbers_left (Some p) = 63 - p

pub fewer-left : (above : Option ℕ) (q : ℕ) → q < 64 → IsAbove above q → numbers_left (Some q) < numbers_left above
fewer-left None q small above = omega arith
fewer-left (Some p) q small above = let over : p < q = above in omega (arith, small, over)

-- what the service says when it is asked so
abbrev pub Names : {V : Type 0} → (V → List Asked → Type 0) → Running → ℕ → Event → List Note → Option ℕ → Answer → V → V → Type 0
Names heard r p e notes above a old new = (version : Version) (now : ℕ → Process) (h : List Asked) → heard old h
    → AreHosts (cast_of r.kit.now version) r.kit.now now None r.hosts → heard new (h ++ one_asked (cast_of r.kit.now version) (now p ∷ []) (Asks p e notes above) a)

module _ {D V : Type 0} (seen : D → Option (List ℕ)) (may_leave : D → List ℕ → Type 0) (moment : D → ℕ)
    (left_since : D → ℕ → List ℕ → Type 0) (heard : V → List Asked → Type 0)
    (only_now : (d : D) (image : List ℕ) → left_since d (moment d) image → may_leave d image) where
  -- ---- a line

  pub says-leads : (r : Running) (x : Around D V) (text : List ℕ) (us : List Task) (t : SinkSeen) → SinkWrote x.sink t text
      → Leads seen may_leave moment left_since heard r x (Say text ∷ us) us r (record x { sink = t })
  says-leads r x text us t wrote = λ snap most f source h n ts has is. record {
    history = h;
    has = has;
    holds = on-still seen may_leave moment left_since only_now snap most f r n (outside x.link x.sink source h) (outside x.link t source h) x.disk
        (Say text ∷ (us ++ ts)) (us ++ ts) is (says-on (cast_in r) snap most n text (us ++ ts) x.link x.sink t source h wrote);
  }

  pub says-to-stop : (T : Type 0) (why : Why) (r : Running) (x : Around D V) (text : List ℕ) (us : List Task) (t : SinkSeen)
      → WritesText (let w : Result T Why = Err why in w) text x.sink t
      → LeadsToStop seen may_leave moment left_since heard r x (Say text ∷ us) (stop_of why) (record x { sink = t })
  says-to-stop T why r x text us t said = λ snap most f source h n ts has is. record {
    history = h;
    has = has;
    holds = stops-there seen may_leave moment left_since only_now snap most f r n (outside x.link x.sink source h) (outside x.link t source h)
        x.disk (Say text ∷ (us ++ ts)) (stop_of why) is
        (says-stops T why (cast_in r) snap most n text (us ++ ts) x.link x.sink t source h said);
  }

  -- a process that was named: its line is written, and then it is suspected
  pub expels : (r r' : Running) (x y : Around D V) (p q : ℕ) (t : SinkSeen) (o : Option Outcome) → SinkWrote x.sink t (expel_line p q)
      → Leads seen may_leave moment left_since heard r (record x { sink = t }) (Take p (Suspect q) ∷ []) (left_to_ask p (Suspect q) o) r' y
      → Leads seen may_leave moment left_since heard r x (Say (expel_line p q) ∷ Take p (Suspect q) ∷ []) [] r' y
  expels r r' x y p q t o wrote takes =
      leads-on seen may_leave moment left_since heard only_now r r r' x (record x { sink = t }) y (Say (expel_line p q) ∷ Take p (Suspect q) ∷ [])
      (Take p (Suspect q) ∷ []) [] (says-leads r x (expel_line p q) (Take p (Suspect q) ∷ []) t wrote)
      (subst (λ (ws : List Task). Leads seen may_leave moment left_since heard r (record x { sink = t }) (Take p (Suspect q) ∷ []) ws r' y)
      (not-asked p q o) takes)

  pub expel-stops : (r : Running) (x y : Around D V) (p q : ℕ) (t : SinkSeen) (why : Stop) → SinkWrote x.sink t (expel_line p q)
      → LeadsToStop seen may_leave moment left_since heard r (record x { sink = t }) (Take p (Suspect q) ∷ []) why y
      → LeadsToStop seen may_leave moment left_since heard r x (Say (expel_line p q) ∷ Take p (Suspect q) ∷ []) why y
  expel-stops r x y p q t why wrote stops =
      leads-and-stops seen may_leave moment left_since heard only_now r r x (record x { sink = t }) y
      (Say (expel_line p q) ∷ Take p (Suspect q) ∷ []) (Take p (Suspect q) ∷ []) why
      (says-leads r x (expel_line p q) (Take p (Suspect q) ∷ []) t wrote) stops

  -- ---- the service is asked

  module _ (r : Running) (x : Around D V) (p : ℕ) (e : Event) (notes : List Note) (above : Option ℕ) (new : V) where
    pub nobody-leads : Names heard r p e notes above Done x.service new
        → Leads seen may_leave moment left_since heard r x (Ask p e notes above ∷ []) [] r (record x { service = new })
    nobody-leads names = λ snap most f source h n ts has is. record {
      history = h ++ asked-of (cast_in r) n p e notes above Done;
      has = names (version_of r.journal) n.now h has is.hosts;
      holds = on-still seen may_leave moment left_since only_now snap most f r n (outside x.link x.sink source h)
          (outside x.link x.sink source (h ++ asked-of (cast_in r) n p e notes above Done)) x.disk (Ask p e notes above ∷ ts) ts is
          (names-nobody (cast_in r) snap most n p e notes above ts x.link x.sink source h);
    }

    pub one-leads : (q : ℕ) → Names heard r p e notes above (Named q) x.service new
        → Leads seen may_leave moment left_since heard r x (Ask p e notes above ∷ [])
        (Say (expel_line p q) ∷ Take p (Suspect q) ∷ Ask p e notes (Some q) ∷ []) r (record x { service = new })
    one-leads q names = λ snap most f source h n ts has is. record {
      history = h ++ asked-of (cast_in r) n p e notes above (Named q);
      has = names (version_of r.journal) n.now h has is.hosts;
      holds = on-still seen may_leave moment left_since only_now snap most f r n (outside x.link x.sink source h)
          (outside x.link x.sink source (h ++ asked-of (cast_in r) n p e notes above (Named q))) x.disk (Ask p e notes above ∷ ts)
          (Say (expel_line p q) ∷ Take p (Suspect q) ∷ Ask p e notes (Some q) ∷ ts) is
          (names-one (cast_in r) snap most n p e notes above ts x.link x.sink source h q);
    }

  -- ---- the turn before it

  -- with a node that goes on, its tasks are done
  abbrev pub LeadsIfOk : Running → Around D V → List Task → Result Running Why → Around D V → Type 0
  LeadsIfOk r x us w y = (snap : Snapper) (most : ℕ) (f : Outset) (source : SourceSeen) (h : List Asked) (n : Node) (ts : List Task)
      → heard x.service h → IsNode f (seen x.disk) (may_leave x.disk) r n (us ++ ts)
      → IfOk w (λ r'. HeardBy heard y.service (λ i. GoesOnTo seen may_leave moment left_since (cast_in r) snap most f n
      (outside x.link x.sink source h) x.disk ts (outside y.link y.sink source i) y.disk r'))

  -- and with one that ends it stops so
  abbrev pub StopsIfErr : Running → Around D V → List Task → Result Running Why → Around D V → Type 0
  StopsIfErr r x us w y = (snap : Snapper) (most : ℕ) (f : Outset) (source : SourceSeen) (h : List Asked) (n : Node) (ts : List Task)
      → heard x.service h → IsNode f (seen x.disk) (may_leave x.disk) r n (us ++ ts)
      → IfErr w (λ why. HeardBy heard y.service (λ i. StopsSo seen may_leave moment left_since (cast_in r) snap most f n
      (outside x.link x.sink source h) x.disk (stop_of why) (outside y.link y.sink source i) y.disk))

  module _ (r q : Running) (x y : Around D V) (p : ℕ) (e : Event) (o : Option Outcome)
      (takes : Leads seen may_leave moment left_since heard r x (Take p e ∷ []) (left_to_ask p e o) q y) where
    -- the event was refused
    pub refused-alone : o ≡ None → Leads seen may_leave moment left_since heard r x (Take p e ∷ []) [] q y
    refused-alone none =
        subst (λ (w : Option Outcome). Leads seen may_leave moment left_since heard r x (Take p e ∷ []) (left_to_ask p e w) q y) none takes

    -- it was taken, and came to this
    module _ (came : Outcome) (lent : List CodeNote) (some : o ≡ Some came) (same : lent ≡ came.notes.items) where
      taken-so : Leads seen may_leave moment left_since heard r x (Take p e ∷ []) (asks p e (map note lent)) q y
      taken-so =
          subst (λ (ns : List CodeNote). Leads seen may_leave moment left_since heard r x (Take p e ∷ []) (asks p e (map note ns)) q y) (sym same)
          (subst (λ (w : Option Outcome). Leads seen may_leave moment left_since heard r x (Take p e ∷ []) (left_to_ask p e w) q y) some takes)

      taken-and-asked : (r' : Running) (z : Around D V)
          → Leads seen may_leave moment left_since heard q y (asks p e (map note lent)) [] r' z
          → Leads seen may_leave moment left_since heard r x (Take p e ∷ []) [] r' z
      taken-and-asked r' z asked = leads-on seen may_leave moment left_since heard only_now r q r' x y z (Take p e ∷ [])
          (asks p e (map note lent)) [] taken-so asked

      asked-to-stop : (z : Around D V) (why : Stop) → LeadsToStop seen may_leave moment left_since heard q y (asks p e (map note lent)) why z
          → LeadsToStop seen may_leave moment left_since heard r x (Take p e ∷ []) why z
      asked-to-stop z why stops = leads-and-stops seen may_leave moment left_since heard only_now r q x y z (Take p e ∷ [])
          (asks p e (map note lent)) why taken-so stops

      -- whatever came of the asking
      pub goes-on-asked : (w : Result Running Why) (z : Around D V) → LeadsIfOk q y (asks p e (map note lent)) w z
          → LeadsIfOk r x (Take p e ∷ []) w z
      goes-on-asked (Ok r') z asked = taken-and-asked r' z (λ snap most f source h n ts has is. asked snap most f source h n ts has is)
      goes-on-asked (Err why) z asked = λ snap most f source h n ts has is. tt

      pub stops-asked : (w : Result Running Why) (z : Around D V) → StopsIfErr q y (asks p e (map note lent)) w z
          → StopsIfErr r x (Take p e ∷ []) w z
      stops-asked (Ok r') z asked = λ snap most f source h n ts has is. tt
      stops-asked (Err why) z asked = asked-to-stop z (stop_of why) (λ snap most f source h n ts has is. asked snap most f source h n ts has is)

  -- ---- one after the other

  -- The service was asked above those that it named so far; from here on it is asked above this one.
  abbrev pub NamedSoFar : Running → Around D V → ℕ → Event → List Note → Option ℕ → Running → Around D V → Type 0
  NamedSoFar r x p e notes above r' y =
      Leads seen may_leave moment left_since heard r x (Ask p e notes None ∷ []) (Ask p e notes above ∷ []) r' y

  module _ (r q : Running) (x y : Around D V) (p : ℕ) (e : Event) (notes : List Note) (above : Option ℕ) (asked : V)
      (so-far : NamedSoFar r x p e notes above q y) where
    -- it names nobody more
    pub all-named : Names heard q p e notes above Done y.service asked
        → Leads seen may_leave moment left_since heard r x (Ask p e notes None ∷ []) [] q (record y { service = asked })
    all-named names = leads-on seen may_leave moment left_since heard only_now r q q x y (record y { service = asked }) (Ask p e notes None ∷ [])
        (Ask p e notes above ∷ []) [] so-far (nobody-leads q y p e notes above asked names)

    -- it names one more
    module _ (other : ℕ) (names : Names heard q p e notes above (Named other) y.service asked) where
      abbrev expelled : List Task
      expelled = Say (expel_line p other) ∷ Take p (Suspect other) ∷ Ask p e notes (Some other) ∷ []

      one-named : Leads seen may_leave moment left_since heard r x (Ask p e notes None ∷ []) expelled q (record y { service = asked })
      one-named = leads-on seen may_leave moment left_since heard only_now r q q x y (record y { service = asked }) (Ask p e notes None ∷ [])
          (Ask p e notes above ∷ []) expelled so-far (one-leads q y p e notes above asked other names)

      -- which is expelled
      pub named-more : (r' : Running) (z : Around D V)
          → Leads seen may_leave moment left_since heard q (record y { service = asked })
          (Say (expel_line p other) ∷ Take p (Suspect other) ∷ []) [] r' z
          → NamedSoFar r x p e notes (Some other) r' z
      named-more r' z expels = leads-on seen may_leave moment left_since heard only_now r q r' x (record y { service = asked }) z
          (Ask p e notes None ∷ []) expelled (Ask p e notes (Some other) ∷ []) one-named
          (leads-before seen may_leave moment left_since heard q r' (record y { service = asked }) z (Say (expel_line p other))
          (Take p (Suspect other)) (Ask p e notes (Some other)) expels)

      -- or at which the node stops
      pub named-to-stop : (z : Around D V) (why : Stop)
          → LeadsToStop seen may_leave moment left_since heard q (record y { service = asked })
          (Say (expel_line p other) ∷ Take p (Suspect other) ∷ []) why z
          → LeadsToStop seen may_leave moment left_since heard r x (Ask p e notes None ∷ []) why z
      named-to-stop z why stops = leads-and-stops seen may_leave moment left_since heard only_now r q x (record y { service = asked }) z
          (Ask p e notes None ∷ []) expelled why one-named
          (stop-before seen may_leave moment left_since heard q (record y { service = asked }) z (Say (expel_line p other))
          (Take p (Suspect other)) (Ask p e notes (Some other)) why stops)
