-- Ports are bound before all else.
use Rattle.std.proofs.Common.{◌≡◌, ◌≢◌, ℕ, List, [], ◌∷◌, ◌++◌, Option, Some, None, refl, sym, ap, subst, ◌∙◌}
use Rattle.node_defs.specs.Lines.{Stop, BindFailed}
use Rattle.node_defs.specs.Casts.{Cast}
use Rattle.node_defs.specs.Nodes.{Node, Opening, Bind, Greet, Serve, Finish, Call, Binds, Answer, Done, Failed, Unremembered, Said, Snapper, call_of, answered, run, calls}
use Rattle.node_traces.specs.Ways.{Through}
use Rattle.node_traces.specs.Outside.{LinkSeen, LinkStep, LinkAnswered, SinkSeen, SinkStep, SinkAnswered}
use Rattle.opening_laws.specs.Opening.{binds}
use Rattle.stop_laws.proofs.Rested.{at, ends-so, nothing-more}
use Rattle.stop_laws.proofs.Stopping.{past-all}
use Rattle.stop_laws.specs.Binds.{BindsNone, BindsFirst}

-- it has stopped for no port, and has none to bind
record IsBound (n : Node) : Type 0 where
  stopped : n.stopped ≢ Some BindFailed
  opening : BindsNone n.opening

-- what ends a node that runs on by what is said of it once it has stopped
by-stop : (c : Cast) (snap : Snapper) (n : Node) (more : List Answer) → n.stopped ≢ Some BindFailed
    → (n.stopped ≡ None → (run c snap n more).stopped ≢ Some BindFailed) → (run c snap n more).stopped ≢ Some BindFailed
by-stop c snap n more not rest = of n.stopped refl
  where
    of : (stopped : Option Stop) → n.stopped ≡ stopped → (run c snap n more).stopped ≢ Some BindFailed
    of None is = rest is
    of (Some why) is = subst (λ (m : Node). m.stopped ≢ Some BindFailed) (sym (ends-so c snap why n more is)) not

module _ (c : Cast) (snap : Snapper) (n : Node) where
  bound-one : (o : Opening) (os : List Opening) (a : Answer) → BindsNone (o ∷ os) → IsBound (answered c snap (at n (o ∷ os) n.leaving n.tasks) a)
  unfolding answered
  bound-one (Bind port) os a none = absurd none
  bound-one (Greet text) os Done none = record { stopped = λ e. absurd cc; opening = none }
  bound-one (Greet text) os Failed none = record { stopped = λ e. absurd cc; opening = none }
  bound-one (Greet text) os Unremembered none = record { stopped = λ e. absurd cc; opening = none }
  bound-one (Greet text) os _ none = record { stopped = λ e. absurd cc; opening = none }
  bound-one Serve os (Said text sends) none = record { stopped = λ e. absurd cc; opening = none }
  bound-one Serve os Unremembered none = record { stopped = λ e. absurd cc; opening = none }
  bound-one Serve os _ none = record { stopped = λ e. absurd cc; opening = none }
  bound-one Finish os Done none = record { stopped = λ e. absurd cc; opening = none }
  bound-one Finish os Failed none = record { stopped = λ e. absurd cc; opening = none }
  bound-one Finish os Unremembered none = record { stopped = λ e. absurd cc; opening = none }
  bound-one Finish os _ none = record { stopped = λ e. absurd cc; opening = none }

  pub same : (os : List Opening) → n.stopped ≡ None → n.opening ≡ os → at n os n.leaving n.tasks ≡ n
  same os runs is = λ i. record n { stopped = sym runs i; opening = sym is i }

-- a node with no port to bind stops for none
binds-no-more : (c : Cast) (snap : Snapper) (answers : List Answer) (n : Node) (os : List Opening) → n.stopped ≡ None → n.opening ≡ os
    → BindsNone os → (run c snap n answers).stopped ≢ Some BindFailed
unfolding run
binds-no-more c snap answers n [] runs is none = past-all c snap answers n runs is
binds-no-more c snap [] n (o ∷ os) runs is none = λ e. let never : None ≡ Some BindFailed = sym runs ∙ e in absurd cc
binds-no-more c snap (a ∷ more) n (o ∷ os) runs is none =
    let next = subst (λ (m : Node). IsBound (answered c snap m a)) (same c snap n (o ∷ os) runs is) (bound-one c snap n o os a none) in
    by-stop c snap (answered c snap n a) more next.stopped
    (λ on. binds-no-more c snap more (answered c snap n a) (answered c snap n a).opening on refl next.opening)

-- ---- the ports

-- the answer to a bind
data BindsOn (c : Cast) (snap : Snapper) (n : Node) (os : List Opening) (a : Answer) : Type 0 where
  goes_on : (answered c snap n a).stopped ≡ None → (answered c snap n a).opening ≡ os → BindsOn c snap n os a
  stays : (answered c snap n a).stopped ≡ None → (answered c snap n a).opening ≡ n.opening → BindsOn c snap n os a
  stops : (why : Stop) → (answered c snap n a).stopped ≡ Some why → BindsOn c snap n os a

module _ (c : Cast) (snap : Snapper) (n : Node) where
  bind-one : (port : ℕ) (os : List Opening) (a : Answer) → BindsOn c snap (at n (Bind port ∷ os) n.leaving n.tasks) os a
  unfolding answered
  bind-one port os Done = goes_on refl refl
  bind-one port os Failed = stops _ refl
  bind-one port os Unremembered = stops _ refl
  bind-one port os _ = stays refl refl

  calls-bind : (port : ℕ) (os : List Opening) → call_of c (at n (Bind port ∷ os) n.leaving n.tasks) ≡ Binds port
  unfolding call_of
  calls-bind port os = refl

-- a bind sends nothing and writes nothing
bind-sends : (port : ℕ) (a : Answer) (k l : LinkSeen) → LinkStep k (Binds port, a) l → l.sent ≡ k.sent
bind-sends port Failed k l step = step.sent
bind-sends port _ k l step = ap (λ (x : LinkSeen). x.sent) (sym step)

bind-writes : (port : ℕ) (a : Answer) (k l : SinkSeen) → SinkStep k (Binds port, a) l → l ≡ k
bind-writes port a k l step = sym step

module _ (c : Cast) (snap : Snapper) (more : List Opening) (none : BindsNone more) where
  -- of link and output, over the answers
  abbrev Silent : Node → List Answer → LinkSeen → LinkSeen → SinkSeen → SinkSeen → Type 0
  Silent n answers k l s t = LinkAnswered k (calls c snap n answers) l → SinkAnswered s (calls c snap n answers) t
      → (run c snap n answers).stopped ≡ Some BindFailed → (l.sent ≡ k.sent) × (t ≡ s)

  rests : (n : Node) (answers : List Answer) (why : Stop) (k l : LinkSeen) (s t : SinkSeen) → n.stopped ≡ Some why → Silent n answers k l s t
  rests n answers why k l s t is link sink failed = (
    sym (ap (λ (x : LinkSeen). x.sent) (nothing-more c snap why LinkStep (λ x y b e. e) n answers k l is link)),
    sym (nothing-more c snap why SinkStep (λ x y b e. e) n answers s t is sink),
  )

  after-bind : (n : Node) (os : List Opening) (a : Answer) (answers : List Answer) (k l : LinkSeen) (s t : SinkSeen) → BindsOn c snap n os a
      → ((answered c snap n a).stopped ≡ None → (answered c snap n a).opening ≡ os → Silent (answered c snap n a) answers k l s t)
      → ((answered c snap n a).stopped ≡ None → (answered c snap n a).opening ≡ n.opening → Silent (answered c snap n a) answers k l s t)
      → Silent (answered c snap n a) answers k l s t
  after-bind n os a answers k l s t (goes_on on left) first second = first on left
  after-bind n os a answers k l s t (stays on left) first second = second on left
  after-bind n os a answers k l s t (stops why on) first second = rests (answered c snap n a) answers why k l s t on

  whole : (answers : List Answer) (ps : List ℕ) (n : Node) (k l : LinkSeen) (s t : SinkSeen) → n.stopped ≡ None → n.opening ≡ binds c ps ++ more
      → Silent n answers k l s t
  unfolding run calls Through
  whole answers [] n k l s t runs is = λ link sink failed. absurd (binds-no-more c snap answers n more runs is none failed)
  whole [] (p ∷ ps) n k l s t runs is = λ link sink failed. let never : None ≡ Some BindFailed = sym runs ∙ failed in absurd cc
  whole (a ∷ answers) (p ∷ ps) n k l s t runs is = λ link sink failed.
      let alike = same c snap n (Bind (c.port p) ∷ (binds c ps ++ more)) runs is in
      let here : call_of c n ≡ Binds (c.port p) =
      subst (λ (m : Node). call_of c m ≡ Binds (c.port p)) alike (calls-bind c snap n (c.port p) (binds c ps ++ more)) in
      let sent = bind-sends (c.port p) a k link.0 (subst (λ (call : Call). LinkStep k (call, a) link.0) here link.1) in
      let wrote = bind-writes (c.port p) a s sink.0 (subst (λ (call : Call). SinkStep s (call, a) sink.0) here sink.1) in
      let next = subst (λ (m : Node). BindsOn c snap m (binds c ps ++ more) a) alike
      (bind-one c snap n (c.port p) (binds c ps ++ more) a) in
      let rest = after-bind n (binds c ps ++ more) a answers link.0 l sink.0 t next
      (λ on left. whole answers ps (answered c snap n a) link.0 l sink.0 t on left)
      (λ on left. whole answers (p ∷ ps) (answered c snap n a) link.0 l sink.0 t on (left ∙ is)) link.2 sink.2 failed in
      (rest.0 ∙ sent, rest.1 ∙ wrote)

pub binds_first : BindsFirst
binds_first c snap most n m x y ps more went runs is none failed =
    let both = whole c snap more none went.answers ps n x.link y.link x.sink y.sink runs is went.link went.sink
    (sym (ap (λ (w : Node). w.stopped) went.becomes) ∙ failed) in
    record { sent = both.0; sink = both.1 }
