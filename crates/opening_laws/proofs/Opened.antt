-- The first calls of a node, and what it is after their answers.
use Rattle.std.proofs.Common.{◌≡◌, ℕ, List, [], ◌∷◌, ◌++◌, map, Option, Some, None, refl, sym, ap, subst, append_assoc, ◌∙◌}
use Rattle.std.proofs.lemmas.List.{map-append, append-nil}
use Rattle.node_defs.specs.Lines.{Stop, BindFailed}
use Rattle.node_defs.specs.Casts.{Cast}
use Rattle.node_defs.specs.Nodes.{Node, Opening, Bind, Greet, Serve, Finish, Call, Binds, Rests, Answer, Done, Failed, Unremembered, Said, Snapper, call_of, call_of_opening, opening_call, opened_one, by_opening, by_answer, unless_stopped, answered}
use Rattle.node_traces.specs.Outside.{LinkSeen, LinkFailed, LinkStep, SinkStep, SourceStep}
use Rattle.node_traces.specs.Service.{asking}
use Rattle.node_traces.specs.Goes.{Outside, Goes, Does}
use Rattle.node_traces.proofs.Going.{parts_go_on, nothing_goes, one_answer_goes}
use Rattle.opening_laws.specs.Opening.{HasToOpen, binds, left_to_open, stopped_by, with_link, EachOpens, OpensInOrder}

-- ---- one call

-- what a node that runs is after an answer
answered-runs : (c : Cast) (snap : Snapper) (n : Node) (a : Answer) → n.stopped ≡ None → answered c snap n a ≡ by_answer c snap n a
unfolding answered
answered-runs c snap n a runs = ap (unless_stopped c snap n a) runs

-- what it calls
call-is : (c : Cast) (n : Node) (o : Opening) (os : List Opening) → HasToOpen n (o ∷ os) → call_of c n ≡ opening_call o
unfolding call_of
call-is c n o os has =
    ap (λ (s : Option Stop). elim s as (λ _. Call) [ Some why ↦ Rests | None ↦ call_of_opening c n n.opening ]) has.runs
    ∙ ap (call_of_opening c n) has.opening

-- one answer to a call of the opening that is no want of memory
one-opens : (c : Cast) (snap : Snapper) (most : ℕ) (n : Node) (o : Opening) (os : List Opening) (a : Answer) (x y : Outside)
    → HasToOpen n (o ∷ os) → by_answer c snap n a ≡ by_opening c snap n a n.opening
    → LinkStep x.link (opening_call o, a) y.link → SinkStep x.sink (opening_call o, a) y.sink
    → SourceStep most x.source (opening_call o, a) y.source → y.service ≡ x.service ++ asking c n.now (opening_call o) a
    → Goes c snap most n x (opened_one n os o a) y
one-opens c snap most n o os a x y has fits link sink source service =
    let made : call_of c n ≡ opening_call o = call-is c n o os has in
    let is : answered c snap n a ≡ opened_one n os o a
    = answered-runs c snap n a has.runs ∙ fits ∙ ap (by_opening c snap n a) has.opening in
    let does : Does c most n a x y = record {
      link = subst (λ (call : Call). LinkStep x.link (call, a) y.link) (sym made) link;
      sink = subst (λ (call : Call). SinkStep x.sink (call, a) y.sink) (sym made) sink;
      source = subst (λ (call : Call). SourceStep most x.source (call, a) y.source) (sym made) source;
      service = subst (λ (call : Call). y.service ≡ x.service ++ asking c n.now call a) (sym made) service;
    } in
    subst (λ (m : Node). Goes c snap most n x m y) is (one_answer_goes c snap most n a x y does)

-- ---- want of memory

unremembered-link : (k : LinkSeen) (call : Call) → LinkStep k (call, Unremembered) k
unremembered-link k (Binds port) = refl
unremembered-link k _ = refl

unremembered-sink : (x : Outside) (call : Call) → SinkStep x.sink (call, Unremembered) x.sink
unremembered-sink x (Binds port) = refl
unremembered-sink x _ = refl

unremembered-source : (most : ℕ) (x : Outside) (call : Call) → SourceStep most x.source (call, Unremembered) x.source
unremembered-source most x (Binds port) = refl
unremembered-source most x _ = refl

unremembered-goes : (c : Cast) (snap : Snapper) (most : ℕ) (n : Node) (x : Outside) → n.stopped ≡ None
    → Goes c snap most n x (answered c snap n Unremembered) x
unremembered-goes c snap most n x runs = one_answer_goes c snap most n Unremembered x x (record {
  link = unremembered-link x.link (call_of c n);
  sink = unremembered-sink x (call_of c n);
  source = unremembered-source most x (call_of c n);
  service = sym (append-nil x.service);
})

-- ---- binds

one-bound : (c : Cast) (snap : Snapper) (most : ℕ) (n : Node) (x : Outside) (port : ℕ) (os : List Opening)
    → HasToOpen n (Bind port ∷ os) → Goes c snap most n x (left_to_open n os) x
one-bound c snap most n x port os has = one-opens c snap most n (Bind port) os Done x x has refl refl refl refl (sym (append-nil x.service))

all-bound : (c : Cast) (snap : Snapper) (most : ℕ) (n : Node) (x : Outside) (ps : List ℕ) (more : List Opening)
    → HasToOpen n (binds c ps ++ more) → Goes c snap most n x (left_to_open n more) x
all-bound c snap most n x [] more has = subst (λ (os : List Opening). Goes c snap most n x (left_to_open n os) x) has.opening
    (nothing_goes c snap most n x)
all-bound c snap most n x (p ∷ ps) more has =
    let next = left_to_open n (binds c ps ++ more) in
    parts_go_on c snap most n next (left_to_open n more) x x x
    (one-bound c snap most n x (c.port p) (binds c ps ++ more) has)
    (all-bound c snap most next x ps more (record { runs = has.runs; opening = refl }))

one-not-bound : (c : Cast) (snap : Snapper) (most : ℕ) (n : Node) (x : Outside) (port : ℕ) (os : List Opening) (link : LinkSeen)
    → HasToOpen n (Bind port ∷ os) → LinkFailed x.link link → Goes c snap most n x (stopped_by BindFailed n) (with_link x link)
one-not-bound c snap most n x port os link has failed =
    one-opens c snap most n (Bind port) os Failed x (with_link x link) has refl failed refl refl (sym (append-nil x.service))

-- the binds of the first, and those of the others
binds-split : (c : Cast) (ps qs : List ℕ) (more : List Opening) → binds c (ps ++ qs) ++ more ≡ binds c ps ++ (binds c qs ++ more)
binds-split c ps qs more = ap (λ os. os ++ more) (map-append (λ p. Bind (c.port p)) ps qs) ∙ append_assoc (binds c ps) (binds c qs) more

one-of-them-not-bound : (c : Cast) (snap : Snapper) (most : ℕ) (n : Node) (x : Outside) (ps qs : List ℕ) (p : ℕ) (more : List Opening)
    (link : LinkSeen) → HasToOpen n (binds c (ps ++ p ∷ qs) ++ more) → LinkFailed x.link link
    → Goes c snap most n x (stopped_by BindFailed (left_to_open n (binds c (p ∷ qs) ++ more))) (with_link x link)
one-of-them-not-bound c snap most n x ps qs p more link has failed =
    let next = left_to_open n (binds c (p ∷ qs) ++ more) in
    parts_go_on c snap most n next (stopped_by BindFailed next) x x (with_link x link)
    (all-bound c snap most n x ps (binds c (p ∷ qs) ++ more)
    (record { runs = has.runs; opening = has.opening ∙ binds-split c ps (p ∷ qs) more }))
    (one-not-bound c snap most next x (c.port p) (binds c qs ++ more) link (record { runs = has.runs; opening = refl }) failed)

-- ---- the law

pub opens_in_order : OpensInOrder
opens_in_order c snap most n x = record {
  bound = all-bound c snap most n x;
  not_bound = one-of-them-not-bound c snap most n x;
  greeted = λ text more sink has wrote. one-opens c snap most n (Greet text) more Done x _ has refl refl wrote refl (sym (append-nil x.service));
  not_greeted = λ text more sink has failed. one-opens c snap most n (Greet text) more Failed x _ has refl refl failed refl (sym (append-nil x.service));
  served = λ text sends more has. one-opens c snap most n Serve more (Said text sends) x _ has refl refl refl refl refl;
  finished = λ more has. one-opens c snap most n Finish more Done x x has refl refl refl refl (sym (append-nil x.service));
  not_finished = λ more has. one-opens c snap most n Finish more Failed x x has refl refl refl refl (sym (append-nil x.service));
  unremembered = λ runs. subst (λ (m : Node). Goes c snap most n x m x) (answered-runs c snap n Unremembered runs)
      (unremembered-goes c snap most n x runs);
}
