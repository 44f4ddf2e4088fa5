-- How a node opens, call by call: which part of a run the answers to its first calls are.
use Rattle.std.specs.Prelude.{◌≡◌, ℕ, List, ◌∷◌, ◌++◌, map, Some, None}
use Rattle.node_defs.specs.Lines.{Stop, NoMemory, WriteFailed, DiskFailed, BindFailed}
use Rattle.node_defs.specs.Casts.{Cast}
use Rattle.node_defs.specs.Nodes.{Node, Opening, Bind, Greet, Serve, Finish, Serves, Said, Snapper}
use Rattle.node_traces.specs.Outside.{LinkSeen, LinkFailed, SinkSeen, SinkWrote, SinkFailed}
use Rattle.node_traces.specs.Service.{asking}
use Rattle.node_traces.specs.Goes.{Outside, Goes, with_service}

-- the node has not stopped, and this is left of its opening
pub record HasToOpen (n : Node) (left : List Opening) : Type 0 where
  pub runs : n.stopped ≡ None
  pub opening : n.opening ≡ left

-- the ports of these processes are bound
abbrev pub binds : Cast → List ℕ → List Opening
binds c ps = map (λ p. Bind (c.port p)) ps

-- the node, where this is left of its opening
abbrev pub left_to_open : Node → List Opening → Node
left_to_open n left = record n { opening = left }

-- the node, where it stops
abbrev pub stopped_by : Stop → Node → Node
stopped_by why n = record n { stopped = Some why }

abbrev pub with_link : Outside → LinkSeen → Outside
with_link x link = record x { link = link }

abbrev pub with_sink : Outside → SinkSeen → Outside
with_sink x sink = record x { sink = sink }

-- of these processes the ports of the first were bound, and the link failed at the next one
pub record FailsAtOne (ps : List ℕ) (k l : LinkSeen) : Type 0 where
  pub first : List ℕ
  pub process : ℕ
  pub others : List ℕ
  pub parts : ps ≡ first ++ process ∷ others
  pub failed : LinkFailed k l

-- some part of a run leads from node n to one that stops so, and took the outside from x to y
pub record StopsBy (c : Cast) (snap : Snapper) (most : ℕ) (n : Node) (x : Outside) (why : Stop) (y : Outside) : Type 0 where
  pub last : Node
  pub stops : last.stopped ≡ Some why
  pub goes : Goes c snap most n x last y

-- ---- the law

-- The opening of a node goes on with each answer: a bind, a greeting, the service and the finish of the journal are done, or the node stops.
-- Memory may run out at each call.
pub record EachOpens (c : Cast) (snap : Snapper) (most : ℕ) (n : Node) (x : Outside) : Type 0 where
  -- all ports of these processes were bound
  pub bound : (ps : List ℕ) (more : List Opening) → HasToOpen n (binds c ps ++ more) → Goes c snap most n x (left_to_open n more) x
  -- those of the first were, and the next one was not
  pub not_bound : (ps qs : List ℕ) (p : ℕ) (more : List Opening) (link : LinkSeen) → HasToOpen n (binds c (ps ++ p ∷ qs) ++ more)
      → LinkFailed x.link link
      → Goes c snap most n x (stopped_by BindFailed (left_to_open n (binds c (p ∷ qs) ++ more))) (with_link x link)
  pub greeted : (text : List ℕ) (more : List Opening) (sink : SinkSeen) → HasToOpen n (Greet text ∷ more) → SinkWrote x.sink sink text
      → Goes c snap most n x (left_to_open n more) (with_sink x sink)
  pub not_greeted : (text : List ℕ) (more : List Opening) (sink : SinkSeen) → HasToOpen n (Greet text ∷ more) → SinkFailed x.sink sink text
      → Goes c snap most n x (stopped_by WriteFailed n) (with_sink x sink)
  -- the service begins with this text, which is written then
  pub served : (text : List ℕ) (sends : List (ℕ × List ℕ)) (more : List Opening) → HasToOpen n (Serve ∷ more)
      → Goes c snap most n x (left_to_open n (Greet text ∷ more)) (with_service x (x.service ++ asking c n.now Serves (Said text sends)))
  pub finished : (more : List Opening) → HasToOpen n (Finish ∷ more) → Goes c snap most n x (left_to_open n more) x
  pub not_finished : (more : List Opening) → HasToOpen n (Finish ∷ more) → Goes c snap most n x (stopped_by DiskFailed n) x
  pub unremembered : n.stopped ≡ None → Goes c snap most n x (stopped_by NoMemory n) x

abbrev pub OpensInOrder : Type 0
OpensInOrder = (c : Cast) (snap : Snapper) (most : ℕ) (n : Node) (x : Outside) → EachOpens c snap most n x
