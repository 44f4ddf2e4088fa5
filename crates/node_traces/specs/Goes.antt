-- A part of a run: the answers lead from one node to another, and its calls did to the outside what they answered.
use Rattle.std.specs.Prelude.{◌≡◌, ℕ, List, ◌++◌}
use Rattle.node_defs.specs.Nodes.{Node, Answer, Snapper, call_of, answered, run, calls}
use Rattle.node_defs.specs.Casts.{Cast}
use Rattle.node_traces.specs.Outside.{LinkSeen, LinkStep, LinkAnswered, SinkSeen, SinkStep, SinkAnswered, SourceSeen, SourceStep, SourceAnswered}
use Rattle.node_traces.specs.Service.{Asked, asking, asked_by}

-- link, output and input, as they are seen at one moment, and what the service was asked and has answered up to then
pub record Outside : Type 0 where
  pub link : LinkSeen
  pub sink : SinkSeen
  pub source : SourceSeen
  pub service : List Asked

-- the same, but for the service
abbrev pub with_service : Outside → List Asked → Outside
with_service x service = record x { service = service }

-- With some answers node n becomes m, and its calls took the outside from x to y. Lines of the input have at most `most` bytes.
pub record Goes (c : Cast) (snap : Snapper) (most : ℕ) (n : Node) (x : Outside) (m : Node) (y : Outside) : Type 0 where
  pub answers : List Answer
  pub becomes : m ≡ run c snap n answers
  pub link : LinkAnswered x.link (calls c snap n answers) y.link
  pub sink : SinkAnswered x.sink (calls c snap n answers) y.sink
  pub source : SourceAnswered most x.source (calls c snap n answers) y.source
  pub service : y.service ≡ x.service ++ asked_by c snap n answers

-- the call that the node makes next has this answer, and took the outside from x to y
pub record Does (c : Cast) (most : ℕ) (n : Node) (a : Answer) (x y : Outside) : Type 0 where
  pub link : LinkStep x.link (call_of c n, a) y.link
  pub sink : SinkStep x.sink (call_of c n, a) y.sink
  pub source : SourceStep most x.source (call_of c n, a) y.source
  pub service : y.service ≡ x.service ++ asking c n.now (call_of c n) a

-- ---- the laws

-- a part of a run, and after it a part from the node that it led to, are one part
abbrev pub PartsGoOn : Type 0
PartsGoOn = (c : Cast) (snap : Snapper) (most : ℕ) (n m k : Node) (x y z : Outside) → Goes c snap most n x m y → Goes c snap most m y k z
    → Goes c snap most n x k z

-- no answer is a part, which changes nothing
abbrev pub NothingGoes : Type 0
NothingGoes = (c : Cast) (snap : Snapper) (most : ℕ) (n : Node) (x : Outside) → Goes c snap most n x n x

-- one answer is a part
abbrev pub OneAnswerGoes : Type 0
OneAnswerGoes = (c : Cast) (snap : Snapper) (most : ℕ) (n : Node) (a : Answer) (x y : Outside) → Does c most n a x y
    → Goes c snap most n x (answered c snap n a) y
