-- How a node reads its script, line by line: which part of a run the answer to a read is.
-- Names here (* for this crate alone):
--   HasToDo, StopsWith, with_line, with_source*, IsNoLine
--   the laws: EachReads, ReadsInOrder*, EachAsks*, AsksTheOutside*, AsksHosted, LinesAskHosted*
use Rattle.std.specs.Prelude.{◌≡◌, ◌≢◌, ◌⊎◌, ℕ, ◌+◌, ◌≤◌, List, [], ◌∷◌, ◌++◌, Some, None, IsTrue}
use Rattle.std.specs.Str.{is_utf8}
use Rattle.byte_defs.specs.Members.{has}
use Rattle.node_defs.specs.Scripts.{Line, Of, Receive, Other, Said, line_said, most_lines}
use Rattle.node_defs.specs.Lines.{Stop, Ended, NoMemory, ReadFailed, BadLine}
use Rattle.node_defs.specs.Casts.{Cast}
use Rattle.node_defs.specs.Nodes as nodes
use Rattle.node_defs.specs.Nodes.{Node, Task, Say, Flush, Word, Words, Mark, Marks, Done, Snapper, call_of, post_tasks, tasks_of_line}
use Rattle.node_traces.specs.Outside.{SourceSeen, SourceTook, SourceBroke, SourceEnded, SourceFailed}
use Rattle.node_traces.specs.Service.{asking}
use Rattle.node_traces.specs.Goes.{Outside, Goes, with_service}

-- the node runs, its opening is over, and this is left of what it read
pub record HasToDo (n : Node) (ts : List Task) : Type 0 where
  pub runs : n.stopped ≡ None
  pub opened : n.opening ≡ []
  pub leaving : n.leaving ≡ []
  pub tasks : n.tasks ≡ ts

-- some part of a run leads from node n to one that stops so and keeps the same entries, and took the outside from x to y
pub record StopsWith (c : Cast) (snap : Snapper) (most : ℕ) (n : Node) (x : Outside) (why : Stop) (y : Outside) : Type 0 where
  pub last : Node
  pub stops : last.stopped ≡ Some why
  pub kept : last.kept ≡ n.kept
  pub goes : Goes c snap most n x last y

-- the node, which has read one line more and has this to do
abbrev pub with_line : Node → List Task → Node
with_line n tasks = record n { lines = n.lines + 1; script = n.script + 1; tasks = tasks }

abbrev pub with_source : Outside → SourceSeen → Outside
with_source x source = record x { source = source }

-- the script goes on with no such line: it is none of the script, whatever the service, or 1,000,000 lines came before it
abbrev pub IsNoLine : Cast → Node → List ℕ → Type 0
IsNoLine c n line = (n.script ≡ most_lines) ⊎ (line_said c.hosted line ≡ None)

-- ---- the laws

-- The answer to a read leads a node on or stops it.
pub record EachReads (c : Cast) (snap : Snapper) (most : ℕ) (n : Node) (x : Outside) : Type 0 where
  -- a line of the script came
  pub took : (line : List ℕ) (said : Line) (source : SourceSeen) → SourceTook most x.source source line → n.script ≢ most_lines
      → line_said c.hosted line ≡ Some said → Goes c snap most n x (with_line n (tasks_of_line line said)) (with_source x source)
  -- another line came
  pub refused : (line : List ℕ) (source : SourceSeen) → SourceTook most x.source source line → IsNoLine c n line
      → StopsWith c snap most n x (BadLine (n.lines + 1)) (with_source x source)
  pub broken : (source : SourceSeen) → SourceBroke most x.source source → StopsWith c snap most n x (BadLine (n.lines + 1)) (with_source x source)
  pub ended : (source : SourceSeen) → SourceEnded x.source source → StopsWith c snap most n x Ended (with_source x source)
  pub failed : (source : SourceSeen) → SourceFailed x.source source → StopsWith c snap most n x ReadFailed (with_source x source)
  pub unremembered : StopsWith c snap most n x NoMemory x

abbrev pub ReadsInOrder : Type 0
ReadsInOrder = (c : Cast) (snap : Snapper) (most : ℕ) (n : Node) (x : Outside) → HasToDo n [] → EachReads c snap most n x

-- A node that asks its service for a line stops, where the service has none; else it writes what the service says, posts what it sends, and
-- writes the lines of failed sends. One that is asked for a snapshot asks for the journal's digest.
pub record EachAsks (c : Cast) (snap : Snapper) (most : ℕ) (n : Node) (x : Outside) : Type 0 where
  pub refused : (p : ℕ) (line : List ℕ) (ts : List Task) → HasToDo n (Word p line ∷ ts)
      → StopsWith c snap most n x (BadLine n.lines) (with_service x (x.service ++ asking c n.now (Words p line) Done))
  pub said : (p : ℕ) (line : List ℕ) (ts : List Task) (text : List ℕ) (sends : List (ℕ × List ℕ)) → HasToDo n (Word p line ∷ ts)
      → Goes c snap most n x (record n { tasks = Say text ∷ ((post_tasks p sends ++ Flush ∷ []) ++ ts) })
      (with_service x (x.service ++ asking c n.now (Words p line) (nodes.Said text sends)))
  pub marks : (ts : List Task) → HasToDo n (Mark ∷ ts) → call_of c n ≡ Marks

abbrev pub AsksTheOutside : Type 0
AsksTheOutside = (c : Cast) (snap : Snapper) (most : ℕ) (n : Node) (x : Outside) → EachAsks c snap most n x

-- what a line asks of a process, it asks of one that is hosted; it asks for 1 to 1,000 datagrams; and a line for the service is text
pub record AsksHosted (hosted line : List ℕ) (p : ℕ) (said : Said) : Type 0 where
  pub is_hosted : IsTrue (has hosted p)
  pub some : (most : ℕ) → said ≡ Receive most → (1 ≤ most) × (most ≤ 1000)
  pub text : said ≡ Other → IsTrue (is_utf8 line)

abbrev pub LinesAskHosted : Type 0
LinesAskHosted = (hosted line : List ℕ) (p : ℕ) (said : Said) → line_said hosted line ≡ Some (Of p said) → AsksHosted hosted line p said
