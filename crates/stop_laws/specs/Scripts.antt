-- A script that a node carries out.
use Rattle.std.specs.Prelude.{◌≡◌, ◌≢◌, ℕ, suc, ◌+◌, ◌≤◌, List, [], Some, None}
use Rattle.input_defs.specs.Lines.{line_within}
use Rattle.node_defs.specs.Scripts.{Line, Of, Snap, Other, line_said, most_lines}
use Rattle.node_defs.specs.Lines.{BadLine}
use Rattle.node_defs.specs.Casts.{Cast}
use Rattle.node_defs.specs.Nodes.{Node, Snapper}
use Rattle.node_traces.specs.Goes.{Outside, Goes}

-- the line asks for a snapshot, or a hosted process for something in the node's own words; it is not for the service
abbrev pub IsOwnLine : Line → Type 0
IsOwnLine Snap = Unit {0}
IsOwnLine (Of p said) = said ≢ Other

-- The bytes are so many lines at most and nothing after them, each of at most so many bytes, and each in the node's own words.
pub data IsScript (most : ℕ) (hosted : List ℕ) : ℕ → List ℕ → Type 0 where
  over : (room : ℕ) → IsScript most hosted room []
  begins : (room : ℕ) (bytes first rest : List ℕ) (said : Line) → line_within most bytes ≡ Some (first, rest)
      → line_said hosted first ≡ Some said → IsOwnLine said → IsScript most hosted room rest → IsScript most hosted (suc room) bytes

-- it has not stopped at a line
abbrev pub CarriesOut : Node → Type 0
CarriesOut n = (number : ℕ) → n.stopped ≢ Some (BadLine number)

-- ---- the law

-- a node that has nothing to do, and whose input is a script of no more lines than it may read, stops at none of them
abbrev pub ScriptIsCarriedOut : Type 0
ScriptIsCarriedOut = (c : Cast) (snap : Snapper) (most : ℕ) (n m : Node) (x y : Outside) (room : ℕ) (bytes : List ℕ) → Goes c snap most n x m y
    → n.stopped ≡ None → n.tasks ≡ [] → n.script + room ≤ most_lines → x.source.left ≡ Some bytes → IsScript most c.hosted room bytes
    → CarriesOut m
