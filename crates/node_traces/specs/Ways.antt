-- What a list of calls, each with its answer, did to one thing outside the node.
use Rattle.std.specs.Prelude.{◌≡◌, List, [], ◌∷◌, ◌++◌}
use Rattle.node_defs.specs.Nodes.{Node, Call, Answer, Snapper, run, calls}
use Rattle.node_defs.specs.Casts.{Cast}

-- what one call with its answer may do to a thing that is an X: from what it was to what it is
abbrev pub Step : Type 0 → Type 1
Step X = X → Call × Answer → X → Type 0

-- one call after the other took it from x to y
unfoldable pub Through : {X : Type 0} → Step X → X → List (Call × Answer) → X → Type 0
Through {X} R x [] y = x ≡ y
Through {X} R x (c ∷ cs) y = (between : X) × R x c between × Through R between cs y

-- ---- the law

-- a node that is given some answers and then others makes the calls of both, one after the other, and is then what both lead to
pub record GoesOn (c : Cast) (snap : Snapper) (n : Node) (first more : List Answer) : Type 0 where
  pub run_is : run c snap n (first ++ more) ≡ run c snap (run c snap n first) more
  pub calls_are : calls c snap n (first ++ more) ≡ calls c snap n first ++ calls c snap (run c snap n first) more

abbrev pub EachGoesOn : Type 0
EachGoesOn = (c : Cast) (snap : Snapper) (n : Node) (first more : List Answer) → GoesOn c snap n first more
