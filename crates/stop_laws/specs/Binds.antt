-- A node that stops for a port that is not to be had.
use Rattle.std.specs.Prelude.{◌≡◌, ℕ, List, [], ◌∷◌, ◌++◌, Some, None}
use Rattle.node_defs.specs.Lines.{BindFailed}
use Rattle.node_defs.specs.Casts.{Cast}
use Rattle.node_defs.specs.Nodes.{Node, Opening, Bind, Snapper}
use Rattle.node_traces.specs.Goes.{Outside, Goes}
use Rattle.opening_laws.specs.Opening.{binds}

-- no port is to be bound
abbrev pub BindsNone : List Opening → Type 0
BindsNone [] = Unit {0}
BindsNone (Bind port ∷ os) = ⊥
BindsNone (o ∷ os) = BindsNone os

-- nothing was sent and nothing written
pub record IsSilent (x y : Outside) : Type 0 where
  pub sent : y.link.sent ≡ x.link.sent
  pub sink : y.sink ≡ x.sink

-- ---- the law

-- a node that binds its ports before all else, and stops for one of them, has sent and written nothing
abbrev pub BindsFirst : Type 0
BindsFirst = (c : Cast) (snap : Snapper) (most : ℕ) (n m : Node) (x y : Outside) (ps : List ℕ) (more : List Opening) → Goes c snap most n x m y
    → n.stopped ≡ None → n.opening ≡ binds c ps ++ more → BindsNone more → m.stopped ≡ Some BindFailed → IsSilent x y
