-- Why a node stops that ran.
use Rattle.std.specs.Prelude.{◌≡◌, ℕ, ◌+◌, ◌^◌, ◌<◌, Option, Some, None}
use Rattle.node_defs.specs.Lines.{Stop, BadKit, BadSnap, BadJournal, Full}
use Rattle.node_defs.specs.Casts.{Cast}
use Rattle.node_defs.specs.Nodes.{Node, Snapper}
use Rattle.node_traces.specs.Goes.{Outside, Goes}

-- It does not stop for its kit, its snapshot or the journal that it opened, which it has read; and it has no room only where the place after
-- the entry's next gate passes 2^30.
abbrev pub CanStop : Stop → Type 0
CanStop (BadKit fault) = ⊥
CanStop (BadSnap line) = ⊥
CanStop (BadJournal place) = ⊥
CanStop (Full whole entry) = 2 ^ 30 < whole + entry + 5
CanStop _ = Unit {0}

-- the same, where it has stopped at all
abbrev pub CanHaveStopped : Option Stop → Type 0
CanHaveStopped None = Unit {0}
CanHaveStopped (Some why) = CanStop why

-- ---- the law

-- a node that runs stops so, or goes on
abbrev pub StopsOnlySo : Type 0
StopsOnlySo = (c : Cast) (snap : Snapper) (most : ℕ) (n m : Node) (x y : Outside) → Goes c snap most n x m y → n.stopped ≡ None
    → CanHaveStopped m.stopped
