-- Which faults of the outside stop a node.
use Rattle.std.specs.Prelude.{◌≡◌, ◌≢◌, ◌⊎◌, ℕ, Option, Some, None}
use Rattle.rp_base.specs.Causes.{Rose}
use Rattle.node_defs.specs.Lines.{Stop, Ended, ReadFailed, WriteFailed, BindFailed}
use Rattle.node_defs.specs.Casts.{Cast}
use Rattle.node_defs.specs.Nodes.{Node, Snapper}
use Rattle.node_traces.specs.Outside.{AtEnd}
use Rattle.node_traces.specs.Goes.{Outside, Goes}

-- It stopped for this, and the count of faults rose; or it did not, and the count stays.
abbrev pub ByCount : Option Stop → Stop → ℕ → ℕ → Type 0
ByCount stopped why before now = ((stopped ≡ Some why) × Rose before now) ⊎ ((stopped ≢ Some why) × (now ≡ before))

-- what a node that ran has stopped for, by the counts of faults of input, output and link before and now, and by what is left of the input
pub record HasCauses (stopped : Option Stop) (x y : Outside) : Type 0 where
  pub read : ByCount stopped ReadFailed x.source.faults y.source.faults
  pub written : ByCount stopped WriteFailed x.sink.faults y.sink.faults
  -- a bind comes before all else, so no other call of the link has failed then
  pub bound : stopped ≡ Some BindFailed → Rose x.link.faults y.link.faults
  pub ended : stopped ≡ Some Ended → AtEnd y.source.left

-- it has not stopped, or for none of these faults, nor for the input's end
pub record HasNotFailed (stopped : Option Stop) : Type 0 where
  pub no_read : stopped ≢ Some ReadFailed
  pub no_write : stopped ≢ Some WriteFailed
  pub no_bind : stopped ≢ Some BindFailed
  pub no_end : stopped ≢ Some Ended

-- ---- the law

-- A part of a run ends in a node that stopped for a failed read exactly where a read failed, and for a failed write exactly where a write
-- did; where it stopped for a failed bind, the link failed; and where it stopped for the input's end, nothing is left.
abbrev pub FaultsStop : Type 0
FaultsStop = (c : Cast) (snap : Snapper) (most : ℕ) (n m : Node) (x y : Outside) → Goes c snap most n x m y → HasNotFailed n.stopped
    → HasCauses m.stopped x y
