-- Parts of a run, each with the disk before and after it, joined.
use Rattle.std.proofs.Common.{ℕ, List, [], ◌++◌, Option, subst}
use Rattle.std.specs.Prelude.{IsSome}
use Rattle.journal_disk.specs.Disks.{LeavesOnly}
use Rattle.journal_disk.proofs.Moments.{then, weaker}
use Rattle.node_defs.specs.Lines.{Stop}
use Rattle.node_defs.specs.Nodes.{Node, Snapper}
use Rattle.node_defs.specs.Casts.{Cast}
use Rattle.node_traces.specs.Goes.{Outside, Goes}
use Rattle.node_traces.specs.Stops.{Outset, LeftFrom}
use Rattle.node_traces.specs.Went.{Went, WentToStop}
use Rattle.node_traces.proofs.Going.{parts_go_on}
use Rattle.node_traces.proofs.Left.{parts_leave}

module _ {D : Type 0} (seen : D → Option (List ℕ)) (moment : D → ℕ) (left_since : D → ℕ → List ℕ → Type 0) (c : Cast) (snap : Snapper) (most : ℕ)
    (f : Outset) where
  -- what the first part leaves, and what the second does, the whole may leave
  both-leave : (n m k : Node) (x y z : Outside) (old mid new : D) (first : Went seen moment left_since c snap most f n x old m y mid)
      (more : Goes c snap most m y k z)
      → (IsSome (seen mid) → LeavesOnly moment left_since mid new (LeftFrom c snap f m more.answers [])) → IsSome (seen old)
      → LeavesOnly moment left_since old new (LeftFrom c snap f n (first.goes.answers ++ more.answers) [])
  both-leave n m k x y z old mid new first more leaves some =
      let these = first.goes.answers in
      let those = more.answers in
      let parts = parts_leave c snap f n these those in
      then moment left_since old mid new (LeftFrom c snap f n (these ++ those) [])
      (weaker moment left_since old mid (LeftFrom c snap f n these []) (LeftFrom c snap f n (these ++ those) []) (parts.by_first [])
      (first.leaves some))
      (weaker moment left_since mid new (LeftFrom c snap f m those []) (LeftFrom c snap f n (these ++ those) [])
      (λ image left. parts.by_more [] image (subst (λ (w : Node). LeftFrom c snap f w those [] image) first.goes.becomes left))
      (leaves (first.tells some)))

  -- a part, and after it a part from the node and the disk that it led to, are one part
  pub went_on : (n m k : Node) (x y z : Outside) (old mid new : D) → Went seen moment left_since c snap most f n x old m y mid
      → Went seen moment left_since c snap most f m y mid k z new → Went seen moment left_since c snap most f n x old k z new
  unfolding parts_go_on
  went_on n m k x y z old mid new first more = record {
    goes = parts_go_on c snap most n m k x y z first.goes more.goes;
    tells = λ some. more.tells (first.tells some);
    leaves = both-leave n m k x y z old mid new first more.goes more.leaves;
  }

  -- the same, where the second part stops
  pub went_to_stop : (n m : Node) (x y z : Outside) (old mid new : D) (why : Stop) → Went seen moment left_since c snap most f n x old m y mid
      → WentToStop seen moment left_since c snap most f m y mid why z new → WentToStop seen moment left_since c snap most f n x old why z new
  unfolding parts_go_on
  went_to_stop n m x y z old mid new why first more = record {
    last = more.last;
    stops = more.stops;
    goes = parts_go_on c snap most n m more.last x y z first.goes more.goes;
    leaves = both-leave n m more.last x y z old mid new first more.goes more.leaves;
  }
