-- Parts of a script, one after the other.
use Rattle.std.proofs.Common.{◌≡◌, ℕ, ◌+◌, List, [], Option, refl, sym, subst, ◌∙◌, add-zero, arith}
use Rattle.node_defs.specs.Casts.{Cast}
use Rattle.node_defs.specs.Nodes.{Node, Snapper}
use Rattle.node_traces.specs.Stops.{Outset}
use Rattle.node_traces.specs.Goes.{Outside}
use Rattle.node_traces.specs.Went.{Went}
use Rattle.node_traces.proofs.Going.{nothing_goes}
use Rattle.node_traces.proofs.Went.{went_on}
use Rattle.node_snapping.specs.Hosts.{Running, IsNode, cast_in}
use Rattle.node_snapping.specs.Taking.{GoesOnTo}
use Rattle.node_snapping.proofs.Handed.{still}
use Rattle.node_script.specs.Ends.{ReadsOn}

module _ {D : Type 0} (seen : D → Option (List ℕ)) (may_leave : D → List ℕ → Type 0) (moment : D → ℕ)
    (left_since : D → ℕ → List ℕ → Type 0) (only_now : (d : D) (image : List ℕ) → left_since d (moment d) image → may_leave d image)
    (snaps : Cast → Snapper) (most : ℕ) (f : Outset) where
  -- before the first line
  pub none-read : (r : Running) (n : Node) (x : Outside) (d : D) → IsNode f (seen d) (may_leave d) r n []
      → ReadsOn seen may_leave moment left_since (cast_in r) (snaps (cast_in r)) most f n x d 0 x d r
  none-read r n x d is = record {
    node = n;
    went = still seen may_leave moment left_since only_now (cast_in r) (snaps (cast_in r)) most f n n x x d is.at.opened is.journal.rest
        (nothing_goes (cast_in r) (snaps (cast_in r)) most n x);
    is = is;
    cast = refl;
    lines = sym (add-zero n.lines);
    script = sym (add-zero n.script);
  }

  module _ (c : Cast) (n : Node) (x y z : Outside) (old mid new : D) where
    -- a line that was read, and carried out
    pub carried-on : (m : Node) (r : Running) → Went seen moment left_since c (snaps c) most f n x old m y mid → m.lines ≡ n.lines + 1
        → m.script ≡ n.script + 1 → GoesOnTo seen may_leave moment left_since c (snaps c) most f m y mid [] z new r
        → ReadsOn seen may_leave moment left_since c (snaps c) most f n x old 1 z new r
    carried-on m r went lines script on = record {
      node = on.node;
      went = went_on seen moment left_since c (snaps c) most f n m on.node x y z old mid new went on.went;
      is = on.is;
      cast = on.cast;
      lines = on.lines ∙ lines;
      script = on.script ∙ script;
    }

    -- more lines
    pub reads-more : (r s : Running) (count more : ℕ) (first : ReadsOn seen may_leave moment left_since c (snaps c) most f n x old count y mid r)
        → ReadsOn seen may_leave moment left_since (cast_in r) (snaps (cast_in r)) most f first.node y mid more z new s
        → ReadsOn seen may_leave moment left_since c (snaps c) most f n x old (count + more) z new s
    reads-more r s count more first next =
        let went = subst (λ (k : Cast). Went seen moment left_since k (snaps k) most f first.node y mid next.node z new) first.cast next.went in
        record {
          node = next.node;
          went = went_on seen moment left_since c (snaps c) most f n first.node next.node x y z old mid new first.went went;
          is = next.is;
          cast = next.cast ∙ first.cast;
          lines = omega (arith, next.lines, first.lines);
          script = omega (arith, next.script, first.script);
        }
