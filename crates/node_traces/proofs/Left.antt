-- What a part of a run leaves, the whole may leave.
use Rattle.std.proofs.Common.{List, ◌++◌, sym, ap, subst, append_assoc, ◌∙◌}
use Rattle.group_defs.specs.Accounts.{IsPrefixOf}
use Rattle.journal_defs.specs.Crashes.{IsImageOf}
use Rattle.pool_laws.proofs.Places.{prefix-more}
use Rattle.node_defs.specs.Nodes.{Node, Answer}
use Rattle.node_defs.specs.Lives.{with_or_without, leaves}
use Rattle.node_traces.specs.Stops.{PartsLeave}
use Rattle.node_traces.proofs.Joined.{each_goes_on}

-- a front of the second part, after the first
front-after : (xs ys zs : List Answer) → IsPrefixOf ys zs → IsPrefixOf (xs ++ ys) (xs ++ zs)
front-after xs ys zs front = (front.0, append_assoc xs ys front.0 ∙ ap (λ ws. xs ++ ws) front.1)

pub parts_leave : PartsLeave
parts_leave c snap f n first more = record {
  by_first = λ before image left. record {
    front = left.front;
    fronts = prefix-more left.front first more left.fronts;
    with_more = left.with_more;
    reads = left.reads;
  };
  by_more = λ before image left. record {
    front = first ++ left.front;
    fronts = front-after first left.front more left.fronts;
    with_more = left.with_more;
    reads = subst (λ (m : Node). IsImageOf f.head image (before ++ with_or_without (leaves c f.found m) left.with_more))
        (sym (each_goes_on c snap n first left.front).run_is) left.reads;
  };
}
