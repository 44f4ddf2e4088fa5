use Rattle.std.proofs.Common.{◌≡◌, ◌<◌, length, sym, ap, ◌∙◌, arith, rules}
use Rattle.std.proofs.lemmas.Grind.{common_steps}
use Rattle.store_server.proofs.Counted.{carried_begins, carried_ends, carried_more}
use Rattle.store_server.proofs.beginning.store_after_all.Goals as goal

pub views-init : goal.views-init
views-init c = record { so_far = c.new-store.ensures ∙ carried_begins c.args.lists.now; within = omega arith }

pub views-preserved : goal.views-preserved
views-preserved c =
    let lt : c.views.delivered-index < length c.args.lists.now = omega arith in
    record {
      so_far = carried_more c.args.lists.now c.views.delivered-index c.delivered-item.result c.views.store _ lt c.delivered-item.is
          c.views.invariant.so_far (first_of (search rules, grind (arith, common_steps)));
      within = omega arith;
    }

pub returns : goal.returns
returns c = carried_ends c.args.lists.now c.views.delivered-index (length c.args.lists.now) c.views.store
    c.views.invariant.so_far (omega arith) c.views.invariant.within
