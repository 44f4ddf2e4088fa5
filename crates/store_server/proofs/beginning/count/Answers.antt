use Rattle.std.proofs.Common.{◌≡◌, ◌<◌, ◌+◌, List, Vec, Global, length, get_or, refl, ap, ◌∙◌, arith, rules}
use Rattle.std.specs.Prelude.{min}
use Rattle.std.proofs.lemmas.Grind.{common_steps}
use Rattle.accounts.specs.Views.{account}
use Rattle.member_events.specs.declared.events.Delivered.{Delivered}
use Rattle.store_replies.specs.Words.{most_counted}
use Rattle.store_server.proofs.Counted.{count_begins, count_ends, count_more}
use Rattle.store_server.proofs.beginning.count.Goals as goal

pub views-init : goal.views-init
views-init c = record { so_far = count_begins (account c.args.reported.now) most_counted; within = omega arith }

pub views-preserved : goal.views-preserved
unfolding most_counted
views-preserved c =
    let lt : c.views.delivered-index < length c.args.reported.now.delivered.items = omega arith in
    let at : c.delivered-item.result ≡ get_or c.args.reported.now.delivered.items c.views.delivered-index c.delivered-item.result =
    c.delivered-item.is ∙ ap (λ (ds : List (Vec Delivered Global)). get_or ds c.views.delivered-index c.delivered-item.result)
    c.deref-delivered-items.ensures.value in
    record {
      so_far = count_more (account c.args.reported.now) c.args.reported.now.delivered.items c.views.delivered-index c.delivered-item.result
          most_counted c.views.total c.saturating_add-total.result refl lt at c.views.invariant.so_far
          (first_of (search rules, grind (arith, common_steps)));
      within = omega arith;
    }

pub returns : goal.returns
returns c = count_ends (account c.args.reported.now) c.views.delivered-index (length c.args.reported.now.delivered.items) most_counted
    c.views.total c.views.invariant.so_far (omega arith) c.views.invariant.within
