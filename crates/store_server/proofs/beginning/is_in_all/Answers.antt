use Rattle.std.proofs.Common.{◌≡◌, ◌<◌, List, length, get_or, sym, ap, ◌∙◌, arith}
use Rattle.accounts.specs.Views.{account}
use Rattle.group_defs.specs.Views.{View}
use Rattle.store_server.proofs.Counted.{stays_begins, stays_ends, stays_more, stays_not}
use Rattle.store_server.proofs.beginning.is_in_all.Goals as goal

pub views-init : goal.views-init
views-init c = record { so_far = stays_begins (account c.args.reported.now); within = omega arith }

pub views-preserved : goal.views-preserved
views-preserved c =
    let lt : c.views.view-index < length c.args.reported.now.views.items = omega arith in
    let at : c.view-item.result ≡ get_or c.args.reported.now.views.items c.views.view-index c.view-item.result =
    c.view-item.is ∙ ap (λ (vs : List View). get_or vs c.views.view-index c.view-item.result) c.deref-view-items.ensures.value in
    record {
      so_far = stays_more (account c.args.reported.now) c.views.view-index c.view-item.result lt at
          (sym c.is_member.ensures ∙ c.if-not-is_member.false) c.views.invariant.so_far;
      within = omega arith;
    }

pub returns-then-not-is_member : goal.returns-then-not-is_member
returns-then-not-is_member c =
    let lt : c.views.view-index < length c.args.reported.now.views.items = omega arith in
    let at : c.view-item.result ≡ get_or c.args.reported.now.views.items c.views.view-index c.view-item.result =
    c.view-item.is ∙ ap (λ (vs : List View). get_or vs c.views.view-index c.view-item.result) c.deref-view-items.ensures.value in
    sym (stays_not (account c.args.reported.now) c.views.view-index c.view-item.result lt at
    (sym c.is_member.ensures ∙ c.if-not-is_member.true))

pub returns : goal.returns
returns c = stays_ends (account c.args.reported.now) c.views.view-index (length c.args.reported.now.views.items)
    c.views.invariant.so_far (omega arith) c.views.invariant.within
