use Rattle.std.proofs.Common.{refl}
use Rattle.state_image.proofs.Lists.{list-here, list-more, lists-end, lists-rest}
use Rattle.state_image.proofs.signed.keep_before.Goals as goal

pub lists-init : goal.lists-init
lists-init c = (c.requires, refl)

pub keep_from-requires : goal.keep_from-requires
keep_from-requires c = list-here c.args.lists.now c.lists.list-index c.list-item.result c.lists-test.true c.list-item.is c.lists.invariant.0

pub lists-preserved : goal.lists-preserved
lists-preserved c = (
  lists-rest c.args.lists.now c.lists.list-index c.list-item.result c.lists-test.true c.list-item.is c.lists.invariant.0,
  list-more c.args.lists.now c.lists.list-index c.list-item.result c.lists-test.true c.list-item.is c.lists.kept.items
      c.keep_from.new.kept.items _ c.in_ok-keep_from.ensures c.lists.invariant.1,
)

pub returns : goal.returns
returns c = lists-end c.args.lists.now c.lists.list-index c.lists.kept.items _ c.lists-test.false c.lists.invariant.1
