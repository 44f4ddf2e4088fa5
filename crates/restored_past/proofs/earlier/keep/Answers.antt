use Rattle.std.proofs.Common.{subst}
use Rattle.group_defs.specs.Views.{IsView}
use Rattle.group_defs.specs.Process.{Pool}
use Rattle.rp_base.specs.Views.{value}
use Rattle.restored_past.proofs.Certain.{value_certain}
use Rattle.restored_past.proofs.earlier.keep.Goals as goal

pub keep_view-requires-clause-certified : goal.keep_view-requires-clause-certified
keep_view-requires-clause-certified c =
    let h : Pool = c.args.pool.now.pool in
    let view : IsView h.view = subst IsView c.view-current.ensures c.members-members.ensures.within.1 in
    value_certain h view c.args.left.now.rank (value c.args.left.now.value) (c.is_certified.ensures.0 c.if-not-is_certified.false)
