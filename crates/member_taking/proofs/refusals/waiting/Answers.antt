use Rattle.std.proofs.Common.{◌∙◌, sym, ap, subst, arith, length}
use Rattle.std.specs.Prelude.{IsTrue}
use Rattle.group_defs.specs.Views as views
use Rattle.group_defs.specs.Process.{delivered_from}
use Rattle.group_defs.specs.Accounts.{Account}
use Rattle.member_state.proofs.Entries.{counts-each}
use Rattle.member_taking.proofs.refusals.waiting.Goals as goal

pub counts_of-requires : goal.counts_of-requires
counts_of-requires c = counts-each c.args.state.now c.requires.real

pub returns : goal.returns
returns c s p is member =
    let delivered = c.counts_of.ensures.member
    (subst IsTrue (λ i. views.is_member (is.place.pool i).view (is.place.number i)) member) p is.place.delivered is.place.pool ∙ ap
    (λ m. delivered_from m p.delivered) (sym is.place.number) in
    let accepted = ap (λ (a : Account). length a.accepted) is.account in
    omega (arith, delivered, accepted, is.place.before, c.saturating_sub.ensures, c.len.ensures)
