use Rattle.std.proofs.Common.{[], refl, sym, ap, ◌∙◌, subst, length}
use Rattle.std.proofs.Math.Logic.{∥∥₁_elim}
use Rattle.std.proofs.Props.{props}
use Rattle.group_defs.specs.Views.{View}
use Rattle.own_place.specs.declared.own.Own.{Own}
use Rattle.member_state.specs.Below.{OnePlaceMore}
use Rattle.member_state.proofs.Entries.{counts-each}
use Rattle.member_settling.proofs.Delivered.{place-delivered}
use Rattle.member_settling.proofs.Marked.{delivers-stays}
use Rattle.member_settling.proofs.Real.{counts, place}
use Rattle.member_settling.proofs.delivering.deliver_place.Goals as goal

pub deliver_batch-requires-clause-counts : goal.deliver_batch-requires-clause-counts
deliver_batch-requires-clause-counts c = ∥∥₁_elim c.requires (hlevel props)
    (λ real. counts real.setting real.process c.args.state.now real.state)

pub deliver_batch-requires-clause-members : goal.deliver_batch-requires-clause-members
deliver_batch-requires-clause-members c = counts-each c.args.state.now c.requires ∙ ap (λ (v : View). length v.members) (sym c.view.ensures)

pub deliver_batch-requires-clause-place : goal.deliver_batch-requires-clause-place
deliver_batch-requires-clause-place c = ∥∥₁_elim c.requires (hlevel props)
    (λ real. place real.setting real.process c.args.state.now real.state)

pub returns-clause-delivers : goal.returns-clause-delivers
returns-clause-delivers c = λ s p ok ds next.
    place-delivered s p c.args.state.now ok ds c.args.batch.now c.deliver_batch.new.own
    (record c.args.state.now.account { delivered = c.put_batch.new.lists }) c.args.notes.now.items c.put_batch.new.notes.items next
    (subst (λ (v : View). OnePlaceMore v c.args.batch.now p.delivered c.args.state.now.own c.deliver_batch.new.own) c.view.ensures
    (c.deliver_batch.ensures p.delivered)) refl (c.in_ok-put_batch.ensures.puts ds)

pub returns-in_err-put_batch-clause-stays : goal.returns-in_err-put_batch-clause-stays
returns-in_err-put_batch-clause-stays c b was is = delivers-stays b was c.args.state.now is c.args.state.now.own
    (record c.args.state.now.account { delivered = c.put_batch.new.lists }) refl refl c.put_batch.ensures.more

pub returns-clause-stays : goal.returns-clause-stays
returns-clause-stays c b was is = delivers-stays b was c.args.state.now is c.deliver_batch.new.own
    (record c.args.state.now.account { delivered = c.put_batch.new.lists })
    (ap (λ (own : Own). own.signed.marked) (c.deliver_batch.ensures []).rest) refl c.put_batch.ensures.more
