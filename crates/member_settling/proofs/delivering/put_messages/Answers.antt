use Rattle.std.proofs.Common.{◌≡◌, ◌∙◌, Some, refl, sym, ap, slice_get}
use Rattle.pool_laws.proofs.Places.{slice_get-index}
use Rattle.member_settling.proofs.Putting.{all-put, begins, more-both, more-same, one-put}
use Rattle.member_settling.proofs.delivering.put_messages.Goals as goal

pub messages-init : goal.messages-init
messages-init c = (
  begins c.args.pool.now.pool c.args.place c.args.messages.now c.args.delivered.now.items c.args.notes.now.items,
  more-same c.args.delivered.now.items c.args.delivered.now.items refl,
)

pub messages-preserved : goal.messages-preserved
messages-preserved c =
    let at : slice_get c.args.messages.now c.messages.message-index
    ≡ Some c.message-item.result = slice_get-index c.args.messages.now c.messages.message-index c.message-item.result c.messages-test.true
    ∙ ap Some (sym c.message-item.is) in (
      one-put c.args.pool.now.pool c.args.place c.args.messages.now c.args.delivered.now.items c.args.notes.now.items
          c.messages.message-index c.message-item.result
          c.messages.delivered.items c.put_message.new.delivered.items c.messages.notes.items c.put_message.new.notes.items at
          c.messages.invariant.0 c.in_ok-put_message.ensures.puts,
      more-both c.args.delivered.now.items c.messages.delivered.items c.put_message.new.delivered.items c.messages.invariant.1
          c.put_message.ensures.more,
    )

pub returns-in_err-put_message-clause-more : goal.returns-in_err-put_message-clause-more
returns-in_err-put_message-clause-more c = more-both c.args.delivered.now.items c.messages.delivered.items
    c.put_message.new.delivered.items c.messages.invariant.1 c.put_message.ensures.more

pub returns-clause-puts : goal.returns-clause-puts
returns-clause-puts c = all-put c.args.pool.now.pool c.args.place c.args.messages.now c.args.delivered.now.items c.args.notes.now.items
    c.messages.message-index c.messages.delivered.items c.messages.notes.items c.messages-test.false c.messages.invariant.0

pub returns-clause-more : goal.returns-clause-more
returns-clause-more c = c.messages.invariant.1
