use Rattle.std.proofs.Common.{◌≡◌, ◌-◌, ◌+◌, suc, [], length, ap, ◌∙◌, arith, length-append}
use Rattle.std.proofs.lemmas.Result.{err_from_is_err_and}
use Rattle.statements.proofs.Messages.{starts, behind_at, none_there, refused_there, one_further}
use Rattle.statements.proofs.reading.messages_within.Goals as goal

-- ---- the first message

pub returns-in_err-sender : goal.returns-in_err-sender
returns-in_err-sender c =
    let p = err_from_is_err_and c.from_residual.result c.from_residual.ensures.1 in
    let left : c.args.count ≡ suc (c.args.count - 1) = omega (arith, c.requires.some) in
    rw (p.1, p.2) (starts c.args.count c.args.bytes.now c.requires.whole ∙ behind_at [] c.args.bytes.now left ∙ none_there []
    (c.args.count - 1) c.args.bytes.now _ c.in_err-sender.ensures)

pub returns-in_err-sender_within : goal.returns-in_err-sender_within
returns-in_err-sender_within c =
    let p = err_from_is_err_and c.from_residual-in_err-sender_within.result c.from_residual-in_err-sender_within.ensures.1 in
    let left : c.args.count ≡ suc (c.args.count - 1) = omega (arith, c.requires.some) in
    rw (p.1, p.2) (starts c.args.count c.args.bytes.now c.requires.whole ∙ behind_at [] c.args.bytes.now left ∙ refused_there []
    (c.args.count - 1) c.args.bytes.now _ _ _ _ c.in_ok-sender.ensures c.in_err-sender_within.ensures)

pub messages-init : goal.messages-init
messages-init c =
    let left : c.args.count ≡ suc (c.args.count - 1) = omega (arith, c.requires.some) in (
      ap length c.of-batch.ensures,
      rw c.of-batch.ensures (starts c.args.count c.args.bytes.now c.requires.whole ∙ behind_at [] c.args.bytes.now left ∙ one_further []
          (c.args.count - 1) c.args.bytes.now _ _ _ _ c.in_ok-sender.ensures c.in_ok-sender_within.ensures),
    )

-- ---- those behind it

pub returns-in_err-sender-2 : goal.returns-in_err-sender-2
returns-in_err-sender-2 c =
    let p = err_from_is_err_and c.from_residual-in_err-sender-2.result c.from_residual-in_err-sender-2.ensures.1 in
    let left : c.args.count - c.messages.counter ≡ suc (c.args.count - (c.messages.counter + 1)) = omega (arith, c.messages-test.true) in
    rw (p.1, p.2) (c.messages.invariant.1 ∙ behind_at c.messages.batch c.messages.rest.now left ∙ none_there c.messages.batch _
    c.messages.rest.now _ c.in_err-sender-2.ensures)

pub messages-preserved : goal.messages-preserved
messages-preserved c =
    let left : c.args.count - c.messages.counter ≡ suc (c.args.count - (c.messages.counter + 1)) = omega (arith, c.messages-test.true) in
    let longer = ap length c.push.ensures ∙ length-append c.messages.batch _ in (
      omega (arith, longer, c.messages.invariant.0),
      rw c.push.ensures (c.messages.invariant.1 ∙ behind_at c.messages.batch c.messages.rest.now left ∙ one_further c.messages.batch _
          c.messages.rest.now _ _ _ _ c.in_ok-sender-2.ensures c.in_ok-sender_within-2.ensures),
    )
