use Rattle.std.proofs.Common.{◌+◌, drop, map, ap, sym, ◌∙◌}
use Rattle.group_defs.specs.Process.{Pool}
use Rattle.group_defs.specs.Sending.{message_certificates}
use Rattle.statements.specs.Batches.{message_of}
use Rattle.sent_claims.specs.Lists.{extended}
use Rattle.sent_claims.specs.Certificates.{all_signed, message_certificate}
use Rattle.sent_claims.proofs.Walks.{drop-at, drop-past}
use Rattle.sent_claims.proofs.Ways.{way-next, way-end, signed-next, none-first, none-others}
use Rattle.sent_claims.proofs.certificates.put_messages.Goals as goal

pub messages-init : goal.messages-init
messages-init c =
    let h : Pool = c.args.pool.now.pool in
    record {
      way = ap (λ b. extended c.args.once c.args.list.now (all_signed (message_certificates h b))) c.messages-sender-items.ensures.list;
      none = λ e. ap (λ b. all_signed (message_certificates h b)) c.messages-sender-items.ensures.list ∙ e;
    }

pub messages-preserved : goal.messages-preserved
messages-preserved c =
    let h : Pool = c.args.pool.now.pool in
    let rest = drop (c.messages.sender-index + 1) c.messages-sender-items.result.now in
    let next = ap (λ ms. all_signed (message_certificates h (map message_of ms)))
    (drop-at c.messages-sender-items.result.now c.messages.sender-index c.messages-item.result c.messages-test.true c.messages-item.is)
    ∙ signed-next (message_certificate h) (message_of c.messages-item.result) (map message_of rest) in
    record {
      way = way-next c.args.once c.messages.list c.put_message.new.list _ _
          (all_signed (message_certificate h (message_of c.messages-item.result)))
          (all_signed (message_certificates h (map message_of rest))) next c.messages.invariant.way c.in_ok-put_message.ensures.list;
      none = λ e. none-others (all_signed (message_certificate h (message_of c.messages-item.result)))
          (all_signed (message_certificates h (map message_of rest))) (sym next ∙ c.messages.invariant.none e);
    }

pub returns-clause-list : goal.returns-clause-list
returns-clause-list c =
    let h : Pool = c.args.pool.now.pool in
    way-end c.args.once c.messages.list _ _
    (ap (λ ms. all_signed (message_certificates h (map message_of ms)))
    (drop-past c.messages-sender-items.result.now c.messages.sender-index c.messages-test.false)) c.messages.invariant.way

pub returns-in_err-put_message-clause-none : goal.returns-in_err-put_message-clause-none
returns-in_err-put_message-clause-none c = λ e.
    let h : Pool = c.args.pool.now.pool in
    let rest = drop (c.messages.sender-index + 1) c.messages-sender-items.result.now in
    let next = ap (λ ms. all_signed (message_certificates h (map message_of ms)))
    (drop-at c.messages-sender-items.result.now c.messages.sender-index c.messages-item.result c.messages-test.true c.messages-item.is)
    ∙ signed-next (message_certificate h) (message_of c.messages-item.result) (map message_of rest) in
    absurd (cc (c.in_err-put_message.ensures.none (none-first (all_signed (message_certificate h (message_of c.messages-item.result)))
    (all_signed (message_certificates h (map message_of rest))) (sym next ∙ c.messages.invariant.none e))))
