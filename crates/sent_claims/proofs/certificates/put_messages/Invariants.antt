use Rattle.std.proofs.Common.{◌≡◌, [], drop, map}
use Rattle.group_defs.specs.Sending.{message_certificates}
use Rattle.statements.specs.Batches.{message_of}
use Rattle.sent_claims.specs.Lists.{extended}
use Rattle.sent_claims.specs.Certificates.{all_signed}
use Rattle.sent_claims.proofs.certificates.put_messages.Given as goal

abbrev pub invariant-messages : goal.invariant-messages
invariant-messages l = record {
  way : extended l.once l.list (all_signed (message_certificates l.pool.pool (map message_of (drop l.sender-index l.sender-items))))
      ≡ extended l.once l.fn.list (all_signed (message_certificates l.pool.pool l.batch));
  none : all_signed (message_certificates l.pool.pool l.batch) ≡ []
      → all_signed (message_certificates l.pool.pool (map message_of (drop l.sender-index l.sender-items))) ≡ [];
}
