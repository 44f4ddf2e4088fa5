use Rattle.std.proofs.Common.{arith}
use Rattle.store_defs.specs.Records.{IsReply, reply_bytes, reply_of}
use Rattle.store_laws.proofs.RecordGrammar.{reply_is_read, reply_is_spelled}
use Rattle.store_records.specs.Views.{reply}
use Rattle.store_records.proofs.Readers.{found_is_spelled, spelled_is_found}
use Rattle.store_records.proofs.reply.read_reply.Goals as goal

pub returns-clause-found : goal.returns-clause-found
returns-clause-found c = found_is_spelled reply reply_of reply_bytes IsReply reply_is_spelled c.reply_in.result c.args.bytes.now
    (λ i. omega (arith, c.type_inv.bytes i)) c.reply_in.ensures

pub returns-clause-only : goal.returns-clause-only
returns-clause-only c = λ r is spelled. spelled_is_found reply reply_of reply_bytes IsReply reply_is_read c.reply_in.result c.args.bytes.now r
    c.reply_in.ensures is spelled
