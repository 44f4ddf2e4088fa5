use Rattle.std.proofs.lemmas.Result.{err_from_is_err_and}
use Rattle.message_defs.specs.Frames.{signatures_at}
use Rattle.byte_defs.specs.Reads.{rest_of}
use Rattle.frame_codec.proofs.Loops.{signature_done, signature_fails, signatures_end}
use Rattle.frame_codec.proofs.reading.skip_signatures.Goals as goal

pub returns-in_err-signer : goal.returns-in_err-signer
returns-in_err-signer c =
    let p = err_from_is_err_and c.from_residual.result c.from_residual.ensures.1 in
    rw (p.1, p.2) (signature_fails c.in_err-signer.field-0.0 c.args.count c.loop.counter c.loop.least c.loop.rest.now
    (rest_of (signatures_at c.args.count 0 c.args.bytes.now)) c.loop-test.true c.in_err-signer.ensures c.loop.invariant)

pub loop-preserved : goal.loop-preserved
loop-preserved c = signature_done c.args.count c.loop.counter c.loop.least c.loop.rest.now _ c.in_ok-signer.after.now
    (rest_of (signatures_at c.args.count 0 c.args.bytes.now)) c.loop-test.true c.in_ok-signer.ensures c.loop.invariant

pub returns : goal.returns
returns c = signatures_end c.args.count c.loop.counter c.loop.least c.loop.rest.now
    (rest_of (signatures_at c.args.count 0 c.args.bytes.now)) c.loop-test.false c.loop.invariant
