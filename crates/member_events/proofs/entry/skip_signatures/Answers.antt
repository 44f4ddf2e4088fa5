use Rattle.stmt_codec.specs.Below.{rest_of}
use Rattle.message_defs.specs.Entries.{all_kept_at}
use Rattle.member_events.proofs.Keeping.{kept_passes, kept_fails, all_passed}
use Rattle.member_events.proofs.entry.skip_signatures.Goals as goal

pub returns-in_default : goal.returns-in_default
returns-in_default c = kept_fails c.args.count c.loop.counter c.loop.rest.now
    (rest_of (all_kept_at c.args.count c.args.bytes.now)) c.loop-test.true c.in_default.ensures c.loop.invariant

pub loop-preserved : goal.loop-preserved
loop-preserved c = kept_passes c.args.count c.loop.counter c.loop.rest.now
    (rest_of (all_kept_at c.args.count c.args.bytes.now)) _ c.in-Some.after.now c.loop-test.true c.in-Some.ensures c.loop.invariant

pub returns : goal.returns
returns c = all_passed c.args.count c.loop.counter c.loop.rest.now
    (rest_of (all_kept_at c.args.count c.args.bytes.now)) c.loop-test.false c.loop.invariant
