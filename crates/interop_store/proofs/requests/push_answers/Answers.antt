use Rattle.std.proofs.Common.{◌+◌, drop, sym, ◌∙◌, arith}
use Rattle.std.proofs.lemmas.List.{at_drop_all}
use Rattle.interop_store.specs.Telling.{payloads_in}
use Rattle.interop_store.proofs.Applying.{first-left, stored-more, stored-none, reported-more}
use Rattle.interop_store.proofs.requests.push_answers.Goals as goal

pub loop-payload-preserved : goal.loop-payload-preserved
loop-payload-preserved c =
    let i = c.loop-payload.payload-index in
    let first = first-left c.args.payloads.now i c.payload-item.result c.deref.result.now c.loop-payload-test.true c.payload-item.is
    c.deref.ensures.value in
    record {
      reported = reported-more c.loop-payload.store c.push_answer.new.store c.deref.result.now (payloads_in (drop i c.args.payloads.now))
          (payloads_in (drop (i + 1) c.args.payloads.now)) first c.in_ok-push_answer.ensures.store c.loop-payload.out.items
          c.push_answer.new.out.items c.in_ok-push_answer.ensures.reported ∙ c.loop-payload.invariant.reported;
      stored = stored-more c.loop-payload.store c.push_answer.new.store c.deref.result.now (payloads_in (drop i c.args.payloads.now))
          (payloads_in (drop (i + 1) c.args.payloads.now)) first c.in_ok-push_answer.ensures.store ∙ c.loop-payload.invariant.stored;
    }

pub returns-clause-store : goal.returns-clause-store
returns-clause-store c =
    let i = c.loop-payload.payload-index in
    let none = at_drop_all payloads_in c.args.payloads.now i (omega (arith, c.loop-payload-test.false)) in
    sym (stored-none c.loop-payload.store (payloads_in (drop i c.args.payloads.now)) none) ∙ c.loop-payload.invariant.stored
