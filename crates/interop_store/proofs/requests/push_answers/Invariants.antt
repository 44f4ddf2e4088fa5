use Rattle.std.proofs.Common.{◌≡◌, ◌++◌, drop}
use Rattle.store_defs.specs.Stores.{store_after}
use Rattle.interop_store.specs.Telling.{answer_words, payloads_in}
use Rattle.interop_store.proofs.requests.push_answers.Given as goal

-- with those that are left, all are carried out and told
abbrev pub invariant-loop-payload : goal.invariant-loop-payload
invariant-loop-payload l = record {
  reported : l.out.items ++ answer_words l.store (payloads_in (drop l.payload-index l.payloads))
      ≡ l.fn.out.items ++ answer_words l.fn.store (payloads_in l.payloads);
  stored : store_after l.store (payloads_in (drop l.payload-index l.payloads)) ≡ store_after l.fn.store (payloads_in l.payloads);
}
