use Rattle.std.proofs.Common.{ℕ, List, ◌++◌, ap, ◌∙◌, arith}
use Rattle.store_defs.specs.Records.{state_bytes}
use Rattle.store_giving.specs.Given.{signed_record}
use Rattle.store_giving.specs.Signatures.{record_with}
use Rattle.store_giving.proofs.Signing.{kept-short, record-so}
use Rattle.store_giving.proofs.Telling.{given-reported, on-ok}
use Rattle.store_giving.proofs.giving.Giving.push_given.Goals as goal

pub push_state-requires : goal.push_state-requires
push_state-requires c = record {
  signer = omega arith;
  view = omega arith;
  state = c.bytes.ensures.spelled;
  signature = kept-short c.args.self.now c.number.result c.in-Some.state c.in-Some-signature.signature c.bytes.result.now
      c.deref.result.now c.number.ensures.value c.in-Some.is c.bytes.ensures.value c.in-Some-signature.is c.deref.ensures.value;
}

pub returns-clause-given : goal.returns-clause-given
returns-clause-given c = on-ok c.push_hex_line.result
    (given-reported c.args.self.now.me (signed_record c.args.self.now) c.deref-2.result.now c.args.out.now.items c.push_hex_line.new.out.items
    (c.deref-2.ensures.value ∙ c.in_ok-push_state.ensures.pushed
    ∙ ap (λ (b : List ℕ). b ++ state_bytes (record_with c.args.self.now.me c.number.result c.bytes.result.now c.deref.result.now))
    c.new-record.ensures.items
    ∙ ap state_bytes (record-so c.args.self.now c.number.result c.in-Some.state c.in-Some-signature.signature c.bytes.result.now
    c.deref.result.now c.number.ensures.value c.in-Some.is c.bytes.ensures.value c.in-Some-signature.is c.deref.ensures.value)))
    c.push_hex_line.ensures.pushed
