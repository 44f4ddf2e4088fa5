use Rattle.std.proofs.Common.{ℕ, Vec, Global, arith}
use Rattle.store_keys.specs.Keys.{signs}
use Rattle.store_giving.specs.Signatures.{IsSignature}
use Rattle.store_giving.proofs.Signing.{for-one, signed-so}
use Rattle.store_giving.proofs.giving.Giving.sign_state.Goals as goal

pub sign-requires-clause-fits : goal.sign-requires-clause-fits
sign-requires-clause-fits c = record {
  signer = omega arith;
  view = omega arith;
  state = c.bytes.ensures.spelled;
  signature = omega arith;
}

pub invariant_of-self-2 : goal.invariant_of-self-2
invariant_of-self-2 c = record {
  unused = λ e. absurd cc;
  used = omega (arith, c.in_ok-signature.ensures.used);
  signed = for-one
      (λ (v : Vec ℕ Global). IsSignature (signs c.sign.new.key) c.args.self.now.group c.args.self.now.me c.args.self.now.view.number
      c.args.self.now.state v.items)
      c.in_ok-signature.signature
      (signed-so (signs c.args.self.now.key) (signs c.sign.new.key) c.args.self.now.group c.args.self.now.me
      c.args.self.now.view.number c.number.result c.args.self.now.state c.in-Some.state c.bytes.result.now
      c.in_ok-signature.signature.items c.in_ok-signature.ensures.signs c.number.ensures.value c.in-Some.is c.bytes.ensures.value
      c.in_ok-signature.ensures.signed c.in_ok-signature.ensures.short);
}
