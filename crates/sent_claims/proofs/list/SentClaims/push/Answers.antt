use Rattle.std.proofs.Common.{◌≡◌, ◌++◌, ◌∷◌, [], sym, ap, ◌∙◌, subst, length, refl, arith, List, ℕ}
use Rattle.message_defs.specs.Packing.{Signed}
use Rattle.sent_claims.specs.declared.list.Listed.{Listed}
use Rattle.sent_claims.specs.Lists.{lent_claim, AreListed}
use Rattle.sent_claims.proofs.Appended.{claims-push, are-push}
use Rattle.sent_claims.proofs.list.SentClaims.push.Goals as goal

pub returns : goal.returns
returns c =
    let bytes : c.extend_from_slice-2.new.self.items ≡ c.self.inside.bytes.items ++ c.args.claim.now.statement.now
    ++ c.args.claim.now.signature.now =
    c.in_ok-extend_from_slice-2.ensures.items ∙ ap (λ b. b ++ c.args.claim.now.signature.now) c.in_ok-extend_from_slice.ensures.items in
    let listed : Listed = record {
      signer = c.args.claim.now.signer;
      start = c.len.result;
      said = length c.args.claim.now.statement.now;
      signed = length c.args.claim.now.signature.now;
    } in
    rw (bytes, c.in_ok-push.ensures.items)
    (claims-push c.self.inside.bytes.items c.args.claim.now.statement.now c.args.claim.now.signature.now listed
    (omega arith) refl refl c.self.inside.listed.items c.self.invariant
    ∙ ap (λ (cs : List Signed). cs ++ lent_claim c.args.claim.now ∷ []) c.self.view_is)

pub invariant_of-self : goal.invariant_of-self
invariant_of-self c = subst (λ (b : List ℕ). AreListed b c.self.inside.listed.items)
    (sym c.in_err-extend_from_slice.ensures.items) c.self.invariant

pub invariant_of-self-2 : goal.invariant_of-self-2
invariant_of-self-2 c =
    let bytes : c.extend_from_slice-2.new.self.items ≡ c.self.inside.bytes.items ++ c.args.claim.now.statement.now
    ++ c.args.claim.now.signature.now =
    c.in_ok-extend_from_slice-2.ensures.items ∙ ap (λ b. b ++ c.args.claim.now.signature.now) c.in_ok-extend_from_slice.ensures.items in
    let listed : Listed = record {
      signer = c.args.claim.now.signer;
      start = c.len.result;
      said = length c.args.claim.now.statement.now;
      signed = length c.args.claim.now.signature.now;
    } in
    rw (bytes, c.in_ok-push.ensures.items)
    (are-push c.self.inside.bytes.items c.args.claim.now.statement.now c.args.claim.now.signature.now listed
    (omega arith) refl refl c.self.inside.listed.items c.self.invariant c.requires.statement c.requires.signature)
