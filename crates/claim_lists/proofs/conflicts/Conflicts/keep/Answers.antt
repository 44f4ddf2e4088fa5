use Rattle.std.proofs.Common.{◌≡◌, ◌∙◌, ◌∷◌, [], ◌++◌, ap, sym}
use Rattle.std.specs.List.{zip}
use Rattle.stmt_codec.specs.Views.{claim}
use Rattle.claim_lists.specs.Pairs.{Pairing, has_pair}
use Rattle.claim_lists.proofs.Paired.{noted-is, zip-push, paired-push, kept-before, kept-now, as-heard}
use Rattle.claim_lists.proofs.conflicts.Conflicts.keep.Goals as goal

pub returns-then-contains-clause-pairs : goal.returns-then-contains-clause-pairs
returns-then-contains-clause-pairs c =
    let noted : c.contains.result ≡ has_pair c.args.self.now.pairs c.args.other.now.signer = c.contains.ensures ∙ noted-is
    c.self.inside.heard.claims c.self.inside.others.claims c.self.inside.signers c.self.invariant.here c.args.other.now.signer ∙ ap
    (λ (r : Pairing). has_pair r.pairs c.args.other.now.signer) c.self.view_is in
    kept-before c.args.self.now.pairs (claim c.args.heard.now) (claim c.args.other.now) (sym noted ∙ c.if-contains.true)

pub returns-then-contains-clause-conflicts : goal.returns-then-contains-clause-conflicts
returns-then-contains-clause-conflicts c p same on =
    let noted : c.contains.result ≡ has_pair c.args.self.now.pairs c.args.other.now.signer = c.contains.ensures ∙ noted-is
    c.self.inside.heard.claims c.self.inside.others.claims c.self.inside.signers c.self.invariant.here c.args.other.now.signer ∙ ap
    (λ (r : Pairing). has_pair r.pairs c.args.other.now.signer) c.self.view_is in
    kept-before c.args.self.now.pairs (claim c.args.heard.now) (claim c.args.other.now) (sym noted ∙ c.if-contains.true)
    ∙ as-heard p c.args.self.now.pairs (claim c.args.heard.now) (claim c.args.other.now) same on

pub invariant_of-self : goal.invariant_of-self
invariant_of-self c =
    rw (c.push.ensures.claims, c.push-2.ensures.claims, c.push.ensures.marked, c.push-2.ensures.marked, c.insert.ensures)
    (record {
      here = paired-push c.self.inside.heard.claims c.self.inside.others.claims c.self.inside.signers (claim c.args.heard.now)
          (claim c.args.other.now) c.self.invariant.here;
      there = c.self.invariant.there;
    })

pub returns-clause-pairs : goal.returns-clause-pairs
returns-clause-pairs c =
    let noted : c.contains.result ≡ has_pair c.args.self.now.pairs c.args.other.now.signer = c.contains.ensures ∙ noted-is
    c.self.inside.heard.claims c.self.inside.others.claims c.self.inside.signers c.self.invariant.here c.args.other.now.signer ∙ ap
    (λ (r : Pairing). has_pair r.pairs c.args.other.now.signer) c.self.view_is in
    (λ i. zip (c.push.ensures.claims i) (c.push-2.ensures.claims i))
    ∙ zip-push c.self.inside.heard.claims c.self.inside.others.claims (claim c.args.heard.now)
    (claim c.args.other.now) c.self.invariant.here.even
    ∙ ap (λ (r : Pairing). r.pairs ++ (claim c.args.heard.now, claim c.args.other.now) ∷ []) c.self.view_is
    ∙ kept-now c.args.self.now.pairs (claim c.args.heard.now) (claim c.args.other.now) (sym noted ∙ c.if-contains.false)

pub returns-clause-conflicts : goal.returns-clause-conflicts
returns-clause-conflicts c p same on = returns-clause-pairs c ∙ as-heard p c.args.self.now.pairs (claim c.args.heard.now)
    (claim c.args.other.now) same on
