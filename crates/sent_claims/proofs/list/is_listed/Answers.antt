use Rattle.std.proofs.Common.{◌≡◌, sym, ap, ◌∙◌, false, true}
use Rattle.sent_claims.specs.Lists.{same_signed, lent_claim, listed_claim, IsListed}
use Rattle.sent_claims.proofs.Walks.{any-passed, any-found, all-passed}
use Rattle.sent_claims.proofs.list.is_listed.Goals as goal

pub lend-requires : goal.lend-requires
lend-requires c = (all-passed (IsListed c.args.bytes.now) c.args.listed.now c.claims.one-index c.one-item.result c.claims-test.true
    c.one-item.is c.claims.invariant.are).0

pub claims-preserved : goal.claims-preserved
claims-preserved c =
    let other : same_signed (lent_claim c.args.claim.now) (listed_claim c.args.bytes.now c.one-item.result) ≡ false =
    ap (same_signed (lent_claim c.args.claim.now)) (sym c.lend.ensures.claim) ∙ sym c.is_same.ensures ∙ c.if-is_same.false in
    record {
      same = c.claims.invariant.same ∙ any-passed (listed_claim c.args.bytes.now)
          (same_signed (lent_claim c.args.claim.now)) c.args.listed.now c.claims.one-index c.one-item.result c.claims-test.true c.one-item.is
          other;
      are = (all-passed (IsListed c.args.bytes.now) c.args.listed.now c.claims.one-index c.one-item.result c.claims-test.true c.one-item.is
          c.claims.invariant.are).1;
    }

pub returns-then-is_same : goal.returns-then-is_same
returns-then-is_same c =
    let same : same_signed (lent_claim c.args.claim.now) (listed_claim c.args.bytes.now c.one-item.result) ≡ true =
    ap (same_signed (lent_claim c.args.claim.now)) (sym c.lend.ensures.claim) ∙ sym c.is_same.ensures ∙ c.if-is_same.true in
    sym (c.claims.invariant.same ∙ any-found (listed_claim c.args.bytes.now)
    (same_signed (lent_claim c.args.claim.now)) c.args.listed.now c.claims.one-index c.one-item.result c.claims-test.true c.one-item.is
    same)
