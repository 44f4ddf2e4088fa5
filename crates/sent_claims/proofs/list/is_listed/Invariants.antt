use Rattle.std.proofs.Common.{◌≡◌, drop}
use Rattle.std.specs.List.{list_any}
use Rattle.sent_claims.specs.Lists.{same_signed, lent_claim, listed_claims, AreListed}
use Rattle.sent_claims.proofs.list.is_listed.Given as goal

abbrev pub invariant-claims : goal.invariant-claims
invariant-claims l = record {
  same : list_any (same_signed (lent_claim l.claim)) (listed_claims l.bytes l.listed)
      ≡ list_any (same_signed (lent_claim l.claim)) (listed_claims l.bytes (drop l.one-index l.listed));
  are : AreListed l.bytes (drop l.one-index l.listed);
}
