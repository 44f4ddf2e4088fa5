use Rattle.std.proofs.Common.{◌≡◌, ◌+◌, ◌-◌, [], false}
use Rattle.std.specs.List.{flat_map, range_with_len}
use Rattle.group_defs.specs.Sending.{place_certificates}
use Rattle.sent_claims.specs.Lists.{extended}
use Rattle.sent_claims.specs.Certificates.{all_signed}
use Rattle.sent_claims.proofs.certificates.put_places.Given as goal

abbrev pub invariant-places : goal.invariant-places
invariant-places l = record {
  way : extended false l.list (all_signed (flat_map (place_certificates l.pool.pool) (range_with_len l.next (l.place + 8 - l.next))))
      ≡ extended false l.fn.list (all_signed (flat_map (place_certificates l.pool.pool) (range_with_len l.place 8)));
  none : all_signed (flat_map (place_certificates l.pool.pool) (range_with_len l.place 8)) ≡ []
      → all_signed (flat_map (place_certificates l.pool.pool) (range_with_len l.next (l.place + 8 - l.next))) ≡ [];
}
