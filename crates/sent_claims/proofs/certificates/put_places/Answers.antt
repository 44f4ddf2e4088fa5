use Rattle.std.proofs.Common.{◌≡◌, ◌+◌, ◌-◌, ◌++◌, suc, false, ap, sym, ◌∙◌, arith, List, ℕ}
use Rattle.std.specs.List.{flat_map, range_with_len}
use Rattle.message_defs.specs.Packing.{Signed}
use Rattle.group_defs.specs.Process.{Pool}
use Rattle.group_defs.specs.Sending.{place_certificates}
use Rattle.sent_claims.specs.Certificates.{all_signed}
use Rattle.sent_claims.proofs.Ways.{way-next, way-end, signed-next, none-first, none-others}
use Rattle.sent_claims.proofs.certificates.put_places.Goals as goal

-- the places from this one on
abbrev left : Pool → ℕ → ℕ → List Signed
left h next count = all_signed (flat_map (place_certificates h) (range_with_len next count))

one-more : (h : Pool) (next count less : ℕ) → count ≡ suc less
    → left h next count ≡ all_signed (place_certificates h next) ++ left h (next + 1) less
one-more h next count less e = ap (left h next) e ∙ signed-next (place_certificates h) next (range_with_len (next + 1) less)

pub places-preserved : goal.places-preserved
places-preserved c =
    let h : Pool = c.args.pool.now.pool in
    let less : ℕ = c.args.place + 8 - (c.places.next + 1) in
    let parts = one-more h c.places.next (c.args.place + 8 - c.places.next) less (omega arith) in
    record {
      way = way-next false c.places.list c.put_place.new.list _ _ (all_signed (place_certificates h c.places.next))
          (left h (c.places.next + 1) less) parts c.places.invariant.way c.in_ok-put_place.ensures.list;
      none = λ e. none-others (all_signed (place_certificates h c.places.next)) (left h (c.places.next + 1) less)
          (sym parts ∙ c.places.invariant.none e);
    }

pub returns-in_err-put_place-clause-none : goal.returns-in_err-put_place-clause-none
returns-in_err-put_place-clause-none c = λ e.
    let h : Pool = c.args.pool.now.pool in
    let less : ℕ = c.args.place + 8 - (c.places.next + 1) in
    let parts = one-more h c.places.next (c.args.place + 8 - c.places.next) less (omega arith) in
    absurd (cc (c.in_err-put_place.ensures.none (none-first (all_signed (place_certificates h c.places.next)) (left h (c.places.next + 1) less)
    (sym parts ∙ c.places.invariant.none e))))

pub returns-clause-list : goal.returns-clause-list
returns-clause-list c =
    let h : Pool = c.args.pool.now.pool in
    let none : c.args.place + 8 - c.places.next ≡ 0 = omega arith in
    way-end false c.places.list _ _ (ap (left h c.places.next) none) c.places.invariant.way
