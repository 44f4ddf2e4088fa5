use Rattle.std.proofs.Common.{◌≡◌, ◌∙◌, false, length, sym, ap}
use Rattle.std.specs.Prelude.{◌&&◌}
use Rattle.group_defs.specs.Certified.{is_certified, placed}
use Rattle.slot_quorums.specs.Claims.{with_heard}
use Rattle.placed_batches.specs.Rows.{Prefix}
use Rattle.pool_values.specs.Places.{is_place_of, placed_in}
use Rattle.pool_values.proofs.PlacedLength.{same-placed}
use Rattle.pool_values.proofs.places.follow_claim.Goals as goal

pub returns-else-is_placed_at : goal.returns-else-is_placed_at
returns-else-is_placed_at c h d grown said fresh some was =
    let next : c.len.result ≡ length (placed h) = c.len.ensures ∙ ap (λ (p : Prefix). length p.batches) was in
    let not : (is_place_of (length (placed h)) d.statement && is_certified (with_heard h d) d.statement) ≡ false =
    (λ i. is_place_of (sym next i) (said i) && is_certified (sym grown i) (said i))
    ∙ sym c.is_placed_at.ensures ∙ c.if-is_placed_at.false in
    was ∙ sym (same-placed h d fresh some not) ∙ ap placed_in (sym grown)
