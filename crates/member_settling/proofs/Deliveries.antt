-- Delivering, place by place.
use Rattle.std.proofs.Common.{◌≡◌, ℕ, zero, suc, ◌-◌, List, ◌++◌, Option, Some, None, Bool, true, false, refl, ap}
use Rattle.std.specs.Prelude.{if◌then◌else◌}
use Rattle.group_defs.specs.Views.{is_member}
use Rattle.group_defs.specs.Process.{Process, Delivered, places_in}
use Rattle.group_defs.specs.Settle.{deliverable, deliver_more, deliver, limit}

pub no-more : (p : Process) → deliver_more 0 p ≡ p
unfolding deliver_more
no-more p = refl

pub one-more : (more : ℕ) (p : Process) (ds : List Delivered) → deliverable p ≡ Some ds
    → deliver_more (suc more) p ≡ deliver_more more (record p { delivered = p.delivered ++ ds })
unfolding deliver_more
one-more more p ds e = ap (λ (o : Option (List Delivered)). let it : Process = elim o [
  | None ↦ p
  | Some ds ↦ deliver_more more
      (record p { delivered = p.delivered ++ ds })
] in it) e

pub none-more : (more : ℕ) (p : Process) → deliverable p ≡ None → deliver_more more p ≡ p
unfolding deliver_more
none-more zero p e = refl
none-more (suc more) p e = ap (λ (o : Option (List Delivered)). let it : Process = elim o [
  | None ↦ p
  | Some ds ↦ deliver_more more
      (record p { delivered = p.delivered ++ ds })
] in it) e

-- of a member
pub member-delivers : (p : Process) → is_member p.pool.view p.me ≡ true → deliver p ≡ deliver_more (limit p - places_in p.delivered) p
member-delivers p e = ap (λ b. if b then deliver_more (limit p - places_in p.delivered) p else p) e

-- others deliver nothing
pub outsider-delivers : (p : Process) → is_member p.pool.view p.me ≡ false → deliver p ≡ p
outsider-delivers p e = ap (λ b. if b then deliver_more (limit p - places_in p.delivered) p else p) e

-- delivering leaves no view
more-left : (more : ℕ) (p : Process) → (deliver_more more p).left ≡ p.left
unfolding deliver_more
more-left zero p = refl
more-left (suc more) p = go (deliverable p) (λ ds. more-left more (record p { delivered = p.delivered ++ ds }))
  where
    go : (o : Option (List Delivered))
        → ((ds : List Delivered) → (deliver_more more (record p { delivered = p.delivered ++ ds })).left ≡ p.left)
        → (let it : Process = elim o [ None ↦ p | Some ds ↦ deliver_more more (record p { delivered = p.delivered ++ ds }) ] in it.left
        ≡ p.left)
    go None rest = refl
    go (Some ds) rest = rest ds

pub delivers-left : (p : Process) → (deliver p).left ≡ p.left
delivers-left p = go (is_member p.pool.view p.me)
  where
    go : (b : Bool) → (let it : Process = if b then deliver_more (limit p - places_in p.delivered) p else p in it.left ≡ p.left)
    go true = more-left (limit p - places_in p.delivered) p
    go false = refl
