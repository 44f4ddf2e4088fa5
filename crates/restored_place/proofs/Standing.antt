-- The own place with what was signed.
use Rattle.std.proofs.Common.{◌≡◌, ℕ, List, map, refl, sym, ap, ◌∙◌, None, []}
use Rattle.std.specs.Prelude.{min, length}
use Rattle.std.specs.List.{sum_by, list_any}
use Rattle.byte_defs.specs.Members.{has}
use Rattle.message_defs.specs.Statements.{Batch, Claim, slot_of}
use Rattle.group_defs.specs.Process.{Setting, Process}
use Rattle.group_defs.specs.Certified.{named, own_orders, is_ended}
use Rattle.pool_laws.proofs.Members.{All-mem}
use Rattle.own_place.specs.declared.own.Own.{Own}
use Rattle.own_place.specs.Owns.{HasSigned, IsOwnOf}
use Rattle.own_place.specs.Words.{report, slot_key, same_slot_key}
use Rattle.restored_place.specs.Places.{IsOwnSoFar, SignedOnce}
use Rattle.restored_place.specs.Walks.{greatest, readies, with_orders, with_slots}
use Rattle.restored_place.proofs.Gathered.{greatest-is, readies-is, orders-are}
use Rattle.restored_place.proofs.Slots.{slots-are}
use Rattle.restored_place.proofs.Ordered.{order-count, name-count}

-- what the own place notes of these claims
pub record Notes (number : ℕ) (members : List ℕ) (cs : List Claim) (orders : List Batch) (own : Own) : Type 0 where
  pub orders_are : orders ≡ with_orders number [] cs
  pub slots : own.signed.slots ≡ with_slots number [] cs
  pub greatest_is : own.rank ≡ greatest number 0 cs
  pub ready_is : report own.ready ≡ readies number None cs
  pub count : own.ordered ≡ min (length orders) 65535
  pub names : own.orders.items ≡ map (λ m. min (sum_by (λ b. named m b) orders) 65535) members

-- and what it keeps of what it was before
pub record Keeps (before after : Own) : Type 0 where
  pub number : after.me ≡ before.me
  pub position : after.position ≡ before.position
  pub keys : after.keyed ≡ before.keyed
  pub places : after.delivered ≡ before.delivered
  pub counts : after.counts ≡ before.counts
  pub earlier_is : after.earlier ≡ before.earlier

module _ (p : Process) (once : SignedOnce p) (orders : List Batch) (after : Own)
    (notes : Notes p.pool.view.number p.pool.view.members p.signed orders after) where
  are-own : orders ≡ own_orders p
  are-own = notes.orders_are ∙ orders-are p.pool.view.number [] p.signed

  pub signed-so : is_ended p ≡ after.ended → HasSigned after p
  signed-so ended = record {
    slots = λ st here. slots-are p.pool.view.number p.me p.signed (λ c m. All-mem (λ (c : Claim). c.signer ≡ p.me) p.signed c once.own m) st here
        ∙ ap (λ ks. list_any (same_slot_key (slot_key (slot_of st))) ks) (sym notes.slots);
    end = ended;
    greatest = sym (notes.greatest_is ∙ greatest-is p.pool.view.number 0 p.signed);
    last_ready = sym (notes.ready_is ∙ readies-is p.pool.view.number None p.signed);
    how_many = sym (notes.count ∙ ap (λ (bs : List Batch). min (length bs) 65535) are-own
        ∙ order-count p.pool.view.number p.signed once.ranged once.once);
    names = sym (notes.names ∙ ap (λ (bs : List Batch). map (λ m. min (sum_by (λ b. named m b) bs) 65535) p.pool.view.members) are-own
        ∙ (λ i. map (λ m. name-count p.pool.view.number p.signed once.ranged once.once m i) p.pool.view.members));
  }

  pub tells-so : (s : Setting) (before : Own) → Keeps before after → IsOwnSoFar s p before → is_ended p ≡ after.ended → IsOwnOf s p p.pool after
  tells-so s before keeps stands ended = record {
    pool = refl;
    number = stands.number ∙ sym keeps.number;
    position = stands.position ∙ sym keeps.position;
    keys = λ q. stands.keys q ∙ ap (λ ks. has ks q) (sym keeps.keys);
    signed = signed-so ended;
    delivered = record {
      places = stands.delivered.places ∙ sym keeps.places;
      counts = stands.delivered.counts ∙ ap (λ (cs : _). cs.items) (sym keeps.counts);
    };
    before = stands.before ∙ sym keeps.earlier_is;
  }
