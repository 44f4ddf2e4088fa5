-- The own place at a mark.
use Rattle.std.specs.Prelude.{◌≡◌}
use Rattle.own_place.specs.declared.own.Own.{Own}
use Rattle.own_place.specs.declared.own.OwnMark.{OwnMark}

-- the mark keeps this place, but for the slots that were signed
pub record IsMarkOf (m : OwnMark) (own : Own) : Type 0 where
  pub number : m.me ≡ own.me
  pub position : m.position ≡ own.position
  pub keys : m.keyed ≡ own.keyed
  pub end : m.ended ≡ own.ended
  pub greatest : m.rank ≡ own.rank
  pub last_ready : m.ready ≡ own.ready
  pub how_many : m.ordered ≡ own.ordered
  pub names : m.orders.items ≡ own.orders.items
  pub places : m.delivered ≡ own.delivered
  pub counts : m.counts.items ≡ own.counts.items
  pub before : m.earlier ≡ own.earlier

-- both are one place, whatever room they have
pub record IsSamePlace (own own' : Own) : Type 0 where
  pub number : own'.me ≡ own.me
  pub position : own'.position ≡ own.position
  pub keys : own'.keyed ≡ own.keyed
  pub slots : own'.signed.slots ≡ own.signed.slots
  pub end : own'.ended ≡ own.ended
  pub greatest : own'.rank ≡ own.rank
  pub last_ready : own'.ready ≡ own.ready
  pub how_many : own'.ordered ≡ own.ordered
  pub names : own'.orders.items ≡ own.orders.items
  pub places : own'.delivered ≡ own.delivered
  pub counts : own'.counts.items ≡ own.counts.items
  pub before : own'.earlier ≡ own.earlier
