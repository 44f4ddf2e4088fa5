-- The process's own place in its view.
use Rattle.std.specs.Prelude.{◌≡◌, ℕ, map, length}
use Rattle.byte_defs.specs.Members.{has}
use Rattle.message_defs.specs.Statements.{Statement, slot_of, view_of}
use Rattle.group_defs.specs.Views.{rank_of}
use Rattle.group_defs.specs.Process.{Setting, Pool, Process, keyed, delivered_from, places_in, earlier}
use Rattle.group_defs.specs.Certified.{named, messages, is_signed, is_ended, own_orders, own_rank, own_ready}
use Rattle.claim_index.specs.Statements.{report}
use Rattle.own_place.specs.declared.own.Own.{Own}
use Rattle.own_place.specs.Signed.{has_slot}

-- `own` has how many places the process has delivered, and how many messages of each member, in rank order
pub record HasDelivered (own : Own) (p : Process) : Type 0 where
  pub places : places_in p.delivered ≡ own.delivered
  pub counts : map (λ m. delivered_from m p.delivered) p.pool.view.members ≡ own.counts.items

-- the process has signed so much in its view
pub record HasSigned (own : Own) (p : Process) : Type 0 where
  pub slots : (st : Statement) → view_of st ≡ p.pool.view.number → is_signed p (slot_of st) ≡ has_slot own.signed (slot_of st)
  pub end : is_ended p ≡ own.ended
  pub greatest : own_rank p ≡ own.rank
  pub last_ready : own_ready p ≡ report own.ready
  pub how_many : length (own_orders p) ≡ own.ordered
  pub names : map (λ m. named m (messages (own_orders p))) p.pool.view.members ≡ own.orders.items

-- the place is that of this process, whose pool this is, in this setting
pub record IsOwnOf (s : Setting) (p : Process) (h : Pool) (own : Own) : Type 0 where
  pub pool : p.pool ≡ h
  pub number : p.me ≡ own.me
  pub position : rank_of p.pool.view p.me ≡ own.position
  pub keys : (q : ℕ) → has (keyed s) q ≡ has own.keyed q
  pub signed : HasSigned own p
  pub delivered : HasDelivered own p
  pub before : earlier p ≡ own.earlier
