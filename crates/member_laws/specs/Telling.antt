-- Whose place the own place is, from change to change of the process.
use Rattle.std.specs.Prelude.{◌≡◌, ℕ, ◌+◌, ◌≤◌, false, List, [], ◌∷◌, ◌++◌, length, map, None, Some}
use Rattle.message_defs.specs.Updates.{Value}
use Rattle.message_defs.specs.Statements.{Message, Batch, Claim}
use Rattle.group_defs.specs.Views.{View, next_view, rank_of}
use Rattle.group_defs.specs.Process.{Setting, Pool, Delivered, Process, delivered_from, places_in}
use Rattle.group_defs.specs.Certified.{place_at}
use Rattle.group_defs.specs.Hearing.{hear}
use Rattle.group_defs.specs.Settle.{delivery, install}
use Rattle.rule_laws.specs.Placing.{counts_in}
use Rattle.own_place.specs.declared.own.Own.{Own}
use Rattle.own_place.specs.Owns.{IsOwnOf}
use Rattle.member_laws.specs.Lawful.{IsLawful}

-- the messages of these deliveries
abbrev pub messages_of : List Delivered → List Message
messages_of ds = map (λ d. d.message) ds

-- hearing a claim changes nothing of the own place
abbrev pub HearingKeepsOwn : Type 0
HearingKeepsOwn = (s : Setting) (p : Process) (h : Pool) (own : Own) (c : Claim) → IsOwnOf s p h own → IsOwnOf s (hear s p c) (hear s p c).pool own

-- how many of each member's messages were delivered, by their list
abbrev pub DeliveredIsCounted : Type 0
DeliveredIsCounted = (v : View) (ds : List Delivered) → map (λ m. delivered_from m ds) v.members ≡ counts_in v (messages_of ds)

-- `own'` is `own` with one place more delivered, and with the messages of its batch b counted
pub record OnePlaceMore (v : View) (b : Batch) (delivered : List Delivered) (own own' : Own) : Type 0 where
  pub rest : own' ≡ record own { delivered = own.delivered + 1; counts = own'.counts }
  pub counts : own.counts.items ≡ counts_in v (messages_of delivered) → own'.counts.items ≡ counts_in v (messages_of delivered ++ b)

-- the own place of p, with the next place delivered and its messages counted, is that of p after it delivered the next place
abbrev pub DeliveringCountsOwn : Type 0
DeliveringCountsOwn = (s : Setting) (p : Process) (h : Pool) (own own' : Own) (b : Batch) (ds : List Delivered) → 1 ≤ length b
    → delivery p.pool (places_in p.delivered) b ≡ Some ds
    → OnePlaceMore p.pool.view b p.delivered own own' → IsOwnOf s p h own → IsOwnOf s (record p { delivered = p.delivered ++ ds }) h own'

-- in a view that begins nothing is signed or delivered, and the own messages that were delivered are all of earlier views
pub record Begins (v : View) (own own' : Own) (delivered : ℕ) : Type 0 where
  pub number : own'.me ≡ own.me
  pub keys : own'.keyed ≡ own.keyed
  pub position : own'.position ≡ rank_of v own.me
  pub slots : own'.signed.slots ≡ []
  pub end : own'.ended ≡ false
  pub greatest : own'.rank ≡ 0
  pub last_ready : own'.ready ≡ None
  pub how_many : own'.ordered ≡ 0
  pub names : own'.orders.items ≡ counts_in v []
  pub places : own'.delivered ≡ 0
  pub counts : own'.counts.items ≡ counts_in v []
  pub before : own'.earlier ≡ own.earlier + delivered

-- an own place that begins in the next view is that of p after it installed the next view
abbrev pub InstallingBeginsOwn : Type 0
InstallingBeginsOwn = (s : Setting) (p : Process) (h : Pool) (own own' : Own) (d : ℕ × Value) → IsLawful p
    → Begins (next_view p.pool.view d.1.update) own own' (delivered_from p.me p.delivered)
    → IsOwnOf s p h own → IsOwnOf s (install d p) (record { view = next_view p.pool.view d.1.update; heard = [] }) own'
