-- Settling: deciding, delivering, and leaving the view.
-- Names here (* for this crate alone):
--   phases: Phase, phase_of
--   deciding: decided_at, decided_by, decide
--   delivering: limit, delivery, deliverable, deliver_more, deliver
--   leaving: install, leave_by, leave, settle
use Rattle.std.specs.Prelude.{ℕ, zero, suc, ◌-◌, nat_lt, ◌==◌, List, [], ◌∷◌, ◌++◌, if◌then◌else◌, Option, Some, None, is_some, not, unwrap_or, option_map, option_and_then}
use Rattle.std.specs.List.{range_with_len}
use Rattle.std.specs.Option.{option_or, option_map_or}
use Rattle.message_defs.specs.Below.{first_some, first_that_holds}
use Rattle.message_defs.specs.Updates.{Value}
use Rattle.group_defs.specs.Views.{is_member, is_possible, next_view}
use Rattle.message_defs.specs.Statements.{Batch, Ready, ReadyAt}
use Rattle.group_defs.specs.Process.{Setting, Pool, Delivered, Process, keyed, places_in}
use Rattle.group_defs.specs.Certified.{value_at, place_at, payload_at, fixed_length, certificate, number_of_members, is_ended}

-- ---- phases

-- how far a process is in its view
pub data Phase : Type 0 where
  Observing : Phase
  OpenView : Phase
  ClosingView : Phase
  DecidedView : Phase
  HaltedView : Phase

-- the first that holds: halted, decided, observing as one who is no member, closing after the own End; else the view is open
abbrev pub phase_of : Process → Phase
phase_of p = unwrap_or (first_that_holds (
    (p.halted, HaltedView)
    ∷ (is_some p.decision, DecidedView)
    ∷ (not (is_member p.pool.view p.me), Observing)
    ∷ (is_ended p, ClosingView)
    ∷ [])) OpenView

-- ---- deciding

-- the certified Ready value of a rank, where its update is possible
abbrev pub decided_at : Setting → Pool → ℕ → Option (ℕ × Value)
decided_at s h r = option_and_then (λ v. if is_possible (keyed s) h.view v.update then Some (r, v) else None)
    (value_at h (ReadyAt h.view.number r))

-- of the certified Ready values whose update is possible, the one of the least rank
abbrev pub decided_by : Setting → Pool → Option (ℕ × Value)
decided_by s h = first_some (decided_at s h) (range_with_len 0 (number_of_members h))

-- an undecided view is decided, where some rank decides
abbrev pub decide : Setting → Process → Process
decide s p = record p { decision = option_or p.decision (decided_by s p.pool) }

-- ---- delivering

-- how many places may be delivered in the view: the cut where it is decided, else one more than the greatest kept place, else 0
abbrev pub limit : Process → ℕ
limit p = option_map_or (λ d. d.1.cut) p.decision (fixed_length p.pool)

-- what place k delivers by this batch: each message with its payload, in order, where all of them are certified
abbrev pub delivery : Pool → ℕ → Batch → Option (List Delivered)
delivery h k [] = Some []
delivery h k (m ∷ ms) = option_and_then
    (λ payload. option_map (λ ds. record { place = k; message = m; payload = payload } ∷ ds) (delivery h k ms)) (payload_at h m)

-- what the next place delivers, where it is certified and its messages are
abbrev pub deliverable : Process → Option (List Delivered)
deliverable p = option_and_then (delivery p.pool (places_in p.delivered)) (place_at p.pool (places_in p.delivered))

-- at most this many places more, each of them whole
unfoldable pub deliver_more : ℕ → Process → Process
deliver_more zero p = p
deliver_more (suc more) p = elim (deliverable p) [
  | None ↦ p
  | Some ds ↦ deliver_more more (record p { delivered = p.delivered ++ ds })
]

-- a member delivers up to the limit, as far as places and their messages are certified; others deliver nothing
abbrev pub deliver : Process → Process
deliver p = if is_member p.pool.view p.me then deliver_more (limit p - places_in p.delivered) p else p

-- ---- leaving

-- the next view is installed; of the one before it the claims, the deliveries and the commit certificate are kept
abbrev pub install : ℕ × Value → Process → Process
install d p = record p {
  left = p.left ++ record { view = p.pool.view; delivered = p.delivered; commit = certificate p.pool (Ready p.pool.view.number d.0 d.1) }
      ∷ [];
  previous = Some p.pool;
  pool = record { view = next_view p.pool.view d.1.update; heard = [] };
  delivered = [];
  decision = None;
}

-- a member waits for the whole cut, and halts beyond it
abbrev pub leave_by : ℕ × Value → Process → Process
leave_by d p =
    if is_member p.pool.view p.me then
    (if places_in p.delivered == d.1.cut then install d p else record p { halted = nat_lt d.1.cut (places_in p.delivered) })
    else install d p

-- a decided view is left
abbrev pub leave : Process → Process
leave p = elim p.decision [ None ↦ p | Some d ↦ leave_by d p ]

-- the view is decided, then what may be delivered is, and then the view is left
unfoldable pub settle : Setting → Process → Process
settle s p = leave (deliver (decide s p))
