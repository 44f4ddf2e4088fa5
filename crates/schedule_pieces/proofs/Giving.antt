-- The next event: what is seen at the front of the bytes that wait, and what is known once it is given.
use Rattle.std.proofs.Common.{◌≡◌, ℕ, ◌+◌, ◌-◌, ◌<◌, ◌≤◌, List, [], ◌∷◌, ◌++◌, length, take, drop, Ok, Err, refl, sym, ap, subst, ◌∙◌, arith, inl, inr, length-append}
use Rattle.std.specs.Prelude.{Option, Some, None, Result, IsErr}
use Rattle.std.proofs.lemmas.List.{length-drop, length-take, drop-take}
use Rattle.byte_defs.proofs.Fields.{IsBytes}
use Rattle.replay_defs.specs.declared.FaultKind.TheVariants as faults
use Rattle.replay_defs.specs.declared.Found.{Found}
use Rattle.replay_defs.specs.declared.Fault.{Fault}
use Rattle.replay_defs.specs.Schedules.{ScheduleEvent, Header, steps_of, most_bytes}
use Rattle.replay_defs.specs.Reading.{Step, Roles, roles_of, header_at, event_at, placed, too_long, schedule_of}
use Rattle.replay_defs.specs.Pieces.{Reading, WasFed, NoneWhole, IsShort, readable, most_waiting}
use Rattle.schedule_laws.proofs.Behind.{event_shrinks}
use Rattle.schedule_laws.proofs.Pieces.{take_all, stands_next, nothing_taken, fault_of_event, fault_of_header, fault_of_length}
use Rattle.schedule_pieces.specs.declared.front.NextEvent.{NextEvent}
use Rattle.schedule_pieces.specs.declared.front.Stop.{Stop}
use Rattle.schedule_pieces.specs.declared.front.Stop.TheVariants as stops
use Rattle.schedule_pieces.specs.Fronts.{IsNext, Decides, EndsIn, BeginsSo}
use Rattle.schedule_pieces.specs.Readers.{SeesFront, given}
use Rattle.schedule_pieces.proofs.Spans.{fewer_where_short, header_within, event_within}
use Rattle.schedule_pieces.proofs.Feeding.{window_is_less}

-- ---- nothing is whole

pub no_event : (roles : Roles) (steps taken : ℕ) (waiting within : List ℕ) (found : Found) → IsBytes waiting
    → within ≡ take (most_bytes - taken) waiting → event_at roles steps within ≡ Err found
    → found.kind ≡ faults.Short → taken + length waiting ≤ most_bytes
    → IsShort (event_at roles steps waiting) × (taken + length waiting ≤ most_bytes) × (length waiting < 65551)
no_event roles steps taken waiting within found fits is read kind small =
    let all : within ≡ waiting = is ∙ take_all (most_bytes - taken) waiting (omega (arith, small)) in
    let here : event_at roles steps waiting ≡ Err found = ap (event_at roles steps) (sym all) ∙ read in
    let short : IsShort (event_at roles steps waiting) = rw here kind in
    (short, small, fewer_where_short 65551 waiting (event_at roles steps waiting) (event_within roles steps waiting fits) short)

pub few_of_header : (waiting : List ℕ) (found : Found) → IsBytes waiting → header_at waiting ≡ Err found → found.kind ≡ faults.Short
    → length waiting < 3432
few_of_header waiting found fits read kind =
    let short : IsShort (header_at waiting) = rw read kind in
    fewer_where_short 3432 waiting (header_at waiting) (header_within waiting fits) short

pub no_header : (r : Reading) (found : Found) → r.header ≡ None → r.taken ≡ 0 → length r.waiting ≤ most_waiting
    → header_at r.waiting ≡ Err found → found.kind ≡ faults.Short → length r.waiting < 3432
    → NoneWhole r.header r × (r.taken + length r.waiting ≤ most_bytes) × (length r.waiting < 65551)
no_header r found none taken few read kind less =
    let short : IsShort (header_at r.waiting) = rw read kind in
    (rw none short, omega (arith, taken, few, window_is_less), omega (arith, less))

-- ---- the input's fault

-- the header's, however the input goes on
pub header_stops : (r : Reading) (found : Found) (fault : Fault) → r.header ≡ None → length r.waiting ≤ most_waiting
    → header_at r.waiting ≡ Err found → Decides found (length r.waiting) (length r.waiting) (Some fault)
    → (fed : List ℕ) (es : List ScheduleEvent) → WasFed r fed es → (more : List ℕ) → schedule_of (fed ++ more) ≡ Err fault
header_stops r found fault none few read (inl other) fed es stands more =
    let all : r.waiting ≡ fed = (nothing_taken r fed es none stands).1 in
    let place : fault ≡ placed (length fed) found = other.1 ∙ ap (λ (t : List ℕ). placed (length t) found) all in
    fault_of_header fed found (omega (arith, few, window_is_less, ap (λ (t : List ℕ). length t) all))
    (ap header_at (sym all) ∙ read) other.0 more ∙ ap (λ (f : Fault). Err f) (sym place)
header_stops r found fault none few read (inr long) fed es stands more = absurd (omega (arith, few, window_is_less, long.1))

-- and the next event's
event_stops : (r : Reading) (h : Header) (fault : Fault) → r.header ≡ Some h
    → EndsIn (roles_of h.processes) r.steps r.taken r.waiting (readable r) fault
    → (fed : List ℕ) (es : List ScheduleEvent) → WasFed r fed es → (more : List ℕ) → schedule_of (fed ++ more) ≡ Err fault
event_stops r h fault has (found, read, inl other) fed es stands more =
    fault_of_event h r fed es found has stands read other.0 more ∙ ap (λ (f : Fault). Err f) (sym other.1)
event_stops r h fault has (found, read, inr long) fed es stands more =
    let short : IsShort (event_at (roles_of h.processes) r.steps (readable r)) = rw read long.0 in
    fault_of_length h r fed es has stands short (omega (arith, long.1, stands.size)) more ∙ ap (λ (f : Fault). Err f) (sym long.2)

-- ---- what is seen at the front

sees : (r : Reading) (h : Header) → r.header ≡ Some h → (read : Result (Option NextEvent) Stop)
    → BeginsSo (roles_of h.processes) r.steps r.taken r.waiting read → SeesFront r read
sees r h has (Ok (Some next)) begins = (h, has, begins)
sees r h has (Ok None) begins = (rw has begins.0, begins.1, begins.2)
sees r h has (Err (stops.Fault fault)) begins = event_stops r h fault has begins
sees r h has (Err stops.NoMemory) begins = tt

pub sees_event : (r : Reading) (h : Header) (of : Roles) → r.header ≡ Some h → of ≡ roles_of h.processes
    → (read : Result (Option NextEvent) Stop) → BeginsSo of r.steps r.taken r.waiting read → SeesFront r read
sees_event r h of has known read begins = sees r h has read
    (subst (λ (roles : Roles). BeginsSo roles r.steps r.taken r.waiting read) known begins)

-- ---- the event is given

pub gives_event : (r : Reading) (h : Header) (e : ScheduleEvent) (size : ℕ) → r.header ≡ Some h
    → event_at (roles_of h.processes) r.steps (readable r) ≡ Ok (e, drop size (readable r)) → size ≤ length (readable r)
    → (fed : List ℕ) (es : List ScheduleEvent) → WasFed r fed es → WasFed (given size (steps_of e) r) fed (es ++ e ∷ [])
gives_event r h e size has read within fed es stands =
    let fits = length-take (most_bytes - r.taken) r.waiting in
    let below : r.taken + size ≤ most_bytes = omega (arith, within, fits, stands.below) in
    let left : size + (most_bytes - (r.taken + size)) ≡ most_bytes - r.taken = omega (arith, below) in
    let sizes : r.taken + size + length (drop size r.waiting)
    ≡ r.taken + length r.waiting = omega (arith, within, fits, length-drop size r.waiting) in
    let rest : take (most_bytes - (r.taken + size)) (drop size r.waiting) ≡ drop size (readable r) =
    sym (drop-take size (most_bytes - (r.taken + size)) r.waiting) ∙ ap (λ (n : ℕ). drop size (take n r.waiting)) left in
    stands_next h r fed es e (drop size (readable r))
    (given size (steps_of e) r) has stands read refl stands.unstopped refl below sizes rest

-- it was some of the bytes
pub moves_on : (r : Reading) (roles : Roles) (e : ScheduleEvent) (size : ℕ)
    → event_at roles r.steps (readable r) ≡ Ok (e, drop size (readable r)) → size ≤ length (readable r)
    → length (drop size r.waiting) < length r.waiting
moves_on r roles e size read within =
    let less = event_shrinks roles r.steps (readable r) (e, drop size (readable r)) read in
    omega (arith, less, within, length-drop size (readable r), length-drop size r.waiting, length-take (most_bytes - r.taken) r.waiting)
