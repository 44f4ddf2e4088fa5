-- However an input is cut, what is read of it in pieces is what is read of the whole.
use Rattle.std.proofs.Common.{◌≡◌, ℕ, zero, suc, ◌+◌, ◌-◌, ◌<◌, ◌≤◌, true, ltb, List, [], ◌∷◌, ◌++◌, length, take, Result, Ok, Err, refl, sym, ap, subst, ◌∙◌, append_assoc, arith, inl, inr}
use Rattle.std.specs.Prelude.{Option, Some, None, IsErr}
use Rattle.std.proofs.lemmas.Bool.{lt-ltb, cases_lt}
use Rattle.std.proofs.lemmas.List.{append-nil, length-append, length-take}
use Rattle.byte_defs.specs.Fields.{◌>>=◌}
use Rattle.replay_defs.specs.declared.FaultKind.{FaultKind}
use Rattle.replay_defs.specs.declared.FaultKind.TheVariants as faults
use Rattle.replay_defs.specs.declared.Found.{Found}
use Rattle.replay_defs.specs.declared.Fault.{Fault}
use Rattle.replay_defs.specs.Schedules.{ScheduleEvent, Header, Schedule, steps_of, most_steps, most_bytes}
use Rattle.replay_defs.specs.Reading.{Step, Roles, roles_of, byte_that, tag_at, header_at, event_at, whole_of, placed, placed_past_limit, whole_input, cut_input, too_long, schedule_of}
use Rattle.replay_defs.specs.Pieces.{Reading, AreRead, within_limit, readable, HasGiven, WasFed, IsShort, NoneWhole, IsWhole}
use Rattle.schedule_laws.specs.Laws.{ReadingIgnoresRest, FaultIsFinal, EndIsWhole}
use Rattle.schedule_laws.proofs.Steps.{Goes, later}
use Rattle.schedule_laws.proofs.Wholes.{within_is}
use Rattle.schedule_laws.proofs.Behind.{header_stable, event_stable}
use Rattle.schedule_laws.proofs.Turns.{behind_events, none_before, all_from, one_more, no_more, all_read}

-- ---- events one after another

-- a step that gave a value gives it at a longer input
ok_goes : {A : Type 0} (bytes more : List ℕ) (short longer : Step A) (x : A) (rest : List ℕ) → short ≡ Ok (x, rest)
    → Goes bytes more short longer → longer ≡ Ok (x, rest ++ more)
ok_goes {A} bytes more short longer x rest e goes = let g : Goes bytes more (let there : Step A = Ok (x, rest) in there) longer = subst
    (λ (s : Step A). Goes bytes more s longer) e goes in g.0

pub read_more : (roles : Roles) (left : ℕ) (bytes more : List ℕ) (es : List ScheduleEvent) (steps : ℕ) (rest : List ℕ)
    → AreRead roles left bytes es steps rest → AreRead roles left (bytes ++ more) es steps (rest ++ more)
read_more roles left bytes more [] steps rest r = (r.0, ap (λ (t : List ℕ). t ++ more) r.1)
read_more roles left bytes more (e ∷ es) steps rest r = (
  r.0 ++ more,
  ok_goes bytes more (event_at roles left bytes)
      (event_at roles left (bytes ++ more)) e r.0 r.1 (event_stable roles left bytes more),
  read_more roles (left - steps_of e) r.0 more es steps rest r.2,
)

pub read_next : (roles : Roles) (left : ℕ) (bytes : List ℕ) (es : List ScheduleEvent) (steps : ℕ) (rest : List ℕ) (e : ScheduleEvent)
    (after : List ℕ)
    → AreRead roles left bytes es steps rest → event_at roles steps rest ≡ Ok (e, after)
    → AreRead roles left bytes (es ++ e ∷ []) (steps - steps_of e) after
read_next roles left bytes [] steps rest e after r next =
    (after, rw (r.0, r.1) next, (ap (λ (n : ℕ). n - steps_of e) r.0, refl))
read_next roles left bytes (d ∷ es) steps rest e after r next = (
  r.0,
  r.1,
  read_next roles (left - steps_of d) r.0 es steps rest e after r.2 next,
)

-- all of them, and those that are still read
pub read_all : (roles : Roles) (left : ℕ) (bytes : List ℕ) (before es : List ScheduleEvent) (steps : ℕ) (rest : List ℕ)
    → AreRead roles left bytes es steps rest
    → behind_events before (all_from roles left bytes) ≡ behind_events (before ++ es) (all_from roles steps rest)
read_all roles left bytes before [] steps rest r = rw (r.0, r.1, append-nil before) refl
read_all roles left bytes before (e ∷ es) steps rest r =
    one_more roles left bytes before e r.0 r.1
    ∙ read_all roles (left - steps_of e) r.0 (before ++ e ∷ []) es steps rest r.2
    ∙ ap (λ (all : List ScheduleEvent). behind_events all (all_from roles steps rest)) (append_assoc before (e ∷ []) es)

-- ---- the limit

-- as much of the further bytes as is read
abbrev readable_more : List ℕ → List ℕ → List ℕ
readable_more fed more = take (most_bytes - length fed) more

take_append : {A : Type 0} (n : ℕ) (xs ys : List A) → take n (xs ++ ys) ≡ take n xs ++ take (n - length xs) ys
take_append zero xs ys = let e : 0 - length xs ≡ 0 = omega arith in rw e refl
take_append (suc n) [] ys = let e : suc n - 0 ≡ suc n = omega arith in rw e refl
take_append (suc n) (x ∷ xs) ys = let e : suc n - suc (length xs)
    ≡ n - length xs = omega arith in rw e (ap (λ t. x ∷ t) (take_append n xs ys))

pub take_all : {A : Type 0} (n : ℕ) (xs : List A) → length xs ≤ n → take n xs ≡ xs
take_all zero [] le = refl
take_all (suc n) [] le = refl
take_all zero (x ∷ xs) le = absurd (omega arith)
take_all (suc n) (x ∷ xs) le = ap (λ t. x ∷ t) (take_all n xs (omega arith))

within_more : (fed more : List ℕ) → within_limit (fed ++ more) ≡ within_limit fed ++ readable_more fed more
within_more fed more = take_append most_bytes fed more

readable_fed : (taken : ℕ) (waiting fed more : List ℕ) → taken + length waiting ≡ length fed
    → take (most_bytes - taken) (waiting ++ more) ≡ take (most_bytes - taken) waiting ++ readable_more fed more
readable_fed taken waiting fed more size =
    let same : most_bytes - taken - length waiting ≡ most_bytes - length fed = omega (arith, size) in
    take_append (most_bytes - taken) waiting more ∙ ap (λ (n : ℕ). take (most_bytes - taken) waiting ++ take n more) same

-- ---- what stands, and what is fed

-- the events were read of a header's input
abbrev HasRead : Header → Reading → List ℕ → List ScheduleEvent → Type 0
HasRead h r fed es = (first : List ℕ) × (header_at (within_limit fed) ≡ Ok (h, first))
    × AreRead (roles_of h.processes) most_steps first es r.steps (readable r)

read_fed : (h : Header) (r : Reading) (fed more : List ℕ) (es : List ScheduleEvent) → r.taken + length r.waiting ≡ length fed
    → HasRead h r fed es
    → HasRead h (record r { waiting = r.waiting ++ more }) (fed ++ more) es
read_fed h r fed more es size read =
    let further : List ℕ = readable_more fed more in
    let head : header_at (within_limit (fed ++ more)) ≡ Ok (h, read.0 ++ further) =
    ap header_at (within_more fed more) ∙ ok_goes (within_limit fed) further (header_at (within_limit fed))
    (header_at (within_limit fed ++ further)) h read.0 read.1 (header_stable (within_limit fed) further) in
    let events = read_more (roles_of h.processes) most_steps read.0 further es r.steps (readable r) read.2 in (
      read.0 ++ further,
      head,
      subst (λ (rest : List ℕ). AreRead (roles_of h.processes) most_steps (read.0 ++ further) es r.steps rest)
          (sym (readable_fed r.taken r.waiting fed more size)) events,
    )

-- with a header a piece joins those that wait
pub fed_more : (h : Header) (r : Reading) (fed more : List ℕ) (es : List ScheduleEvent) → r.header ≡ Some h → WasFed r fed es
    → WasFed (record r { waiting = r.waiting ++ more }) (fed ++ more) es
fed_more h r fed more es has stands =
    let given : HasRead h r fed es = subst (λ (o : Option Header). HasGiven o r fed es) has stands.given in
    let longer : Reading = record r { waiting = r.waiting ++ more } in
    record {
      unstopped = stands.unstopped;
      size = omega (arith, length-append r.waiting more, length-append fed more, stands.size);
      below = stands.below;
      given = subst (λ (o : Option Header). HasGiven o longer (fed ++ more) es) (sym has) (read_fed h r fed more es stands.size given);
    }

-- without one all bytes wait
pub nothing_taken : (r : Reading) (fed : List ℕ) (es : List ScheduleEvent) → r.header ≡ None → WasFed r fed es
    → (es ≡ []) × (r.waiting ≡ fed) × (r.steps ≡ most_steps) × IsErr (header_at fed)
nothing_taken r fed es none stands = subst (λ (o : Option Header). HasGiven o r fed es) none stands.given

-- the header is not whole yet
pub fed_before : (r : Reading) → r.header ≡ None → r.fault ≡ None → r.taken ≡ 0 → r.steps ≡ most_steps → IsErr (header_at r.waiting)
    → WasFed r r.waiting []
fed_before r none going taken steps partial = record {
  unstopped = going;
  size = omega (arith, taken);
  below = omega (arith, taken);
  given = subst (λ (o : Option Header). HasGiven o r r.waiting []) (sym none) (refl, refl, steps, partial);
}

-- the header became whole
pub fed_after : (h : Header) (r : Reading) (fed : List ℕ) → r.header ≡ Some h → r.fault ≡ None → r.steps ≡ most_steps
    → length fed ≤ most_bytes → header_at fed ≡ Ok (h, r.waiting) → r.taken + length r.waiting ≡ length fed → WasFed r fed []
fed_after h r fed has going steps small read size =
    let within : within_limit fed ≡ fed = take_all most_bytes fed small in
    let all : r.waiting ≡ readable r = sym (take_all (most_bytes - r.taken) r.waiting (omega (arith, size, small))) in
    let given : HasRead h r fed [] = (r.waiting, ap header_at within ∙ read, (sym steps, all)) in
    record {
      unstopped = going;
      size = size;
      below = omega (arith, size, small);
      given = subst (λ (o : Option Header). HasGiven o r fed []) (sym has) given;
    }

-- ---- the next event

-- it is given
pub stands_next : (h : Header) (r : Reading) (fed : List ℕ) (es : List ScheduleEvent) (e : ScheduleEvent) (after : List ℕ) (s : Reading)
    → r.header ≡ Some h → WasFed r fed es
    → event_at (roles_of h.processes) r.steps (readable r) ≡ Ok (e, after)
    → s.header ≡ r.header → s.fault ≡ None → s.steps ≡ r.steps - steps_of e → s.taken ≤ most_bytes
    → s.taken + length s.waiting ≡ r.taken + length r.waiting → readable s ≡ after → WasFed s fed (es ++ e ∷ [])
stands_next h r fed es e after s has stands next same going steps below size rest =
    let given : HasRead h r fed es = subst (λ (o : Option Header). HasGiven o r fed es) has stands.given in
    let events = read_next (roles_of h.processes) most_steps given.0 es r.steps (readable r) e after given.2 next in
    let moved : AreRead (roles_of h.processes) most_steps given.0 (es ++ e ∷ []) s.steps (readable s) =
    rw (steps, rest) events in
    let now : HasRead h s fed (es ++ e ∷ []) = (given.0, given.1, moved) in
    record {
      unstopped = going;
      size = size ∙ stands.size;
      below = below;
      given = subst (λ (o : Option Header). HasGiven o s fed (es ++ e ∷ [])) (sym (same ∙ has)) now;
    }

-- ---- the whole

-- the input's events up to the limit, behind those that were given
abbrev from_given : Header → List ScheduleEvent → Result (List ScheduleEvent) Found → Result Schedule Found
from_given h es read = behind_events es read >>= λ all. Ok (record { header = h; events = all })

whole_behind : (bytes : List ℕ) (h : Header) (first : List ℕ) → header_at bytes ≡ Ok (h, first)
    → whole_of bytes ≡ from_given h [] (all_from (roles_of h.processes) most_steps first)
unfolding whole_of
whole_behind bytes h first read = rw (read, none_before (all_from (roles_of h.processes) most_steps first)) refl

pub whole_given : (h : Header) (r : Reading) (fed : List ℕ) (es : List ScheduleEvent) → HasRead h r fed es
    → whole_of (within_limit fed) ≡ from_given h es (all_from (roles_of h.processes) r.steps (readable r))
whole_given h r fed es read =
    whole_behind (within_limit fed) h read.0 read.1
    ∙ ap (λ (all : Result (List ScheduleEvent) Found). all >>= λ events. Ok (record { header = h; events = events }))
    (read_all (roles_of h.processes) most_steps read.0 [] es r.steps (readable r) read.2)

-- ---- the fault of an input, however it goes on

-- no field was cut off
abbrev pub IsOther : FaultKind → Type 0
IsOther kind = kind ≡ faults.Short → ⊥

-- the step of a longer input has the same fault, where no field was cut off
err_goes : {A : Type 0} (bytes more : List ℕ) (short longer : Step A) (found : Found) → short ≡ Err found → IsOther found.kind
    → Goes bytes more short longer → longer ≡ Err (later more found)
err_goes {A} bytes more short longer found e other goes =
    let g : Goes bytes more (let here : Step A = Err found in here) longer = subst (λ (s : Step A). Goes bytes more s longer) e goes in
    elim g [ inl cut ↦ absurd (other cut) | inr same ↦ same ]

event_none : (roles : Roles) (left : ℕ) → IsShort (event_at roles left [])
unfolding event_at tag_at byte_that
event_none roles left = refl

-- where the next event has another fault, something is left
some_left : (roles : Roles) (left : ℕ) (bytes : List ℕ) (found : Found) → event_at roles left bytes ≡ Err found → IsOther found.kind
    → 1 ≤ length bytes
some_left roles left [] found e other =
    let s : IsShort (let here : Step ScheduleEvent = Err found in here) = subst (λ (read : Step ScheduleEvent). IsShort read) e
    (event_none roles left) in
    absurd (other s)
some_left roles left (b ∷ bytes) found e other = omega arith

pub placed_past : (kind : FaultKind) (fault : Fault) → IsOther kind → placed_past_limit kind fault ≡ fault
placed_past faults.Short fault other = absurd (other refl)
placed_past faults.Magic fault other = refl
placed_past faults.Scheme fault other = refl
placed_past faults.Roster fault other = refl
placed_past faults.Key fault other = refl
placed_past faults.Tag fault other = refl
placed_past faults.Field fault other = refl
placed_past faults.TooLong fault other = refl
placed_past faults.TooMany fault other = refl

-- past the limit what is within it decides
pub cut_is : (bytes : List ℕ) → most_bytes < length bytes → schedule_of bytes ≡ cut_input (whole_of (within_limit bytes))
unfolding schedule_of
cut_is bytes lt = let long : ltb most_bytes (length bytes) ≡ true = lt-ltb _ _ lt in rw long refl

within_length : (bytes : List ℕ)
    → (length bytes ≤ most_bytes → length (within_limit bytes) ≡ length bytes)
    × (most_bytes < length bytes → length (within_limit bytes) ≡ most_bytes)
within_length bytes = (λ le. omega (arith, length-take most_bytes bytes), λ lt. omega (arith, length-take most_bytes bytes))

-- a fault within the limit that is no cut field is that of the input
fault_within : (bytes : List ℕ) (found : Found) (place : ℕ) → IsOther found.kind → whole_of (within_limit bytes) ≡ Err found
    → place ≡ length (within_limit bytes) - found.left
    → schedule_of bytes ≡ Err (record { kind = found.kind; place = place })
fault_within bytes found place other e at =
    elim (cases_lt most_bytes (length bytes)) [
      | inl lt ↦
          let size : length (within_limit bytes) ≡ most_bytes = (within_length bytes).1 lt in
          cut_is bytes lt ∙ ap cut_input e
          ∙ ap (λ (f : Fault). Err f) (placed_past found.kind (placed most_bytes found) other ∙ ap
          (λ (n : ℕ). record { kind = found.kind; place = n }) (ap (λ (n : ℕ). n - found.left) (sym size) ∙ sym at))
      | inr le ↦
          let all : within_limit bytes ≡ bytes = take_all most_bytes bytes le in
          let size : length bytes - found.left ≡ place = ap (λ (t : List ℕ). length t - found.left) (sym all) ∙ sym at in
          within_is bytes le ∙ ap (whole_input (length bytes))
          (ap whole_of (sym all) ∙ e) ∙ ap (λ (n : ℕ). Err (record { kind = found.kind; place = n })) size
    ]

readable_length : (r : Reading) (fed : List ℕ) → r.taken + length r.waiting ≡ length fed → r.taken ≤ most_bytes
    → r.taken + length (readable r) ≡ length (within_limit fed)
readable_length r fed size below =
    elim (cases_lt most_bytes (length fed)) [
      | inl lt ↦ omega (arith, size, below, (within_length fed).1 lt, length-take (most_bytes - r.taken) r.waiting)
      | inr le ↦ omega (arith, size, below, (within_length fed).0 le, length-take (most_bytes - r.taken) r.waiting)
    ]

-- the next event's fault is the input's, however it goes on
pub fault_of_event : (h : Header) (r : Reading) (fed : List ℕ) (es : List ScheduleEvent) (found : Found) → r.header ≡ Some h
    → WasFed r fed es
    → event_at (roles_of h.processes) r.steps (readable r) ≡ Err found → IsOther found.kind
    → (more : List ℕ) → schedule_of (fed ++ more) ≡ Err (record { kind = found.kind; place = r.taken + length (readable r) - found.left })
fault_of_event h r fed es found has stands next other more =
    let roles : Roles = roles_of h.processes in
    let given : HasRead h r fed es = subst (λ (o : Option Header). HasGiven o r fed es) has stands.given in
    let further : List ℕ = readable_more fed more in
    let longer : Reading = record r { waiting = r.waiting ++ more } in
    let read = read_fed h r fed more es stands.size given in
    let rest : readable longer ≡ readable r ++ further = readable_fed r.taken r.waiting fed more stands.size in
    let fails : event_at roles r.steps (readable longer) ≡ Err (later further found) =
    ap (event_at roles r.steps) rest ∙ err_goes (readable r) further (event_at roles r.steps (readable r))
    (event_at roles r.steps (readable r ++ further)) found next other (event_stable roles r.steps (readable r) further) in
    let some : 1 ≤ length (readable longer) = some_left roles r.steps (readable longer) (later further found) fails other in
    let whole : whole_of (within_limit (fed ++ more)) ≡ Err (later further found) =
    whole_given h longer (fed ++ more) es read
    ∙ ap (λ (all : Result (List ScheduleEvent) Found). all >>= λ events. Ok (record { header = h; events = events }))
    (no_more roles r.steps (readable longer) es (later further found) some fails) in
    let sizes = readable_length longer (fed ++ more)
    (omega (arith, stands.size, length-append r.waiting more, length-append fed more)) stands.below in
    let parts : length (readable longer)
    ≡ length (readable r) + length further = ap (λ (t : List ℕ). length t) rest ∙ length-append (readable r) further in
    fault_within (fed ++ more) (later further found) (r.taken + length (readable r) - found.left) other whole (omega (arith, sizes, parts))

-- and so is the header's
pub fault_of_header : (fed : List ℕ) (found : Found) → length fed ≤ most_bytes → header_at fed ≡ Err found → IsOther found.kind
    → (more : List ℕ) → schedule_of (fed ++ more) ≡ Err (record { kind = found.kind; place = length fed - found.left })
unfolding whole_of
fault_of_header fed found small e other more =
    let further : List ℕ = readable_more fed more in
    let within : within_limit (fed ++ more) ≡ fed
    ++ further = within_more fed more ∙ ap (λ (t : List ℕ). t ++ further) (take_all most_bytes fed small) in
    let fails : header_at (within_limit (fed ++ more)) ≡ Err (later further found) =
    ap header_at within ∙ err_goes fed further (header_at fed) (header_at (fed ++ further)) found e other (header_stable fed further) in
    let whole : whole_of (within_limit (fed ++ more)) ≡ Err (later further found) = rw fails refl in
    let size : length (within_limit (fed ++ more))
    ≡ length fed + length further = ap (λ (t : List ℕ). length t) within ∙ length-append fed further in
    fault_within (fed ++ more) (later further found) (length fed - found.left) other whole (omega (arith, size))

-- ---- bytes past the limit

-- where reading ends within a field, or behind the last event, and more bytes follow, they are too long
cut_given : (h : Header) (roles : Roles) (steps : ℕ) (es : List ScheduleEvent) (rest : List ℕ) (read : Step ScheduleEvent)
    → event_at roles steps rest ≡ read → IsShort read
    → cut_input (from_given h es (all_from roles steps rest)) ≡ Err too_long
cut_given h roles steps es [] read e short = ap
    (λ (all : Result (List ScheduleEvent) Found). cut_input (all >>= λ events. Ok (record { header = h; events = events })))
    (all_read roles steps [] es refl)
cut_given h roles steps es (b ∷ rest) (Ok x) e short = absurd short
cut_given h roles steps es (b ∷ rest) (Err found) e short =
    ap (λ (all : Result (List ScheduleEvent) Found). cut_input (all >>= λ events. Ok (record { header = h; events = events })))
    (no_more roles steps (b ∷ rest) es found (omega arith) e)
    ∙ ap (λ (kind : FaultKind). Err (placed_past_limit kind (placed most_bytes found))) short

pub fault_of_length : (h : Header) (r : Reading) (fed : List ℕ) (es : List ScheduleEvent) → r.header ≡ Some h → WasFed r fed es
    → IsShort (event_at (roles_of h.processes) r.steps (readable r)) → most_bytes < length fed
    → (more : List ℕ) → schedule_of (fed ++ more) ≡ Err too_long
fault_of_length h r fed es has stands short long more =
    let given : HasRead h r fed es = subst (λ (o : Option Header). HasGiven o r fed es) has stands.given in
    let none : most_bytes - length fed ≡ 0 = omega (arith, long) in
    let same : within_limit (fed ++ more)
    ≡ within_limit fed = within_more fed more ∙ ap (λ (n : ℕ). within_limit fed ++ take n more) none ∙ append-nil (within_limit fed) in
    cut_is (fed ++ more) (omega (arith, long, length-append fed more))
    ∙ ap cut_input (ap whole_of same ∙ whole_given h r fed es given)
    ∙ cut_given h (roles_of h.processes) r.steps es (readable r) (event_at (roles_of h.processes) r.steps (readable r)) refl short

-- within the limit all that waits is read
pub readable_all : (r : Reading) → r.taken + length r.waiting ≤ most_bytes → readable r ≡ r.waiting
readable_all r le = take_all (most_bytes - r.taken) r.waiting (omega (arith, le))

-- ---- the end of the input

-- no event was whole, so none is read of those that wait
none_of_short : (roles : Roles) (steps : ℕ) (rest : List ℕ) (read : Step ScheduleEvent) (others : List ScheduleEvent)
    → event_at roles steps rest ≡ read → IsShort read → all_from roles steps rest ≡ Ok others → others ≡ []
none_of_short roles steps [] read others e short all =
    let one : Result (List ScheduleEvent) Found = Ok others in
    let nothing : behind_events [] (all_from roles steps []) ≡ Ok [] = all_read roles steps [] [] refl in
    let same : one ≡ Ok [] = sym (none_before one) ∙ ap (behind_events []) (sym all) ∙ nothing in
    cc
none_of_short roles steps (b ∷ rest) (Ok x) others e short all = absurd short
none_of_short roles steps (b ∷ rest) (Err found) others e short all =
    let one : Result (List ScheduleEvent) Found = Ok others in
    let fails : behind_events [] (all_from roles steps (b ∷ rest)) ≡ Err found = no_more roles steps (b ∷ rest) [] found (omega arith) e in
    let same : one ≡ Err found = sym (none_before one) ∙ ap (behind_events []) (sym all) ∙ fails in
    absurd cc

-- the events that wait are those of a schedule, where the input is not too long
pub ends_whole : (h : Header) (r : Reading) (fed : List ℕ) (es others : List ScheduleEvent) → r.header ≡ Some h → WasFed r fed es
    → all_from (roles_of h.processes) r.steps (readable r) ≡ Ok others → length fed ≤ most_bytes → IsWhole r fed es
ends_whole h r fed es others has stands read small =
    let given : HasRead h r fed es = subst (λ (o : Option Header). HasGiven o r fed es) has stands.given in
    let all : within_limit fed ≡ fed = take_all most_bytes fed small in
    let whole : whole_of fed ≡ Ok (record { header = h; events = es ++ others }) =
    ap whole_of (sym all) ∙ whole_given h r fed es given ∙ ap (λ (more : Result (List ScheduleEvent) Found). from_given h es more) read in
    let rest : readable r ≡ r.waiting = readable_all r (omega (arith, stands.size, small)) in
    record {
      header = h;
      others = others;
      has_header = has;
      spelled = within_is fed small ∙ ap (whole_input (length fed)) whole;
      no_others = λ none.
          let short : IsShort (event_at (roles_of h.processes) r.steps r.waiting) = subst (λ (o : Option Header). NoneWhole o r) has none in
          none_of_short (roles_of h.processes) r.steps r.waiting (event_at (roles_of h.processes) r.steps r.waiting) others refl short
          (ap (all_from (roles_of h.processes) r.steps) (sym rest) ∙ read);
    }

-- else the input has the fault of the events that wait, or is too long
pub ends_faulty : (h : Header) (r : Reading) (fed : List ℕ) (es : List ScheduleEvent) (found : Found) → r.header ≡ Some h → WasFed r fed es
    → all_from (roles_of h.processes) r.steps (readable r) ≡ Err found
    → (length fed ≤ most_bytes → schedule_of fed ≡ Err (placed (length fed) found))
    × (most_bytes < length fed → schedule_of fed ≡ Err (placed_past_limit found.kind (placed most_bytes found)))
ends_faulty h r fed es found has stands read =
    let given : HasRead h r fed es = subst (λ (o : Option Header). HasGiven o r fed es) has stands.given in
    let whole : whole_of (within_limit fed)
    ≡ Err found = whole_given h r fed es given ∙ ap (λ (more : Result (List ScheduleEvent) Found). from_given h es more) read in (
      λ small. within_is fed small ∙ ap (whole_input (length fed)) (ap whole_of (sym (take_all most_bytes fed small)) ∙ whole),
      λ long. cut_is fed long ∙ ap cut_input whole,
    )

pub ends_long : (h : Header) (r : Reading) (fed : List ℕ) (es others : List ScheduleEvent) → r.header ≡ Some h → WasFed r fed es
    → all_from (roles_of h.processes) r.steps (readable r) ≡ Ok others → most_bytes < length fed → schedule_of fed ≡ Err too_long
ends_long h r fed es others has stands read long =
    let given : HasRead h r fed es = subst (λ (o : Option Header). HasGiven o r fed es) has stands.given in
    cut_is fed long ∙ ap cut_input
    (whole_given h r fed es given ∙ ap (λ (more : Result (List ScheduleEvent) Found). from_given h es more) read)

-- without a header the input has the header's fault
pub ends_before : (fed : List ℕ) (found : Found) → length fed ≤ most_bytes → header_at fed ≡ Err found
    → schedule_of fed ≡ Err (placed (length fed) found)
unfolding whole_of
ends_before fed found small e = let whole : whole_of fed
    ≡ Err found = rw e refl in within_is fed small ∙ ap (whole_input (length fed)) whole

-- ---- as laws

pub reading_ignores_rest : ReadingIgnoresRest
reading_ignores_rest roles left bytes more rest = (
  λ h e. ok_goes bytes more (header_at bytes) (header_at (bytes ++ more)) h rest e (header_stable bytes more),
  λ e is. ok_goes bytes more (event_at roles left bytes)
      (event_at roles left (bytes ++ more)) e rest is (event_stable roles left bytes more),
)

pub fault_is_final : FaultIsFinal
fault_is_final h r fed es found has stands next other more = fault_of_event h r fed es found has stands next other more

pub end_is_whole : EndIsWhole
end_is_whole h r fed es others has stands read small = ends_whole h r fed es others has stands read small
