-- A piece more: what stood before it stands behind it.
use Rattle.std.proofs.Common.{◌≡◌, ℕ, ◌+◌, ◌≤◌, true, false, List, [], ◌++◌, length, drop, Ok, Err, refl, sym, ap, subst, ◌∙◌, arith, length-append}
use Rattle.std.specs.Prelude.{Option, Some, None, IsErr}
use Rattle.std.proofs.lemmas.List.{length-drop}
use Rattle.replay_defs.specs.Schedules.{ScheduleEvent, Header, most_steps, most_bytes}
use Rattle.replay_defs.specs.Reading.{setting_at, header_at}
use Rattle.replay_defs.specs.Pieces.{Reading, WasFed, most_waiting}
use Rattle.schedule_file.specs.Views as views
use Rattle.schedule_laws.proofs.Pieces.{fed_more, fed_before, fed_after, nothing_taken}
use Rattle.schedule_pieces.specs.declared.reader.ScheduleReader.TheInside.{Inside}
use Rattle.schedule_pieces.specs.Insides.{reading}

-- all that waits is within the limit of an input
pub window_is_less : most_waiting ≤ most_bytes
unfolding most_waiting most_bytes
window_is_less = omega arith

-- no bytes are no header
pub nothing_read : IsErr (header_at [])
unfolding header_at setting_at
nothing_read = refl

pub begins : (r : Reading) → r.header ≡ None → r.fault ≡ None → r.taken ≡ 0 → r.steps ≡ most_steps → r.waiting ≡ [] → WasFed r [] []
begins r none going taken steps empty =
    let partial : IsErr (header_at r.waiting) = subst (λ (t : List ℕ). IsErr (header_at t)) (sym empty) nothing_read in
    subst (λ (fed : List ℕ). WasFed r fed []) empty (fed_before r none going taken steps partial)

-- behind a header
pub feeds_events : (r : Inside) (window piece : List ℕ) → r.has_header ≡ true → window ≡ r.window ++ piece
    → (fed : List ℕ) (es : List ScheduleEvent) → WasFed (reading r) fed es
    → WasFed (reading (record r { window = window })) (fed ++ piece) es
feeds_events r window piece has is fed es stands =
    let known : (reading r).header ≡ Some (views.header r.header) = rw has refl in
    rw is (fed_more (views.header r.header) (reading r) fed piece es known stands)

-- the header is not whole yet
pub feeds_partial : (r : Inside) (window piece : List ℕ) → r.has_header ≡ false → window ≡ r.window ++ piece → IsErr (header_at window)
    → (fed : List ℕ) (es : List ScheduleEvent) → WasFed (reading r) fed es
    → WasFed (reading (record r { window = window })) (fed ++ piece) es
feeds_partial r window piece has is partial fed es stands =
    let none : (reading r).header ≡ None = rw has refl in
    let nothing = nothing_taken (reading r) fed es none stands in
    let longer : Reading = reading (record r { window = window }) in
    let none_now : longer.header ≡ None = rw has refl in
    let taken : r.taken ≡ 0 = omega (arith, stands.size, ap (λ (t : List ℕ). length t) nothing.1) in
    let all : window ≡ fed ++ piece = is ∙ ap (λ (t : List ℕ). t ++ piece) nothing.1 in
    let now : WasFed longer window [] = fed_before longer none_now stands.unstopped taken nothing.2 partial in
    subst (λ (t : List ℕ). WasFed longer t es) all (subst (λ (given : List ScheduleEvent). WasFed longer window given) (sym nothing.0) now)

-- the header became whole
pub feeds_header : (r : Inside) (s : Reading) (h : Header) (window piece : List ℕ) (size : ℕ) → r.has_header ≡ false
    → window ≡ r.window ++ piece → length window ≤ most_waiting
    → header_at window ≡ Ok (h, drop size window) → size ≤ length window
    → s.header ≡ Some h → s.fault ≡ r.fault → s.steps ≡ r.steps → s.taken ≡ size → s.waiting ≡ drop size window
    → (fed : List ℕ) (es : List ScheduleEvent) → WasFed (reading r) fed es → WasFed s (fed ++ piece) es
feeds_header r s h window piece size has is few read within now going steps taken waiting fed es stands =
    let none : (reading r).header ≡ None = rw has refl in
    let nothing = nothing_taken (reading r) fed es none stands in
    let all : window ≡ fed ++ piece = is ∙ ap (λ (t : List ℕ). t ++ piece) nothing.1 in
    let small : length (fed ++ piece) ≤ most_bytes = omega (arith, few, window_is_less, ap (λ (t : List ℕ). length t) all) in
    let read_now : header_at (fed ++ piece) ≡ Ok (h, s.waiting) = rw (← all, waiting) read in
    let sizes : s.taken + length s.waiting
    ≡ length (fed ++ piece) = rw (taken, waiting, ← all) (omega (arith, within, length-drop size window)) in
    let behind : WasFed s (fed ++ piece) [] = fed_after h s (fed ++ piece) now (going ∙ stands.unstopped)
    (steps ∙ nothing.2) small read_now sizes in
    subst (λ (given : List ScheduleEvent). WasFed s (fed ++ piece) given) (sym nothing.0) behind
