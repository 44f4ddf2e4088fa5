-- The end of the input.
use Rattle.std.proofs.Common.{◌≡◌, ℕ, ◌+◌, ◌<◌, ◌≤◌, List, [], ◌++◌, length, Ok, Err, refl, sym, ap, subst, ◌∙◌, arith, inl, inr}
use Rattle.std.specs.Prelude.{Option, Some, None, Result}
use Rattle.std.proofs.lemmas.Bool.{cases_lt}
use Rattle.replay_defs.specs.declared.Found.{Found}
use Rattle.replay_defs.specs.declared.Fault.{Fault}
use Rattle.replay_defs.specs.Schedules.{ScheduleEvent, Header, most_bytes}
use Rattle.replay_defs.specs.Reading.{Roles, roles_of, header_at, events_at, placed, placed_past_limit, too_long, schedule_of}
use Rattle.replay_defs.specs.Pieces.{Reading, WasFed, readable, most_waiting}
use Rattle.schedule_laws.proofs.Pieces.{nothing_taken, ends_whole, ends_faulty, ends_long, ends_before}
use Rattle.schedule_pieces.specs.Ends.{AreLast, EndsBy, EndsAt}
use Rattle.schedule_pieces.specs.Readers.{SeesEnd}
use Rattle.schedule_pieces.proofs.Feeding.{window_is_less}

faulty : (r : Reading) (h : Header) (found : Found) (fault : Fault) → r.header ≡ Some h
    → events_at (roles_of h.processes) (length (readable r)) r.steps (readable r) ≡ Err found
    → EndsBy (Some found) (r.taken + length r.waiting) (Some fault)
    → (fed : List ℕ) (es : List ScheduleEvent) → WasFed r fed es → schedule_of fed ≡ Err fault
faulty r h found fault has read by fed es stands =
    let ends = ends_faulty h r fed es found has stands read in
    elim (cases_lt most_bytes (length fed)) [
      | inl lt ↦ ends.1 lt ∙ ap (λ (f : Fault). Err f) (sym (by.1 (omega (arith, lt, stands.size))))
      | inr le ↦ ends.0 le ∙ ap (λ (f : Fault). Err f)
          (sym (by.0 (omega (arith, le, stands.size)) ∙ ap (λ (n : ℕ). placed n found) stands.size))
    ]

ends : (r : Reading) (h : Header) (found : Option Found) (fault : Option Fault) → r.header ≡ Some h
    → AreLast (events_at (roles_of h.processes) (length (readable r)) r.steps (readable r)) found
    → EndsBy found (r.taken + length r.waiting) fault → SeesEnd r fault
ends r h None None has last by = λ fed es stands. ends_whole h r fed es last.0 has stands last.1 (omega (arith, by, stands.size))
ends r h (Some found) None has last by = absurd by
ends r h None (Some fault) has last by = λ fed es stands. ends_long h r fed es last.0 has stands last.1
    (omega (arith, by.0, stands.size)) ∙ ap (λ (f : Fault). Err f) (sym by.1)
ends r h (Some found) (Some fault) has last by = faulty r h found fault has last by

pub sees_end : (r : Reading) (h : Header) (of : Roles) (fault : Option Fault) → r.header ≡ Some h → of ≡ roles_of h.processes
    → EndsAt of r.steps r.taken r.waiting (readable r) fault → SeesEnd r fault
sees_end r h of fault has known at =
    let there : EndsAt (roles_of h.processes) r.steps r.taken r.waiting (readable r) fault = subst
    (λ (roles : Roles). EndsAt roles r.steps r.taken r.waiting (readable r) fault) known at in
    ends r h there.0 fault has there.1 there.2

-- without a header the input has the header's fault
pub ends_in_header : (r : Reading) (found : Found) → r.header ≡ None → length r.waiting ≤ most_waiting → header_at r.waiting ≡ Err found
    → (fed : List ℕ) (es : List ScheduleEvent) → WasFed r fed es → schedule_of fed ≡ Err (placed (length r.waiting) found)
ends_in_header r found none few read fed es stands =
    let all : r.waiting ≡ fed = (nothing_taken r fed es none stands).1 in
    ends_before fed found (omega (arith, few, window_is_less, ap (λ (t : List ℕ). length t) all))
    (ap header_at (sym all) ∙ read) ∙ ap (λ (t : List ℕ). Err (placed (length t) found)) (sym all)
