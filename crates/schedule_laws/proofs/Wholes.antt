-- A schedule that is read is spelled so, and what is spelled so is read.
use Rattle.std.proofs.Common.{◌≡◌, ℕ, zero, suc, ◌-◌, ◌≤◌, Bool, true, false, ltb, List, [], ◌∷◌, ◌++◌, length, take, Result, Ok, Err, refl, sym, ap, subst, ◌∙◌, arith}
use Rattle.std.specs.Prelude.{if◌then◌else◌, sum_by}
use Rattle.std.specs.List.{flat_map, AllByRecursion}
use Rattle.std.proofs.lemmas.Bool.{ltb-false, le-ltb}
use Rattle.std.proofs.lemmas.List.{length-append}
use Rattle.std.proofs.lemmas.List.Concat.{flat_map-cons}
use Rattle.std.proofs.lemmas.List.Sums.{sum_by-cons}
use Rattle.byte_defs.specs.Fields.{◌>>=◌}
use Rattle.byte_defs.proofs.Fields.{IsBytes, bind_ok, ok_is}
use Rattle.replay_defs.specs.declared.Found.{Found}
use Rattle.replay_defs.specs.Schedules.{Listed, ScheduleEvent, Submit, Raw, Pass, Drain, Lie, Suspect, Join, Renew, Tick, Schedule, steps_of, most_steps, most_bytes, header_bytes, event_bytes, schedule_bytes, IsEvent, IsSchedule}
use Rattle.replay_defs.specs.Reading.{Roles, roles_of, header_at, event_at, events_at, whole_of, whole_input, cut_input, schedule_of}
use Rattle.schedule_laws.specs.Laws.{ReadIsSpelled, SpelledIsRead}
use Rattle.schedule_laws.proofs.Headers.{header_takes, header_again, is_correct_below, is_corrupt_below}
use Rattle.schedule_laws.proofs.Events.{event_takes, event_again}

-- the bytes of an event, which are some
event_length : (e : ScheduleEvent) → 1 ≤ length (event_bytes e)
event_length (Submit at payload) = omega arith
event_length (Raw to from bytes) = omega arith
event_length (Pass frame to) = omega arith
event_length (Drain count mask) = omega arith
event_length (Lie signer mask statement) = omega arith
event_length (Suspect at other) = omega arith
event_length (Join at other) = omega arith
event_length (Renew at) = omega arith
event_length (Tick at) = omega arith

-- an event and those behind it, where there are turns enough
pub next_event : (roles : Roles) (turns left : ℕ) (bytes : List ℕ) (e : ScheduleEvent) (after : List ℕ) → length bytes ≤ turns
    → 1 ≤ length bytes → event_at roles left bytes ≡ Ok (e, after)
    → events_at roles turns left bytes ≡ (events_at roles (turns - 1) (left - steps_of e) after >>= λ others. Ok (e ∷ others))
unfolding events_at
next_event roles turns left [] e after le some read = absurd (omega arith)
next_event roles zero left (b ∷ bytes) e after le some read = absurd (omega arith)
next_event roles (suc turns) left (b ∷ bytes) e after le some read =
    let fewer : suc turns - 1 ≡ turns = omega arith in
    rw (read, fewer) refl

pub none_left : (roles : Roles) (turns left : ℕ) → events_at roles turns left [] ≡ Ok []
unfolding events_at
none_left roles zero left = refl
none_left roles (suc turns) left = refl

module _ (ls : List Listed) where
  abbrev roles : Roles
  roles = roles_of ls

  events_take : (turns left : ℕ) (bytes : List ℕ) (es : List ScheduleEvent) → length bytes ≤ turns → IsBytes bytes
      → events_at roles turns left bytes ≡ Ok es
      → (bytes ≡ flat_map event_bytes es) × (sum_by steps_of es ≤ left) × AllByRecursion (IsEvent ls) es
  unfolding events_at
  events_take turns left [] es le fits e =
      subst (λ (all : List ScheduleEvent). ([] ≡ flat_map event_bytes all) × (sum_by steps_of all ≤ left)
      × AllByRecursion (IsEvent ls) all) {x = []} {y = es} (ok_is [] es (sym (none_left roles turns left) ∙ e)) (refl, omega arith, tt)
  events_take zero left (b ∷ bytes) es le fits e = absurd (omega arith)
  events_take (suc turns) left (b ∷ bytes) es le fits e =
      let a = bind_ok (event_at roles left (b ∷ bytes)) _ es e in
      let c = bind_ok (events_at roles turns (left - steps_of a.0.0) a.0.1) _ es a.2 in
      let first = event_takes ls left (b ∷ bytes) a.0 fits a.1 in
      let size : length (b ∷ bytes) ≡ length (event_bytes a.0.0 ++ a.0.1) = ap (λ (t : List ℕ). length t) first.0.parts in
      let fewer : length a.0.1 ≤ turns = omega (arith, size, le, length-append (event_bytes a.0.0) a.0.1, event_length a.0.0) in
      let others = events_take turns (left - steps_of a.0.0) a.0.1 c.0 fewer first.0.rest_fits c.1 in
      let whole : b ∷ bytes ≡ flat_map event_bytes (a.0.0 ∷ c.0) = first.0.parts ∙ ap
      (λ (t : List ℕ). event_bytes a.0.0 ++ t) others.0 ∙ sym (flat_map-cons event_bytes a.0.0 c.0) in
      subst (λ (all : List ScheduleEvent). (b ∷ bytes ≡ flat_map event_bytes all) × (sum_by steps_of all ≤ left)
      × AllByRecursion (IsEvent ls) all) {x = a.0.0 ∷ c.0} {y = es} (ok_is (a.0.0 ∷ c.0) es c.2)
      (whole, omega (arith, others.1, first.2, sum_by-cons steps_of a.0.0 c.0), (first.1, others.2))

  events_again : ((p : ℕ) → roles.correct p ≡ true → p ≤ 63) → ((p : ℕ) → roles.corrupt p ≡ true → p ≤ 63)
      → (turns left : ℕ) (es : List ScheduleEvent)
      → length (flat_map event_bytes es) ≤ turns → sum_by steps_of es ≤ left → AllByRecursion (IsEvent ls) es
      → events_at roles turns left (flat_map event_bytes es) ≡ Ok es
  events_again correct corrupt turns left [] le room fits = none_left roles turns left
  events_again correct corrupt turns left (e ∷ es) le room fits =
      let behind : List ℕ = flat_map event_bytes es in
      let spelled : flat_map event_bytes (e ∷ es) ≡ event_bytes e ++ behind = flat_map-cons event_bytes e es in
      let size : length (event_bytes e ++ behind) ≤ turns = subst (λ (t : List ℕ). length t ≤ turns) spelled le in
      let parts = length-append (event_bytes e) behind in
      let some = event_length e in
      let steps = sum_by-cons steps_of e es in
      let read = event_again ls correct corrupt left e behind (omega (arith, room, steps)) fits.0 in
      let others = events_again correct corrupt (turns - 1) (left - steps_of e) es (omega (arith, size, parts, some))
      (omega (arith, room, steps)) fits.1 in
      ap (events_at roles turns left) spelled
      ∙ next_event roles turns left (event_bytes e ++ behind) e behind size (omega (arith, parts, some)) read
      ∙ rw others refl

-- ---- the whole

whole_takes : (bytes : List ℕ) (s : Schedule) → IsBytes bytes → length bytes ≤ most_bytes → whole_of bytes ≡ Ok s
    → IsSchedule s × (bytes ≡ schedule_bytes s)
unfolding whole_of
whole_takes bytes s fits le e =
    let a = bind_ok (header_at bytes) _ s e in
    let b = bind_ok (events_at (roles_of a.0.0.processes) (length a.0.1) most_steps a.0.1) _ s a.2 in
    let t0 = header_takes bytes a.0 fits a.1 in
    let t1 = events_take a.0.0.processes (length a.0.1) most_steps a.0.1 b.0 (omega arith) t0.0.rest_fits b.1 in
    let made : Schedule = record { header = a.0.0; events = b.0 } in
    let spelled : bytes ≡ schedule_bytes made = t0.0.parts ∙ ap (λ (t : List ℕ). header_bytes a.0.0 ++ t) t1.0 in
    let size : length (schedule_bytes made)
    ≤ most_bytes = subst (λ (t : List ℕ). length t ≤ most_bytes) {x = bytes} {y = schedule_bytes made} spelled le in
    let fine : IsSchedule made = record { header = t0.1; events = t1.2; steps = t1.1; size = size } in
    subst (λ (made : Schedule). IsSchedule made × (bytes ≡ schedule_bytes made)) {x = made} {y = s} (ok_is made s b.2) (fine, spelled)

cut_fails : (read : Result Schedule Found) (s : Schedule) → cut_input read ≡ Ok s → ⊥
cut_fails (Ok x) s e = cc
cut_fails (Err f) s e = cc

whole_is : (size : ℕ) (read : Result Schedule Found) (s : Schedule) → whole_input size read ≡ Ok s → read ≡ Ok s
whole_is size (Ok x) s e = let same : x ≡ s = cc in rw same refl
whole_is size (Err f) s e = absurd cc

within : (long : Bool) (size : ℕ) (front whole : Result Schedule Found) (s : Schedule)
    → (if long then cut_input front else whole_input size whole) ≡ Ok s → (long ≡ false) × (whole ≡ Ok s)
within true size front whole s e = absurd (cut_fails front s e)
within false size front whole s e = (refl, whole_is size whole s e)

-- bytes that are a schedule pass no limit, and all of them were read
pub read_whole : (bytes : List ℕ) (s : Schedule) → schedule_of bytes ≡ Ok s → (length bytes ≤ most_bytes) × (whole_of bytes ≡ Ok s)
unfolding schedule_of
read_whole bytes s e =
    let g = within (ltb most_bytes (length bytes)) (length bytes) (whole_of (take most_bytes bytes)) (whole_of bytes) s e in
    (ltb-false _ _ g.0, g.1)

pub schedule_takes : (bytes : List ℕ) (s : Schedule) → IsBytes bytes → schedule_of bytes ≡ Ok s → IsSchedule s × (bytes ≡ schedule_bytes s)
schedule_takes bytes s fits e =
    let g = read_whole bytes s e in
    whole_takes bytes s fits g.0 g.1

-- bytes within the limit are read whole
pub within_is : (bytes : List ℕ) → length bytes ≤ most_bytes → schedule_of bytes ≡ whole_input (length bytes) (whole_of bytes)
unfolding schedule_of
within_is bytes le = let small : ltb most_bytes (length bytes) ≡ false = le-ltb _ _ le in rw small refl

pub schedule_again : (s : Schedule) → IsSchedule s → schedule_of (schedule_bytes s) ≡ Ok s
unfolding whole_of
schedule_again s fits =
    let events : List ℕ = flat_map event_bytes s.events in
    let ls = s.header.processes in
    let behind = events_again ls (λ p is. is_correct_below s.header.scheme 0 ls p fits.header.processes is)
    (λ p is. is_corrupt_below s.header.scheme 0 ls p fits.header.processes is)
    (length events) most_steps s.events (omega arith) fits.steps fits.events in
    let whole : whole_of (schedule_bytes s) ≡ Ok s = rw (header_again s.header events fits.header, behind) refl in
    within_is (schedule_bytes s) fits.size ∙ ap (whole_input (length (schedule_bytes s))) whole

pub read_is_spelled : ReadIsSpelled
read_is_spelled bytes s fits e = schedule_takes bytes s fits e

pub spelled_is_read : SpelledIsRead
spelled_is_read s fits = schedule_again s fits
