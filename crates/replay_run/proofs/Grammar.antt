-- What is known of the header and of the events that a reader gave.
use Rattle.std.proofs.Common.{◌≡◌, ℕ, ◌-◌, ◌≤◌, List, [], ◌∷◌, ◌++◌, length, drop, Option, Some, None, Result, Ok, Err, refl, sym, ap, subst, ◌∙◌, arith, length-append}
use Rattle.std.specs.Prelude.{IfSome, IsErr}
use Rattle.std.specs.List.{AllByRecursion}
use Rattle.std.proofs.lemmas.List.{take-append-drop, length-take}
use Rattle.byte_defs.proofs.Fields.{IsBytes, IsBytes-take}
use Rattle.replay_defs.specs.declared.Found.{Found}
use Rattle.replay_defs.specs.Schedules.{Header, ScheduleEvent, Listed, IsHeader, IsEvent, steps_of, header_bytes, most_steps, most_bytes}
use Rattle.replay_defs.specs.Reading.{Step, roles_of, setting_at, header_at}
use Rattle.replay_defs.specs.Pieces.{Reading, WasFed, AreRead, HasGiven, IsShort, within_limit, readable}
use Rattle.schedule_laws.proofs.Headers.{header_takes}
use Rattle.schedule_laws.proofs.Events.{event_takes}
use Rattle.schedule_laws.proofs.Behind.{event_shrinks}
use Rattle.schedule_laws.proofs.Pieces.{nothing_taken, reading_ignores_rest}

-- ---- events

-- events that were read are in their ranges, and each takes a byte
pub record AreInRange (ls : List Listed) (bytes : List ℕ) (es : List ScheduleEvent) : Type 0 where
  pub events : AllByRecursion (IsEvent ls) es
  pub few : length es ≤ length bytes

pub in_range : (ls : List Listed) (left : ℕ) (bytes : List ℕ) (es : List ScheduleEvent) (steps : ℕ) (rest : List ℕ) → IsBytes bytes
    → AreRead (roles_of ls) left bytes es steps rest → AreInRange ls bytes es
in_range ls left bytes [] steps rest fits read = record { events = tt; few = omega arith }
in_range ls left bytes (e ∷ es) steps rest fits read =
    let first = event_takes ls left bytes (e, read.0) fits read.1 in
    let others = in_range ls (left - steps_of e) read.0 es steps rest first.0.rest_fits read.2 in
    record {
      events = (first.1, others.events);
      few = omega (arith, others.few, event_shrinks (roles_of ls) left bytes (e, read.0) read.1);
    }

-- the last of them
pub last_in : (ls : List Listed) (es : List ScheduleEvent) (e : ScheduleEvent) → AllByRecursion (IsEvent ls) (es ++ e ∷ []) → IsEvent ls e
last_in ls [] e all = all.0
last_in ls (d ∷ es) e all = last_in ls es e all.1

-- ---- the header

-- a header that was read stands at the front of all bytes
pub record HasHeader (h : Header) (fed : List ℕ) : Type 0 where
  pub rest : List ℕ
  pub read : header_at fed ≡ Ok (h, rest)

longer : (h : Header) (front more : List ℕ) → HasHeader h front → HasHeader h (front ++ more)
longer h front more has = record {
  rest = has.rest ++ more;
  read = (reading_ignores_rest (roles_of h.processes) 0 front more has.rest).0 h has.read;
}

pub header_of : (r : Reading) (fed : List ℕ) (es : List ScheduleEvent) (h : Header) → WasFed r fed es → r.header ≡ Some h → HasHeader h fed
header_of r fed es h stands has =
    let given = subst (λ (o : Option Header). HasGiven o r fed es) has stands.given in
    let front : HasHeader h (within_limit fed) = record { rest = given.0; read = given.1 } in
    subst (HasHeader h) (take-append-drop most_bytes fed) (longer h (within_limit fed) (drop most_bytes fed) front)

-- the header that was read, or another one where none was
header_in : Header → Result (Header × List ℕ) Found → Header
header_in other (Ok x) = x.0
header_in other (Err found) = other

same_header : (a b : Header) (fed : List ℕ) → HasHeader a fed → HasHeader b fed → a ≡ b
unfolding header_in
same_header a b fed one other = ap (header_in a) (sym one.read ∙ other.read)

no_header : (h : Header) (fed : List ℕ) → HasHeader h fed → IsErr (header_at fed) → ⊥
no_header h fed has none = let wrong : IsErr (let r : Result (Header × List ℕ) Found = Ok (h, has.rest) in r) = subst
    (λ (r : Result (Header × List ℕ) Found). IsErr r) has.read none in absurd cc

nothing_whole : IsShort (header_at [])
unfolding header_at setting_at
nothing_whole = refl

-- where nothing was fed there is none, and nothing waits
pub none_yet : (r : Reading) → WasFed r [] [] → (r.header ≡ None) × (r.waiting ≡ []) × IsShort (header_at r.waiting)
none_yet r stands =
    let none = go r.header refl in
    let empty : r.waiting ≡ [] = (nothing_taken r [] [] none stands).1 in
    (none, empty, subst (λ (t : List ℕ). IsShort (header_at t)) (sym empty) nothing_whole)
  where
    go : (o : Option Header) → r.header ≡ o → r.header ≡ None
    go None e = e
    go (Some h) e =
        let has = header_of r [] [] h stands e in
        let wrong : IsShort (let read : Step Header = Ok (h, has.rest) in read) = subst
        (λ (read : Step Header). IsShort read) has.read nothing_whole in
        absurd wrong

-- a reader that has a header keeps it, however much it is fed and gives
pub header_stays : (old new : Reading) (fed all more : List ℕ) (es fs : List ScheduleEvent) (h : Header) → all ≡ fed ++ more
    → WasFed old fed es → WasFed new all fs → old.header ≡ Some h → new.header ≡ Some h
header_stays old new fed all more es fs h is stands now has = go new.header refl
  where
    here : HasHeader h all
    here = subst (HasHeader h) (sym is) (longer h fed more (header_of old fed es h stands has))

    go : (o : Option Header) → new.header ≡ o → o ≡ Some h
    go None e = absurd (no_header h all here (nothing_taken new all fs e now).3)
    go (Some g) e = ap Some (same_header g h all (header_of new all fs g now e) here)

-- one that gave an event has one
pub some_header : (old new : Reading) (fed : List ℕ) (es : List ScheduleEvent) (e : ScheduleEvent) → old.header ≡ None → WasFed old fed es
    → WasFed new fed (es ++ e ∷ []) → ⊥
some_header old new fed es e none stands now = go new.header refl
  where
    not_none : (ds : List ScheduleEvent) → (ds ++ e ∷ []) ≡ [] → ⊥
    not_none [] is = absurd cc
    not_none (d ∷ ds) is = absurd cc

    go : (o : Option Header) → new.header ≡ o → ⊥
    go None at = not_none es (nothing_taken new fed (es ++ e ∷ []) at now).0
    go (Some h) at = no_header h fed (header_of new fed (es ++ e ∷ []) h now at) (nothing_taken old fed es none stands).3

-- it is in its ranges
pub header_ranges : (r : Reading) (fed : List ℕ) (es : List ScheduleEvent) → IsBytes fed → WasFed r fed es → IfSome r.header IsHeader
header_ranges r fed es fits stands = go r.header refl
  where
    go : (o : Option Header) → r.header ≡ o → IfSome o IsHeader
    go None e = tt
    go (Some h) e = let has = header_of r fed es h stands e in (header_takes fed (h, has.rest) fits has.read).1

-- the events behind it are in theirs, and are no more than the bytes that are read
pub events_ranges : (r : Reading) (fed : List ℕ) (es : List ScheduleEvent) (h : Header) → IsBytes fed → WasFed r fed es → r.header ≡ Some h
    → AllByRecursion (IsEvent h.processes) es × (length es ≤ most_bytes)
events_ranges r fed es h fits stands has =
    let given = subst (λ (o : Option Header). HasGiven o r fed es) has stands.given in
    let front = header_takes (within_limit fed) (h, given.0) (IsBytes-take most_bytes fed fits) given.1 in
    let are = in_range h.processes most_steps given.0 es r.steps (readable r) front.0.rest_fits given.2 in (
      are.events,
      omega (
        arith,
        are.few,
        ap (λ (t : List ℕ). length t) front.0.parts,
        length-append (header_bytes h) given.0,
        length-take most_bytes fed,
      ),
    )
