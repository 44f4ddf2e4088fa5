-- A generated schedule is in its ranges, whatever is drawn.
use Rattle.std.proofs.Common.{◌≡◌, ◌≢◌, ℕ, zero, suc, ◌+◌, ◌*◌, ◌%◌, ◌<◌, ◌≤◌, ◌^◌, Bool, true, false, List, [], ◌∷◌, ◌++◌, length, map, get_or, refl, sym, ap, subst, ◌∙◌, arith, lit<, lit≤, length-append}
use Rattle.std.specs.Prelude.{sum_by}
use Rattle.std.specs.List.{flat_map, AllByRecursion, range_with_len}
use Rattle.std.proofs.lemmas.List.{append-nil}
use Rattle.std.proofs.lemmas.List.Sums.{sum_by-append}
use Rattle.std.proofs.lemmas.Grind.{flat_map-append}
use Rattle.std.proofs.lemmas.List.FromFn.{get_or-range_with_len}
use Rattle.replay_defs.specs.Schedules.{Listed, ScheduleEvent, Submit, Raw, Drain, Renew, is_correct, steps_of, event_bytes, header_bytes, IsEvent, IsHeader, IsSchedule, most_steps, most_bytes}
use Rattle.replay_defs.specs.Generator.{drawn, draw_below, bytes_drawn, all_four, submitted, hostile, hostile_if, renewed_if, round, rounds, made_listed, generated}

abbrev four : List Listed
four = map made_listed (range_with_len 0 4)

-- ---- so many steps and bytes at most

record Small (steps size : ℕ) (es : List ScheduleEvent) : Type 0 where
  each : AllByRecursion (IsEvent four) es
  few : sum_by steps_of es ≤ steps
  short : length (flat_map event_bytes es) ≤ size

none : (steps size : ℕ) → Small steps size []
none steps size = record { each = tt; few = omega arith; short = omega arith }

one : (steps size : ℕ) (e : ScheduleEvent) → IsEvent four e → steps_of e ≤ steps → length (event_bytes e) ≤ size → Small steps size (e ∷ [])
one steps size e is few short = record {
  each = (is, tt);
  few = omega (arith, few);
  short = subst (λ (xs : List ℕ). length xs ≤ size) (sym (append-nil (event_bytes e))) short;
}

all_append : {X : Type 0} (P : X → Type 0) (xs ys : List X) → AllByRecursion P xs → AllByRecursion P ys → AllByRecursion P (xs ++ ys)
all_append P [] ys first second = second
all_append P (x ∷ xs) ys first second = (first.0, all_append P xs ys first.1 second)

both : (m k n l : ℕ) (xs ys : List ScheduleEvent) → Small m k xs → Small n l ys → Small (m + n) (k + l) (xs ++ ys)
both m k n l xs ys first second =
    let bytes : length (flat_map event_bytes (xs ++ ys)) ≡ length (flat_map event_bytes xs) + length (flat_map event_bytes ys) =
    ap length (flat_map-append event_bytes xs ys) ∙ length-append (flat_map event_bytes xs) (flat_map event_bytes ys) in
    record {
      each = all_append (IsEvent four) xs ys first.each second.each;
      few = omega (arith, sum_by-append steps_of xs ys, first.few, second.few);
      short = omega (arith, bytes, first.short, second.short);
    }

wider : (m k n l : ℕ) (es : List ScheduleEvent) → m ≤ n → k ≤ l → Small m k es → Small n l es
wider m k n l es few short small = record { each = small.each; few = omega (arith, small.few); short = omega (arith, small.short) }

-- ---- the events

correct : (p : ℕ) → p < 3 → is_correct four p ≡ true
correct zero lt = refl
correct (suc zero) lt = refl
correct (suc (suc zero)) lt = refl
correct (suc (suc (suc p))) lt = absurd (omega arith)

length_drawn : (n state : ℕ) → length (bytes_drawn n state).0 ≡ n
unfolding bytes_drawn
length_drawn zero state = refl
length_drawn (suc n) state = ap (λ k. suc k) (length_drawn n (drawn state))

submit_small : (p : ℕ) (payload : List ℕ) → p < 3 → length payload < 64 → Small 1 67 (Submit p payload ∷ [])
submit_small p payload low few = one 1 67 (Submit p payload) (correct p low, omega arith) (lit≤ tt) (omega arith)

drain_small : (count : ℕ) → count < 2 ^ 32 → Small count 13 (Drain count all_four ∷ [])
drain_small count low = one count 13 (Drain count all_four) (low, lit< tt) (omega arith) (lit≤ tt)

raw_small : (p : ℕ) (bytes : List ℕ) → p < 3 → length bytes ≡ 8 → Small 1 13 (Raw p 3 bytes ∷ [])
raw_small p bytes low size = one 1 13 (Raw p 3 bytes) (correct p low, lit≤ tt, omega arith) (lit≤ tt) (omega arith)

renew_small : (p : ℕ) → p < 3 → Small 1 2 (Renew p ∷ [])
renew_small p low = one 1 2 (Renew p) (correct p low) (lit≤ tt) (lit≤ tt)

submitted_small : (i state : ℕ) → Small 61 80 (submitted i state).0
unfolding submitted
submitted_small i state =
    let len : ℕ = drawn state in
    let count : ℕ = draw_below 64 len in
    let payload : List ℕ = (bytes_drawn count len).0 in
    let size : length payload ≡ count = length_drawn count len in
    let few : length payload < 64 = omega (arith, size) in
    both 1 67 60 13 (Submit (i % 3) payload ∷ []) (Drain 60 all_four ∷ []) (submit_small (i % 3) payload (omega arith) few)
    (drain_small 60 (lit< tt))

hostile_small : (state : ℕ) → Small 1 13 (hostile state).0
unfolding hostile
hostile_small state =
    let to : ℕ = drawn state in
    let bytes : List ℕ = (bytes_drawn 7 to).0 in
    let size : length bytes ≡ 7 = length_drawn 7 to in
    raw_small (draw_below 3 to) (0 ∷ bytes) (omega arith) (ap (λ k. suc k) size)

hostile_if_small : (tenth : Bool) (state : ℕ) → Small 1 13 (hostile_if tenth state).0
hostile_if_small true state = hostile_small state
hostile_if_small false state = none 1 13

renewed_small : (fiftieth : Bool) → Small 202 17 (renewed_if fiftieth)
renewed_small true =
    both 1 2 201 15 (Renew 0 ∷ []) (Renew 1 ∷ Drain 200 all_four ∷ []) (renew_small 0 (lit< tt))
    (both 1 2 200 13 (Renew 1 ∷ []) (Drain 200 all_four ∷ []) (renew_small 1 (lit< tt)) (drain_small 200 (lit< tt)))
renewed_small false = none 202 17

round_small : (i state : ℕ) → Small 264 110 (round i state).0
unfolding round submitted
round_small i state =
    both 61 80 203 30 (submitted i state).0 _ (submitted_small i state)
    (both 1 13 202 17 (hostile_if _ (submitted i state).1).0 (renewed_if _) (hostile_if_small _ (submitted i state).1) (renewed_small _))

rounds_small : (n i state : ℕ) → Small (n * 264) (n * 110) (rounds n i state)
unfolding rounds
rounds_small zero i state = none 0 0
rounds_small (suc n) i state =
    wider (264 + n * 264) (110 + n * 110) (suc n * 264) (suc n * 110) _ (omega arith) (omega arith)
    (both 264 110 (n * 264) (n * 110) (round i state).0 (rounds n (i + 1) (round i state).1) (round_small i state)
    (rounds_small n (i + 1) (round i state).1))

-- ---- the whole

members_distinct : (i j d : ℕ) → i < j → j < 4 → get_or (range_with_len 0 4) i d ≢ get_or (range_with_len 0 4) j d
members_distinct i j d lt within same =
    let low : i < 4 = omega arith in
    let first : get_or (range_with_len 0 4) i d ≡ i = get_or-range_with_len 0 4 i d low ∙ omega arith in
    let second : get_or (range_with_len 0 4) j d ≡ j = get_or-range_with_len 0 4 j d within ∙ omega arith in
    let equal : i ≡ j = sym first ∙ same ∙ second in
    omega arith

header_fits : (number : ℕ) → IsHeader (generated number).header
unfolding generated
header_fits number = record {
  limit = refl;
  group = refl;
  some = refl;
  processes = (
    lit≤ tt,
    lit≤ tt,
    (refl, lit< tt),
    (lit≤ tt, lit≤ tt, (refl, lit< tt), (lit≤ tt, lit≤ tt, (refl, lit< tt), (lit≤ tt, lit≤ tt, (refl, lit< tt), tt))),
  );
  members = refl;
  listed = (refl, (refl, (refl, (refl, tt))));
  distinct = members_distinct;
}

header_short : (number : ℕ) → length (header_bytes (generated number).header) ≡ 179
unfolding generated
header_short number = refl

events_small : (number : ℕ) → Small 264000 110000 (generated number).events
unfolding generated
events_small number = rounds_small 1000 0 number

events_fit : (number : ℕ) → AllByRecursion (IsEvent (generated number).header.processes) (generated number).events
unfolding generated
events_fit number = (rounds_small 1000 0 number).each

pub generated_fits : (number : ℕ) → IsSchedule (generated number)
unfolding most_steps most_bytes
generated_fits number =
    let small : Small 264000 110000 (generated number).events = events_small number in
    record {
      header = header_fits number;
      events = events_fit number;
      steps = omega (arith, small.few);
      size = omega (
        arith,
        small.short,
        header_short number,
        length-append (header_bytes (generated number).header) (flat_map event_bytes (generated number).events),
      );
    }
