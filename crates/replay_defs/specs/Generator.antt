-- A large schedule from a number: four processes with plain keys, the last one corrupt, and a thousand rounds of drawn payloads.
-- Names here (* for this crate alone):
--   draws: drawn, draw_below, Drawn, bytes_drawn
--   the events: all_four, submitted, hostile, hostile_if, renewed_if, round, rounds
--   the schedule: made_listed, generated
use Rattle.std.specs.Prelude.{ℕ, zero, suc, ◌+◌, ◌*◌, ◌/◌, ◌%◌, ◌^◌, Bool, ◌==◌, if◌then◌else◌, List, [], ◌∷◌, ◌++◌, map}
use Rattle.std.specs.List.{repeat, range_with_len}
use Rattle.byte_defs.specs.Fields.{four_bytes}
use Rattle.replay_defs.specs.declared.Scheme.TheVariants as schemes
use Rattle.replay_defs.specs.Keys.{Plain}
use Rattle.replay_defs.specs.Schedules.{Listed, ScheduleEvent, Submit, Raw, Drain, Renew, Schedule}

-- ---- draws

-- the state after a draw
unfoldable pub drawn : ℕ → ℕ
drawn state = (state * 6364136223846793005 + 1442695040888963407) % 2 ^ 64

-- the draw that led to this state, below a limit
abbrev pub draw_below : ℕ → ℕ → ℕ
draw_below limit state = state / 2 ^ 32 % limit

-- what was made of draws, and the state after them
abbrev pub Drawn : Type 0 → Type 0
Drawn A = A × ℕ

-- n bytes, a draw each
unfoldable pub bytes_drawn : ℕ → ℕ → Drawn (List ℕ)
bytes_drawn zero state = ([], state)
bytes_drawn (suc n) state =
    let next : ℕ = drawn state in
    let others : Drawn (List ℕ) = bytes_drawn n next in
    (draw_below 256 next ∷ others.0, others.1)

-- ---- the events

-- every process of the four
abbrev pub all_four : ℕ
all_four = 15

-- a payload of up to 63 bytes is submitted by the correct processes in turn, and 60 deliveries follow
unfoldable pub submitted : ℕ → ℕ → Drawn (List ScheduleEvent)
submitted i state =
    let len : ℕ = drawn state in
    let payload : Drawn (List ℕ) = bytes_drawn (draw_below 64 len) len in
    (Submit (i % 3) payload.0 ∷ Drain 60 all_four ∷ [], payload.1)

-- a correct process is handed eight bytes from process 3 that are no frame
unfoldable pub hostile : ℕ → Drawn (List ScheduleEvent)
hostile state =
    let to : ℕ = drawn state in
    let bytes : Drawn (List ℕ) = bytes_drawn 7 to in
    (Raw (draw_below 3 to) 3 (0 ∷ bytes.0) ∷ [], bytes.1)

-- in each tenth round
abbrev pub hostile_if : Bool → ℕ → Drawn (List ScheduleEvent)
hostile_if tenth state = if tenth then hostile state else ([], state)

-- in each fiftieth round the view is renewed
abbrev pub renewed_if : Bool → List ScheduleEvent
renewed_if fiftieth = if fiftieth then Renew 0 ∷ Renew 1 ∷ Drain 200 all_four ∷ [] else []

-- round i, counted from 0
unfoldable pub round : ℕ → ℕ → Drawn (List ScheduleEvent)
round i state =
    let first : Drawn (List ScheduleEvent) = submitted i state in
    let second : Drawn (List ScheduleEvent) = hostile_if (i % 10 == 9) first.1 in
    (first.0 ++ second.0 ++ renewed_if (i % 50 == 49), second.1)

-- n rounds, from round i on
unfoldable pub rounds : ℕ → ℕ → ℕ → List ScheduleEvent
rounds zero i state = []
rounds (suc n) i state =
    let first : Drawn (List ScheduleEvent) = round i state in
    first.0 ++ rounds n (i + 1) first.1

-- ---- the schedule

-- process p: its key is 32 bytes of its number, which make a million signatures
abbrev pub made_listed : ℕ → Listed
made_listed p = record { process = p; corrupt = p == 3; key = Plain (repeat 32 (p ∷ [])) 1000000 }

-- the schedule of this number, which is also the first state
unfoldable pub generated : ℕ → Schedule
generated number = record {
  header = record {
    scheme = schemes.Plain;
    batch_limit = 1;
    group = repeat 12 (0 ∷ []) ++ four_bytes number;
    processes = map made_listed (range_with_len 0 4);
    genesis = range_with_len 0 4;
  };
  events = rounds 1000 0 number;
}
