-- Reading events one after another, as loops do.
use Rattle.std.proofs.Common.{◌≡◌, ℕ, zero, suc, ◌-◌, ◌≤◌, List, [], ◌∷◌, ◌++◌, length, Result, Ok, Err, refl, sym, ap, ◌∙◌, append_assoc, arith}
use Rattle.std.proofs.lemmas.List.{append-nil}
use Rattle.byte_defs.specs.Fields.{◌>>=◌}
use Rattle.replay_defs.specs.declared.Found.{Found}
use Rattle.replay_defs.specs.Schedules.{ScheduleEvent, steps_of}
use Rattle.replay_defs.specs.Reading.{Step, Roles, event_at, events_at}
use Rattle.schedule_laws.proofs.Wholes.{next_event, none_left}
use Rattle.schedule_laws.proofs.Behind.{event_shrinks}

-- these events, and behind them what was read
abbrev pub behind_events : List ScheduleEvent → Result (List ScheduleEvent) Found → Result (List ScheduleEvent) Found
behind_events es (Ok more) = Ok (es ++ more)
behind_events es (Err found) = Err found

pub none_before : (read : Result (List ScheduleEvent) Found) → behind_events [] read ≡ read
none_before (Ok more) = refl
none_before (Err found) = refl

regroup : (es : List ScheduleEvent) (e : ScheduleEvent) (read : Result (List ScheduleEvent) Found)
    → behind_events es (read >>= λ others. Ok (e ∷ others)) ≡ behind_events (es ++ e ∷ []) read
regroup es e (Ok more) = ap (λ (all : List ScheduleEvent). Ok all) (sym (append_assoc es (e ∷ []) more))
regroup es e (Err found) = refl

module _ (roles : Roles) where
  -- all events from here on
  abbrev pub all_from : ℕ → List ℕ → Result (List ScheduleEvent) Found
  all_from left bytes = events_at roles (length bytes) left bytes

  by_event : (t u left : ℕ) (bytes : List ℕ) → length bytes ≤ suc t → length bytes ≤ suc u
      → ((e : ScheduleEvent) (after : List ℕ) → length after ≤ t → length after ≤ u
      → events_at roles t (left - steps_of e) after ≡ events_at roles u (left - steps_of e) after)
      → (read : Step ScheduleEvent) → event_at roles left bytes ≡ read
      → (read >>= λ first. events_at roles t (left - steps_of first.0) first.1 >>= λ others. Ok (first.0 ∷ others))
      ≡ (read >>= λ first. events_at roles u (left - steps_of first.0) first.1 >>= λ others. Ok (first.0 ∷ others))
  by_event t u left bytes lt lu others (Err found) e = refl
  by_event t u left bytes lt lu others (Ok x) e =
      let less = event_shrinks roles left bytes x e in
      rw (others x.0 x.1 (omega arith) (omega arith)) refl

  -- more turns than bytes change nothing
  pub turns_same : (t u left : ℕ) (bytes : List ℕ) → length bytes ≤ t → length bytes ≤ u
      → events_at roles t left bytes ≡ events_at roles u left bytes
  unfolding events_at
  turns_same t u left [] lt lu = none_left roles t left ∙ sym (none_left roles u left)
  turns_same zero u left (b ∷ bytes) lt lu = absurd (omega arith)
  turns_same (suc t) zero left (b ∷ bytes) lt lu = absurd (omega arith)
  turns_same (suc t) (suc u) left (b ∷ bytes) lt lu =
      by_event t u left (b ∷ bytes) lt lu (λ e after lt lu. turns_same t u (left - steps_of e) after lt lu)
      (event_at roles left (b ∷ bytes)) refl

  -- one event more was read
  pub one_more : (left : ℕ) (bytes : List ℕ) (es : List ScheduleEvent) (e : ScheduleEvent) (after : List ℕ)
      → event_at roles left bytes ≡ Ok (e, after)
      → behind_events es (all_from left bytes) ≡ behind_events (es ++ e ∷ []) (all_from (left - steps_of e) after)
  one_more left bytes es e after read =
      let less = event_shrinks roles left bytes (e, after) read in
      ap (behind_events es) (next_event roles (length bytes) left bytes e after (omega arith) (omega arith) read)
      ∙ regroup es e (events_at roles (length bytes - 1) (left - steps_of e) after)
      ∙ ap (behind_events (es ++ e ∷ []))
      (turns_same (length bytes - 1) (length after) (left - steps_of e) after (omega arith) (omega arith))

  -- the next event has a fault
  pub no_more : (left : ℕ) (bytes : List ℕ) (es : List ScheduleEvent) (found : Found) → 1 ≤ length bytes
      → event_at roles left bytes ≡ Err found → behind_events es (all_from left bytes) ≡ Err found
  unfolding events_at
  no_more left [] es found some read = absurd (omega arith)
  no_more left (b ∷ bytes) es found some read = rw read refl

  -- nothing is left
  pub all_read : (left : ℕ) (bytes : List ℕ) (es : List ScheduleEvent) → length bytes ≡ 0 → behind_events es (all_from left bytes) ≡ Ok es
  unfolding events_at
  all_read left [] es none = ap (λ (all : List ScheduleEvent). Ok all) (append-nil es)
  all_read left (b ∷ bytes) es none = absurd (omega arith)
