-- What is reported of schedules, and why some have no report.
use Rattle.std.specs.Prelude.{◌≡◌, ℕ, true, false, List, [], ◌∷◌, ◌++◌, Ok, Err, codes, flat_map, refl}
use Rattle.std.specs.List.{repeat}
use Rattle.std.specs.Fmt.{digits}
use native.Mathlib.Decide.{ℕ_discrete}
use Rattle.byte_defs.specs.Equality.{bytes_discrete, list_discrete, option_discrete, pair_discrete}
use Rattle.message_defs.specs.Updates.{Value-discrete}
use Rattle.message_defs.specs.Statements.{Message-discrete, Batch-discrete}
use Rattle.group_defs.specs.Views.{View-discrete}
use Rattle.group_defs.specs.Process.{Letter-discrete, Delivered-discrete}
use Rattle.group_defs.specs.Events.{after, run}
use Rattle.replay_defs.specs.declared.FaultKind.TheVariants as faults
use Rattle.replay_defs.specs.Schedules.{most_bytes, most_steps}
use Rattle.replay_defs.specs.Reading.{byte_that, process_that, plain_at, key_at, limit_at, listed_at, all_listed_at, processes_at, members_at, genesis_at, setting_at, header_at, pass_at, fields_at, steps_at, tag_at, event_at, events_at, whole_of, schedule_of}
use Rattle.replay_defs.specs.Worlds.{NoSuchFrame, most_sent, run_events}
use Rattle.replay_defs.specs.Reports.{NoSchedule, Stops, report_of, fault_words}
use Rattle.schedule_rows.proofs.Refused.{alone}

-- a Pass of frame 0 to process 0, while no frame is sent
abbrev pass : List ℕ
pass = 3 ∷ 0 ∷ 0 ∷ 0 ∷ 0 ∷ 0 ∷ []

-- the event is the first, the frame's number 0, and 0 frames are sent
frame_not_sent : report_of false (alone ++ pass) ≡ Err (Stops (NoSuchFrame 0 0 0))
unfolding byte_that process_that setting_at limit_at header_at processes_at all_listed_at listed_at key_at plain_at genesis_at members_at
    whole_of schedule_of most_bytes most_steps events_at event_at tag_at steps_at fields_at pass_at report_of run_events most_sent
frame_not_sent = refl

-- with no tag behind it the bytes have a fault, which comes first
tag_before_frame : report_of false (alone ++ pass ++ 10 ∷ []) ≡ Err (NoSchedule (record { kind = faults.Tag; place = 68 }))
unfolding byte_that process_that setting_at limit_at header_at processes_at all_listed_at listed_at key_at plain_at genesis_at members_at
    whole_of schedule_of most_bytes most_steps events_at event_at tag_at steps_at fields_at pass_at report_of
tag_before_frame = refl

-- what is told of both, behind `stop 7`
frame_reported : fault_words (Stops (NoSuchFrame 0 0 0)) ≡ codes "frame" ∷ codes "0" ∷ codes "0" ∷ codes "0" ∷ []
unfolding digits
frame_reported = refl

tag_reported : fault_words (NoSchedule (record { kind = faults.Tag; place = 68 })) ≡ codes "tag" ∷ codes "68" ∷ []
unfolding digits
tag_reported = refl

-- ---- four correct processes, and no event

-- process p, with a plain key of 32 bytes p that makes 100,000 signatures
abbrev listed : ℕ → List ℕ
listed p = p ∷ 0 ∷ (repeat 32 (p ∷ []) ++ (0 ∷ 1 ∷ 134 ∷ 160 ∷ []))

abbrev everyone : List ℕ
everyone = 0 ∷ 1 ∷ 2 ∷ 3 ∷ []

-- all four are members
abbrev four : List ℕ
four = codes "RPS1" ++ (0 ∷ (repeat 16 (0 ∷ []) ++ (4 ∷ (flat_map listed everyone ++ (4 ∷ everyone)))))

abbrev lines : List (List ℕ) → List ℕ
lines all = flat_map (λ line. line ++ 10 ∷ []) all

abbrev answers : List (List ℕ)
answers = codes "honest yes" ∷ codes "bounded yes" ∷ codes "agree yes" ∷ codes "sound yes" ∷ []

no_events : report_of false four ≡ Ok (lines (
    codes "rampart report 1" ∷ codes "events 0"
    ∷ codes "process 0 open 1 0 0" ∷ codes "view 0 0 : 0 1 2 3"
    ∷ codes "process 1 open 1 0 0" ∷ codes "view 1 0 : 0 1 2 3"
    ∷ codes "process 2 open 1 0 0" ∷ codes "view 2 0 : 0 1 2 3"
    ∷ codes "process 3 open 1 0 0" ∷ codes "view 3 0 : 0 1 2 3" ∷ answers))
unfolding ℕ_discrete bytes_discrete option_discrete pair_discrete Value-discrete Message-discrete list_discrete Batch-discrete View-discrete
    Letter-discrete Delivered-discrete after run byte_that process_that setting_at limit_at header_at processes_at all_listed_at listed_at
    key_at plain_at genesis_at members_at whole_of schedule_of most_bytes most_steps events_at report_of run_events digits
no_events = refl

-- and in short
no_events_short : report_of true four ≡ Ok (lines (
    codes "rampart report 1" ∷ codes "events 0" ∷ codes "refused 0"
    ∷ codes "process 0 open 1 0 0" ∷ codes "process 1 open 1 0 0" ∷ codes "process 2 open 1 0 0" ∷ codes "process 3 open 1 0 0" ∷ answers))
unfolding ℕ_discrete bytes_discrete option_discrete pair_discrete Value-discrete Message-discrete list_discrete Batch-discrete View-discrete
    Letter-discrete Delivered-discrete after run byte_that process_that setting_at limit_at header_at processes_at all_listed_at listed_at
    key_at plain_at genesis_at members_at whole_of schedule_of most_bytes most_steps events_at report_of run_events digits
no_events_short = refl
