-- Bytes that are no schedule, with their first fault and its place.
use Rattle.std.specs.Prelude.{◌≡◌, ℕ, List, [], ◌∷◌, ◌++◌, Err, codes, refl}
use Rattle.std.specs.List.{repeat}
use Rattle.message_defs.specs.Reading.{end_at, content_at, statement_in, statement_of}
use Rattle.replay_defs.specs.declared.FaultKind.TheVariants as faults
use Rattle.replay_defs.specs.Schedules.{most_bytes, most_steps}
use Rattle.replay_defs.specs.Reading.{byte_that, process_that, text_at, ots_at, tree_at, plain_at, lms_at, hss_at, key_at, limit_at, listed_at, all_listed_at, processes_at, members_at, genesis_at, setting_at, header_at, submit_at, pass_at, drain_at, lie_at, alone_at, fields_at, steps_at, tag_at, event_at, events_at, whole_of, schedule_of}

-- process 0 alone, with a plain key of 32 bytes 0 that makes 100,000 signatures
abbrev pub alone : List ℕ
alone = codes "RPS1" ++ (0 ∷ (repeat 16 (0 ∷ []) ++ (1 ∷ 0 ∷ 0 ∷ (repeat 32 (0 ∷ []) ++ (0 ∷ 1 ∷ 134 ∷ 160 ∷ 1 ∷ 0 ∷ [])))))

-- process 0, and process 1, which is corrupt; their keys make no signature
abbrev two : List ℕ
two = codes "RPS1" ++ (0 ∷ (repeat 16 (0 ∷ []) ++ (2 ∷ 0 ∷ 0 ∷ (repeat 36 (0 ∷ []) ++ (1 ∷ 1 ∷ (repeat 36 (0 ∷ []) ++ (1 ∷ 0 ∷ [])))))))

-- no bytes
no_bytes : schedule_of [] ≡ Err (record { kind = faults.Short; place = 0 })
unfolding byte_that process_that setting_at limit_at header_at processes_at all_listed_at listed_at key_at plain_at lms_at hss_at tree_at
    ots_at genesis_at members_at whole_of schedule_of most_bytes
no_bytes = refl

-- RPX1
other_magic : schedule_of (codes "RPX1") ≡ Err (record { kind = faults.Magic; place = 0 })
unfolding byte_that process_that setting_at limit_at header_at processes_at all_listed_at listed_at key_at plain_at lms_at hss_at tree_at
    ots_at genesis_at members_at whole_of schedule_of most_bytes
other_magic = refl

-- three letters, which begin no magic
cut_magic : schedule_of (codes "ABC") ≡ Err (record { kind = faults.Short; place = 0 })
unfolding byte_that process_that setting_at limit_at header_at processes_at all_listed_at listed_at key_at plain_at lms_at hss_at tree_at
    ots_at genesis_at members_at whole_of schedule_of most_bytes
cut_magic = refl

-- the second version has no plain keys
plain_in_second : schedule_of ((codes "RPS2") ++ (0 ∷ [])) ≡ Err (record { kind = faults.Scheme; place = 4 })
unfolding byte_that process_that setting_at limit_at header_at processes_at all_listed_at listed_at key_at plain_at lms_at hss_at tree_at
    ots_at genesis_at members_at whole_of schedule_of most_bytes
plain_in_second = refl

-- the third version has no limit of 1
limit_of_one : schedule_of ((codes "RPS3") ++ (0 ∷ 1 ∷ [])) ≡ Err (record { kind = faults.Field; place = 5 })
unfolding byte_that process_that setting_at limit_at header_at processes_at all_listed_at listed_at key_at plain_at lms_at hss_at tree_at
    ots_at genesis_at members_at whole_of schedule_of most_bytes
limit_of_one = refl

-- no process
no_process : schedule_of ((codes "RPS1") ++ (0 ∷ []) ++ (repeat 16 (0 ∷ [])) ++ (0 ∷ []))
    ≡ Err (record { kind = faults.Roster; place = 21 })
unfolding byte_that process_that setting_at limit_at header_at processes_at all_listed_at listed_at key_at plain_at lms_at hss_at tree_at
    ots_at genesis_at members_at whole_of schedule_of most_bytes
no_process = refl

-- a tree of height 20
tall_tree : schedule_of ((codes "RPS1") ++ (1 ∷ []) ++ (repeat 16 (0 ∷ [])) ++ (1 ∷ 0 ∷ 0 ∷ 8 ∷ []))
    ≡ Err (record { kind = faults.Key; place = 24 })
unfolding byte_that process_that setting_at limit_at header_at processes_at all_listed_at listed_at key_at plain_at lms_at hss_at tree_at
    ots_at genesis_at members_at whole_of schedule_of most_bytes
tall_tree = refl

-- three levels of height 15
three_tall_levels : schedule_of ((codes "RPS2") ++ (2 ∷ []) ++ (repeat 16 (0 ∷ [])) ++ (1 ∷ 0 ∷ 0 ∷ 3 ∷ 7 ∷ []))
    ≡ Err (record { kind = faults.Key; place = 25 })
unfolding byte_that process_that setting_at limit_at header_at processes_at all_listed_at listed_at key_at plain_at lms_at hss_at tree_at
    ots_at genesis_at members_at whole_of schedule_of most_bytes
three_tall_levels = refl

-- two levels of type 1
long_signatures : schedule_of ((codes "RPS2") ++ (2 ∷ []) ++ (repeat 16 (0 ∷ [])) ++ (1 ∷ 0 ∷ 0 ∷ 2 ∷ 5 ∷ 1 ∷ []))
    ≡ Err (record { kind = faults.Key; place = 26 })
unfolding byte_that process_that setting_at limit_at header_at processes_at all_listed_at listed_at key_at plain_at lms_at hss_at tree_at
    ots_at genesis_at members_at whole_of schedule_of most_bytes
long_signatures = refl

-- a Pass, and then no tag; that no frame was sent is no fault of the bytes
unknown_tag : schedule_of (alone ++ (3 ∷ 0 ∷ 0 ∷ 0 ∷ 0 ∷ 0 ∷ 10 ∷ [])) ≡ Err (record { kind = faults.Tag; place = 68 })
unfolding byte_that process_that setting_at limit_at header_at processes_at all_listed_at listed_at key_at plain_at lms_at hss_at tree_at
    ots_at genesis_at members_at whole_of schedule_of most_bytes most_steps events_at event_at tag_at steps_at fields_at submit_at pass_at
    drain_at lie_at alone_at text_at statement_of statement_in content_at end_at
unknown_tag = refl

-- a Drain of 1,000,001, whose mask is cut off
too_many_steps : schedule_of (alone ++ (4 ∷ 0 ∷ 15 ∷ 66 ∷ 65 ∷ [])) ≡ Err (record { kind = faults.TooMany; place = 62 })
unfolding byte_that process_that setting_at limit_at header_at processes_at all_listed_at listed_at key_at plain_at lms_at hss_at tree_at
    ots_at genesis_at members_at whole_of schedule_of most_bytes most_steps events_at event_at tag_at steps_at fields_at submit_at pass_at
    drain_at lie_at alone_at text_at statement_of statement_in content_at end_at
too_many_steps = refl

-- a Drain whose count is cut off
cut_count : schedule_of (alone ++ (4 ∷ 0 ∷ 15 ∷ 66 ∷ [])) ≡ Err (record { kind = faults.Short; place = 63 })
unfolding byte_that process_that setting_at limit_at header_at processes_at all_listed_at listed_at key_at plain_at lms_at hss_at tree_at
    ots_at genesis_at members_at whole_of schedule_of most_bytes most_steps events_at event_at tag_at steps_at fields_at submit_at pass_at
    drain_at lie_at alone_at text_at statement_of statement_in content_at end_at
cut_count = refl

-- a Drain of 1,000,000, and a Tick
one_step_too_many : schedule_of (alone ++ (4 ∷ 0 ∷ 15 ∷ 66 ∷ 64 ∷ 0 ∷ 0 ∷ 0 ∷ 0 ∷ 0 ∷ 0 ∷ 0 ∷ 0 ∷ 9 ∷ 0 ∷ []))
    ≡ Err (record { kind = faults.TooMany; place = 75 })
unfolding byte_that process_that setting_at limit_at header_at processes_at all_listed_at listed_at key_at plain_at lms_at hss_at tree_at
    ots_at genesis_at members_at whole_of schedule_of most_bytes most_steps events_at event_at tag_at steps_at fields_at submit_at pass_at
    drain_at lie_at alone_at text_at statement_of statement_in content_at end_at
one_step_too_many = refl

-- a Lie by a correct process
no_corrupt_signer : schedule_of (alone ++ (5 ∷ 0 ∷ [])) ≡ Err (record { kind = faults.Field; place = 63 })
unfolding byte_that process_that setting_at limit_at header_at processes_at all_listed_at listed_at key_at plain_at lms_at hss_at tree_at
    ots_at genesis_at members_at whole_of schedule_of most_bytes most_steps events_at event_at tag_at steps_at fields_at submit_at pass_at
    drain_at lie_at alone_at text_at statement_of statement_in content_at end_at
no_corrupt_signer = refl

-- a Submit of two bytes, of which one is there
cut_event : schedule_of (alone ++ (1 ∷ 0 ∷ 0 ∷ 2 ∷ 104 ∷ [])) ≡ Err (record { kind = faults.Short; place = 66 })
unfolding byte_that process_that setting_at limit_at header_at processes_at all_listed_at listed_at key_at plain_at lms_at hss_at tree_at
    ots_at genesis_at members_at whole_of schedule_of most_bytes most_steps events_at event_at tag_at steps_at fields_at submit_at pass_at
    drain_at lie_at alone_at text_at statement_of statement_in content_at end_at
cut_event = refl

-- a Lie with an End of place 1,025, which is told behind the length
lie_past_a_limit : schedule_of (two ++ (5 ∷ 1 ∷ []) ++ (repeat 8 (0 ∷ [])) ++ (0 ∷ 5 ∷ 7 ∷ 0 ∷ 0 ∷ 4 ∷ 1 ∷ []))
    ≡ Err (record { kind = faults.Field; place = 112 })
unfolding byte_that process_that setting_at limit_at header_at processes_at all_listed_at listed_at key_at plain_at lms_at hss_at tree_at
    ots_at genesis_at members_at whole_of schedule_of most_bytes most_steps events_at event_at tag_at steps_at fields_at submit_at pass_at
    drain_at lie_at alone_at text_at statement_of statement_in content_at end_at
lie_past_a_limit = refl
