-- The row of specs/FailingCalls.antt, computed.
use Rattle.std.proofs.Common.{◌≡◌, refl, [], ◌∷◌, Some, ◌++◌, map, length, true}
use native.Mathlib.Decide.{ℕ_discrete}
use Rattle.byte_defs.specs.Equality.{bytes_discrete, list_discrete, option_discrete, pair_discrete}
use Rattle.message_defs.specs.Updates.{Value-discrete}
use Rattle.message_defs.specs.Statements.{Message-discrete, Batch-discrete}
use Rattle.message_defs.specs.Claims.{frame_said, claims_of, claims_of_groups, claims_of_group, claims_on}
use Rattle.message_defs.specs.Frames.{frame_of, all_groups, groups_at, group_at, signatures_at, signature_at, want_at}
use Rattle.message_defs.specs.Reading.{statement_in, content_at, init_at, payload_at, echo_at, message_at, placed_at, count_at, messages_at, end_at, last_at, notify_at, report_at, update_at, value_at, valued_at}
use Rattle.std.specs.Char.{encode_utf8}
use Rattle.std.specs.Fmt.{digits}
use Rattle.std.specs.Str.{is_utf8, chars}
use Rattle.hex.specs.Hex.{decode_pairs, encode_with}
use Rattle.node_defs.specs.Casts.{may_have_written}
use Rattle.group_defs.specs.Certified.{placed}
use Rattle.group_defs.specs.Due.{least_due, next_messages}
use Rattle.group_defs.specs.Hearing.{hear_all}
use Rattle.group_defs.specs.Signing.{sign_kind, sign_kinds, sign_all}
use Rattle.group_defs.specs.Settle.{deliver_more, settle}
use Rattle.group_defs.specs.Events.{after}
use Rattle.text_defs.specs.Words.{number_of, value_behind, bytes_of}
use Rattle.journal_defs.specs.Journals.{behind_gate}
use Rattle.node_defs.specs.Scripts.{line_said, said_by, payload_of, most_lines}
use Rattle.node_defs.specs.Nodes.{call_of, answered, after_task, after_leaving, after_read, reads, opens}
use Rattle.node_rows.specs.Outsides.{answer, drive, first_on, seen_of, outside}
use Rattle.std.specs.Prelude.{codes}
use Rattle.node_defs.specs.Casts.{from_start}
use Rattle.node_defs.specs.Nodes.{opens}
use Rattle.node_rows.specs.FailingCalls.{c, script, hosts, failing, run, FailingCalls}

send : ((run (failing script (2 ∷ []) [])).0 ≡ Some 0) × ((run (failing script (2 ∷ []) [])).1 ≡ codes "host 0 view 0 delivered 0 entries 0\nhost 1 view 0 delivered 0 entries 0\nfault 1\n") × ((run (failing script (2 ∷ []) [])).3 ≡ [])
unfolding ℕ_discrete bytes_discrete option_discrete pair_discrete Value-discrete Message-discrete list_discrete Batch-discrete placed
    next_messages least_due hear_all sign_kind sign_kinds sign_all deliver_more settle after number_of value_behind bytes_of behind_gate
    line_said said_by payload_of most_lines call_of answered after_task after_leaving after_read reads answer drive first_on c
    frame_said claims_of claims_of_groups claims_of_group claims_on frame_of all_groups groups_at group_at signatures_at signature_at want_at
    statement_in content_at init_at payload_at echo_at message_at placed_at count_at messages_at end_at last_at notify_at report_at update_at value_at valued_at
    digits decode_pairs encode_with may_have_written
send = (refl, refl, refl)

finish : ((run (failing script [] (0 ∷ []))).0 ≡ Some 5) × ((run (failing script [] (0 ∷ []))).1 ≡ codes "host 0 view 0 delivered 0 entries 0\nhost 1 view 0 delivered 0 entries 0\nstop 5 disk\n") × ((run (failing script [] (0 ∷ []))).3 ≡ [])
unfolding ℕ_discrete bytes_discrete option_discrete pair_discrete Value-discrete Message-discrete list_discrete Batch-discrete placed
    next_messages least_due hear_all sign_kind sign_kinds sign_all deliver_more settle after number_of value_behind bytes_of behind_gate
    line_said said_by payload_of most_lines call_of answered after_task after_leaving after_read reads answer drive first_on c
    frame_said claims_of claims_of_groups claims_of_group claims_on frame_of all_groups groups_at group_at signatures_at signature_at want_at
    statement_in content_at init_at payload_at echo_at message_at placed_at count_at messages_at end_at last_at notify_at report_at update_at value_at valued_at
    digits decode_pairs encode_with may_have_written
finish = (refl, refl, refl)

append : ((run (failing script [] (1 ∷ []))).0 ≡ Some 5) × ((run (failing script [] (1 ∷ []))).3 ≡ [])
unfolding ℕ_discrete bytes_discrete option_discrete pair_discrete Value-discrete Message-discrete list_discrete Batch-discrete placed
    next_messages least_due hear_all sign_kind sign_kinds sign_all deliver_more settle after number_of value_behind bytes_of behind_gate
    line_said said_by payload_of most_lines call_of answered after_task after_leaving after_read reads answer drive first_on c
    frame_said claims_of claims_of_groups claims_of_group claims_on frame_of all_groups groups_at group_at signatures_at signature_at want_at
    statement_in content_at init_at payload_at echo_at message_at placed_at count_at messages_at end_at last_at notify_at report_at update_at value_at valued_at
    digits decode_pairs encode_with may_have_written
append = (refl, refl)

bind : ((run (failing script (1 ∷ []) [])).0 ≡ Some 6) × ((run (failing script (1 ∷ []) [])).1 ≡ codes "stop 6 link\n")
unfolding ℕ_discrete bytes_discrete option_discrete pair_discrete Value-discrete Message-discrete list_discrete Batch-discrete placed
    next_messages least_due hear_all sign_kind sign_kinds sign_all deliver_more settle after number_of value_behind bytes_of behind_gate
    line_said said_by payload_of most_lines call_of answered after_task after_leaving after_read reads answer drive first_on c
    frame_said claims_of claims_of_groups claims_of_group claims_on frame_of all_groups groups_at group_at signatures_at signature_at want_at
    statement_in content_at init_at payload_at echo_at message_at placed_at count_at messages_at end_at last_at notify_at report_at update_at value_at valued_at
    digits decode_pairs encode_with may_have_written
bind = (refl, refl)

receive : ((run (failing (codes "0 recv 1" ∷ []) (2 ∷ []) [])).0 ≡ Some 0) × ((run (failing (codes "0 recv 1" ∷ []) (2 ∷ []) [])).1 ≡ codes "host 0 view 0 delivered 0 entries 0\nhost 1 view 0 delivered 0 entries 0\nfault 0\nrecv 0 0\n")
unfolding ℕ_discrete bytes_discrete option_discrete pair_discrete Value-discrete Message-discrete list_discrete Batch-discrete placed
    next_messages least_due hear_all sign_kind sign_kinds sign_all deliver_more settle after number_of value_behind bytes_of behind_gate
    line_said said_by payload_of most_lines call_of answered after_task after_leaving after_read reads answer drive first_on c
    frame_said claims_of claims_of_groups claims_of_group claims_on frame_of all_groups groups_at group_at signatures_at signature_at want_at
    statement_in content_at init_at payload_at echo_at message_at placed_at count_at messages_at end_at last_at notify_at report_at update_at value_at valued_at
    digits decode_pairs encode_with may_have_written
receive = (refl, refl)

no_line : (run (outside (codes "0 tick" ∷ codes "2 tick" ∷ codes "0 tick" ∷ []))).1 ≡ codes "host 0 view 0 delivered 0 entries 0\nhost 1 view 0 delivered 0 entries 0\nstop 7 line 2\n"
unfolding ℕ_discrete bytes_discrete option_discrete pair_discrete Value-discrete Message-discrete list_discrete Batch-discrete placed
    next_messages least_due hear_all sign_kind sign_kinds sign_all deliver_more settle after number_of value_behind bytes_of behind_gate
    line_said said_by payload_of most_lines call_of answered after_task after_leaving after_read reads answer drive first_on c
    frame_said claims_of claims_of_groups claims_of_group claims_on frame_of all_groups groups_at group_at signatures_at signature_at want_at
    statement_in content_at init_at payload_at echo_at message_at placed_at count_at messages_at end_at last_at notify_at report_at update_at value_at valued_at
    digits decode_pairs encode_with may_have_written
no_line = refl

upper_case : (run (outside (codes "0 submit 6A" ∷ []))).0 ≡ Some 7
unfolding ℕ_discrete bytes_discrete option_discrete pair_discrete Value-discrete Message-discrete list_discrete Batch-discrete placed
    next_messages least_due hear_all sign_kind sign_kinds sign_all deliver_more settle after number_of value_behind bytes_of behind_gate
    line_said said_by payload_of most_lines call_of answered after_task after_leaving after_read reads answer drive first_on c
    frame_said claims_of claims_of_groups claims_of_group claims_on frame_of all_groups groups_at group_at signatures_at signature_at want_at
    statement_in content_at init_at payload_at echo_at message_at placed_at count_at messages_at end_at last_at notify_at report_at update_at value_at valued_at
    digits decode_pairs encode_with may_have_written is_utf8 chars encode_utf8
upper_case = refl

refused : (run (outside (codes "0 suspect 9" ∷ []))).1 ≡ codes "host 0 view 0 delivered 0 entries 0\nhost 1 view 0 delivered 0 entries 0\nrefused 0 notmember\n"
unfolding ℕ_discrete bytes_discrete option_discrete pair_discrete Value-discrete Message-discrete list_discrete Batch-discrete placed
    next_messages least_due hear_all sign_kind sign_kinds sign_all deliver_more settle after number_of value_behind bytes_of behind_gate
    line_said said_by payload_of most_lines call_of answered after_task after_leaving after_read reads answer drive first_on c
    frame_said claims_of claims_of_groups claims_of_group claims_on frame_of all_groups groups_at group_at signatures_at signature_at want_at
    statement_in content_at init_at payload_at echo_at message_at placed_at count_at messages_at end_at last_at notify_at report_at update_at value_at valued_at
    digits decode_pairs encode_with may_have_written
refused = refl

pub failing_calls : FailingCalls
failing_calls = record { send = send; finish = finish; append = append; bind = bind; receive = receive; no_line = no_line; upper_case = upper_case; refused = refused }
