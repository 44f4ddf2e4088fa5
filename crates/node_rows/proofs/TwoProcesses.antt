-- The row of specs/TwoProcesses.antt, computed.
use Rattle.std.proofs.Common.{◌≡◌, refl, [], ◌∷◌, Some}
use native.Mathlib.Decide.{ℕ_discrete}
use Rattle.byte_defs.specs.Equality.{bytes_discrete, list_discrete, option_discrete, pair_discrete}
use Rattle.message_defs.specs.Updates.{Value-discrete}
use Rattle.message_defs.specs.Statements.{Message-discrete, Batch-discrete}
use Rattle.message_defs.specs.Claims.{frame_said, claims_of, claims_of_groups, claims_of_group, claims_on}
use Rattle.message_defs.specs.Frames.{frame_of, all_groups, groups_at, group_at, signatures_at, signature_at, want_at}
use Rattle.message_defs.specs.Reading.{statement_in, content_at, init_at, payload_at, echo_at, message_at, placed_at, count_at, messages_at, end_at, last_at, notify_at, report_at, update_at, value_at, valued_at}
use Rattle.std.specs.Fmt.{digits}
use Rattle.hex.specs.Hex.{decode_pairs, encode_with}
use Rattle.node_defs.specs.Casts.{may_have_written}
use Rattle.group_defs.specs.Certified.{placed}
use Rattle.group_defs.specs.Due.{least_due, next_messages}
use Rattle.group_defs.specs.Hearing.{hear_all}
use Rattle.group_defs.specs.Signing.{sign_kind, sign_kinds, sign_all}
use Rattle.group_defs.specs.Settle.{deliver_more, settle}
use Rattle.group_defs.specs.Events.{after}
use Rattle.text_defs.specs.Words.{number_of, value_behind, bytes_of}
use Rattle.journal_defs.specs.Journals.{behind_gate}
use Rattle.node_defs.specs.Scripts.{line_said, said_by, payload_of, most_lines}
use Rattle.node_defs.specs.Nodes.{call_of, answered, after_task, after_leaving, after_read, reads, opens}
use Rattle.node_rows.specs.Outsides.{answer, drive, first_on, seen_of, outside}
use Rattle.node_rows.specs.TwoProcesses.{c, script, text, run, losing, losing_text, TwoProcesses}

status : (seen_of (run script 100)).0 ≡ Some 0
unfolding ℕ_discrete bytes_discrete option_discrete pair_discrete Value-discrete Message-discrete list_discrete Batch-discrete placed
    next_messages least_due hear_all sign_kind sign_kinds sign_all deliver_more settle after number_of value_behind bytes_of behind_gate
    line_said said_by payload_of most_lines call_of answered after_task after_leaving after_read reads answer drive first_on c script
    frame_said claims_of claims_of_groups claims_of_group claims_on frame_of all_groups groups_at group_at signatures_at signature_at want_at
    statement_in content_at init_at payload_at echo_at message_at placed_at count_at messages_at end_at last_at notify_at report_at update_at value_at valued_at
    digits decode_pairs encode_with may_have_written
status = refl

lines : (seen_of (run script 100)).1 ≡ text
unfolding ℕ_discrete bytes_discrete option_discrete pair_discrete Value-discrete Message-discrete list_discrete Batch-discrete placed
    next_messages least_due hear_all sign_kind sign_kinds sign_all deliver_more settle after number_of value_behind bytes_of behind_gate
    line_said said_by payload_of most_lines call_of answered after_task after_leaving after_read reads answer drive first_on c script
    frame_said claims_of claims_of_groups claims_of_group claims_on frame_of all_groups groups_at group_at signatures_at signature_at want_at
    statement_in content_at init_at payload_at echo_at message_at placed_at count_at messages_at end_at last_at notify_at report_at update_at value_at valued_at
    digits decode_pairs encode_with may_have_written
lines = refl

note_before_fault : losing.1 ≡ losing_text
unfolding ℕ_discrete bytes_discrete option_discrete pair_discrete Value-discrete Message-discrete list_discrete Batch-discrete placed
    next_messages least_due hear_all sign_kind sign_kinds sign_all deliver_more settle after number_of value_behind bytes_of behind_gate
    line_said said_by payload_of most_lines call_of answered after_task after_leaving after_read reads answer drive first_on c script
    frame_said claims_of claims_of_groups claims_of_group claims_on frame_of all_groups groups_at group_at signatures_at signature_at want_at
    statement_in content_at init_at payload_at echo_at message_at placed_at count_at messages_at end_at last_at notify_at report_at update_at value_at valued_at
    digits decode_pairs encode_with may_have_written
note_before_fault = refl

pub two_processes : TwoProcesses
two_processes = record { status = status; lines = lines; note_before_fault = note_before_fault }
