-- The row of specs/Begun.antt, computed.
use Rattle.std.proofs.Common.{◌≡◌, refl, [], ◌∷◌, Some, ◌++◌, map, length, true, false}
use native.Mathlib.Decide.{ℕ_discrete}
use Rattle.byte_defs.specs.Equality.{bytes_discrete, list_discrete, option_discrete, pair_discrete}
use Rattle.message_defs.specs.Updates.{Value-discrete}
use Rattle.message_defs.specs.Statements.{Message-discrete, Batch-discrete}
use Rattle.message_defs.specs.Claims.{frame_said, claims_of, claims_of_groups, claims_of_group, claims_on}
use Rattle.message_defs.specs.Frames.{frame_of, all_groups, groups_at, group_at, signatures_at, signature_at, want_at}
use Rattle.message_defs.specs.Reading.{statement_in, content_at, init_at, payload_at, echo_at, message_at, placed_at, count_at, messages_at, end_at, last_at, notify_at, report_at, update_at, value_at, valued_at}
use Rattle.std.specs.Fmt.{digits}
use Rattle.hex.specs.Hex.{decode_pairs, encode_with}
use Rattle.node_defs.specs.Casts.{may_have_written}
use Rattle.group_defs.specs.Certified.{placed}
use Rattle.group_defs.specs.Due.{least_due, next_messages}
use Rattle.group_defs.specs.Hearing.{hear_all}
use Rattle.group_defs.specs.Signing.{sign_kind, sign_kinds, sign_all}
use Rattle.group_defs.specs.Settle.{deliver_more, settle}
use Rattle.group_defs.specs.Events.{after}
use Rattle.text_defs.specs.Words.{number_of, value_behind, bytes_of}
use Rattle.journal_defs.specs.Journals.{behind_gate}
use Rattle.node_defs.specs.Scripts.{line_said, said_by, payload_of, most_lines}
use Rattle.node_defs.specs.Nodes.{call_of, answered, after_task, after_leaving, after_read, reads, opens}
use Rattle.node_rows.specs.Outsides.{answer, drive, first_on, seen_of, outside}
use Rattle.std.specs.Prelude.{codes}
use Rattle.journal_defs.specs.Entries.{Submit, Suspect, Tick}
use Rattle.node_defs.specs.Casts.{from_start}
use Rattle.node_defs.specs.Nodes.{opens_broken}
use Rattle.node_rows.specs.Begun.{c, false_signer, entry, begun, behind, Begun}

again : (begun c (opens c (from_start c) 0 (entry c (Submit (97 ∷ [])) ∷ []))).1 ≡ codes "host 0 view 0 delivered 0 entries 1\nhost 1 view 0 delivered 0 entries 0\n"
unfolding ℕ_discrete bytes_discrete option_discrete pair_discrete Value-discrete Message-discrete list_discrete Batch-discrete placed
    next_messages least_due hear_all sign_kind sign_kinds sign_all deliver_more settle after number_of value_behind bytes_of behind_gate
    line_said said_by payload_of most_lines call_of answered after_task after_leaving after_read reads answer drive first_on c false_signer
    frame_said claims_of claims_of_groups claims_of_group claims_on frame_of all_groups groups_at group_at signatures_at signature_at want_at
    statement_in content_at init_at payload_at echo_at message_at placed_at count_at messages_at end_at last_at notify_at report_at update_at value_at valued_at
    digits decode_pairs encode_with may_have_written
again = refl

behind_refused : (begun c (opens c behind 0 [])).1 ≡ codes "host 0 view 0 delivered 0 entries 7\nhost 1 view 0 delivered 0 entries 0\n"
unfolding ℕ_discrete bytes_discrete option_discrete pair_discrete Value-discrete Message-discrete list_discrete Batch-discrete placed
    next_messages least_due hear_all sign_kind sign_kinds sign_all deliver_more settle after number_of value_behind bytes_of behind_gate
    line_said said_by payload_of most_lines call_of answered after_task after_leaving after_read reads answer drive first_on c false_signer
    frame_said claims_of claims_of_groups claims_of_group claims_on frame_of all_groups groups_at group_at signatures_at signature_at want_at
    statement_in content_at init_at payload_at echo_at message_at placed_at count_at messages_at end_at last_at notify_at report_at update_at value_at valued_at
    digits decode_pairs encode_with may_have_written
behind_refused = refl

broken : (begun c (opens_broken c (from_start c) 0 [] 60)).1 ≡ codes "stop 8 journal 0 60\n"
unfolding ℕ_discrete bytes_discrete option_discrete pair_discrete Value-discrete Message-discrete list_discrete Batch-discrete placed
    next_messages least_due hear_all sign_kind sign_kinds sign_all deliver_more settle after number_of value_behind bytes_of behind_gate
    line_said said_by payload_of most_lines call_of answered after_task after_leaving after_read reads answer drive first_on c false_signer
    frame_said claims_of claims_of_groups claims_of_group claims_on frame_of all_groups groups_at group_at signatures_at signature_at want_at
    statement_in content_at init_at payload_at echo_at message_at placed_at count_at messages_at end_at last_at notify_at report_at update_at value_at valued_at
    digits decode_pairs encode_with may_have_written
broken = refl

too_few : (begun c (opens c (from_start c) 0 (record (entry c (Submit (97 ∷ []))) { signatures = [] ∷ [] } ∷ []))).1 ≡ codes "stop 8 journal 0 60\n"
unfolding ℕ_discrete bytes_discrete option_discrete pair_discrete Value-discrete Message-discrete list_discrete Batch-discrete placed
    next_messages least_due hear_all sign_kind sign_kinds sign_all deliver_more settle after number_of value_behind bytes_of behind_gate
    line_said said_by payload_of most_lines call_of answered after_task after_leaving after_read reads answer drive first_on c false_signer
    frame_said claims_of claims_of_groups claims_of_group claims_on frame_of all_groups groups_at group_at signatures_at signature_at want_at
    statement_in content_at init_at payload_at echo_at message_at placed_at count_at messages_at end_at last_at notify_at report_at update_at value_at valued_at
    digits decode_pairs encode_with may_have_written
too_few = refl

not_spent : (begun c (opens c (from_start c) 0 (record (entry c (Submit (97 ∷ []))) { spent = true } ∷ []))).1 ≡ codes "stop 8 journal 0 60\n"
unfolding ℕ_discrete bytes_discrete option_discrete pair_discrete Value-discrete Message-discrete list_discrete Batch-discrete placed
    next_messages least_due hear_all sign_kind sign_kinds sign_all deliver_more settle after number_of value_behind bytes_of behind_gate
    line_said said_by payload_of most_lines call_of answered after_task after_leaving after_read reads answer drive first_on c false_signer
    frame_said claims_of claims_of_groups claims_of_group claims_on frame_of all_groups groups_at group_at signatures_at signature_at want_at
    statement_in content_at init_at payload_at echo_at message_at placed_at count_at messages_at end_at last_at notify_at report_at update_at value_at valued_at
    digits decode_pairs encode_with may_have_written
not_spent = refl

stranger : (begun c (opens c (from_start c) 0 (record (entry c Tick) { process = 2 } ∷ []))).1 ≡ codes "stop 8 journal 0 60\n"
unfolding ℕ_discrete bytes_discrete option_discrete pair_discrete Value-discrete Message-discrete list_discrete Batch-discrete placed
    next_messages least_due hear_all sign_kind sign_kinds sign_all deliver_more settle after number_of value_behind bytes_of behind_gate
    line_said said_by payload_of most_lines call_of answered after_task after_leaving after_read reads answer drive first_on c false_signer
    frame_said claims_of claims_of_groups claims_of_group claims_on frame_of all_groups groups_at group_at signatures_at signature_at want_at
    statement_in content_at init_at payload_at echo_at message_at placed_at count_at messages_at end_at last_at notify_at report_at update_at value_at valued_at
    digits decode_pairs encode_with may_have_written
stranger = refl

invalid : (begun false_signer (opens false_signer (from_start false_signer) 0 (entry false_signer (Submit (97 ∷ [])) ∷ []))).1 ≡ codes "stop 8 journal 0 60\n"
unfolding ℕ_discrete bytes_discrete option_discrete pair_discrete Value-discrete Message-discrete list_discrete Batch-discrete placed
    next_messages least_due hear_all sign_kind sign_kinds sign_all deliver_more settle after number_of value_behind bytes_of behind_gate
    line_said said_by payload_of most_lines call_of answered after_task after_leaving after_read reads answer drive first_on c false_signer
    frame_said claims_of claims_of_groups claims_of_group claims_on frame_of all_groups groups_at group_at signatures_at signature_at want_at
    statement_in content_at init_at payload_at echo_at message_at placed_at count_at messages_at end_at last_at notify_at report_at update_at value_at valued_at
    digits decode_pairs encode_with may_have_written
invalid = refl

refused_fits : (begun c (opens c (from_start c) 0 (record { process = 0; event = Suspect 9; spent = false; signatures = [] } ∷ []))).1 ≡ codes "host 0 view 0 delivered 0 entries 1\nhost 1 view 0 delivered 0 entries 0\n"
unfolding ℕ_discrete bytes_discrete option_discrete pair_discrete Value-discrete Message-discrete list_discrete Batch-discrete placed
    next_messages least_due hear_all sign_kind sign_kinds sign_all deliver_more settle after number_of value_behind bytes_of behind_gate
    line_said said_by payload_of most_lines call_of answered after_task after_leaving after_read reads answer drive first_on c false_signer
    frame_said claims_of claims_of_groups claims_of_group claims_on frame_of all_groups groups_at group_at signatures_at signature_at want_at
    statement_in content_at init_at payload_at echo_at message_at placed_at count_at messages_at end_at last_at notify_at report_at update_at value_at valued_at
    digits decode_pairs encode_with may_have_written
refused_fits = refl

pub begun_nodes : Begun
begun_nodes = record { again = again; behind_refused = behind_refused; broken = broken; too_few = too_few; not_spent = not_spent; stranger = stranger; invalid = invalid; refused_fits = refused_fits }
