-- What a row opens to compute what an audit writes.
use Rattle.std.specs.Prelude.{⊤}
use Rattle.std.specs.Fmt.{digits}
use native.Mathlib.Decide.{ℕ_discrete}
use Rattle.hex.specs.Hex.{encode_with}
use Rattle.byte_defs.specs.Equality.{bytes_discrete, list_discrete, option_discrete, pair_discrete}
use Rattle.message_defs.specs.Updates.{Value-discrete}
use Rattle.message_defs.specs.Statements.{Message-discrete, Batch-discrete}
use Rattle.message_defs.specs.Reading.{message_at, messages_at, count_at, payload_at, update_at, value_at, report_at, init_at, echo_at, placed_at, notify_at, end_at, last_at, valued_at, content_at, statement_in, statement_of}
use Rattle.message_defs.specs.Frames.{signature_at, signatures_at, group_at, groups_at, all_groups, want_at, frame_of}
use Rattle.message_defs.specs.Claims.{claims_on, claims_of_group, claims_of_groups, claims_of, frame_said}
use Rattle.message_defs.specs.Entries.{kept_at, all_kept_at}
use Rattle.group_defs.specs.Views.{View-discrete}
use Rattle.group_defs.specs.Process.{Letter-discrete, Delivered-discrete}
use Rattle.group_defs.specs.Certified.{placed}
use Rattle.group_defs.specs.Due.{least_due, next_messages}
use Rattle.group_defs.specs.Hearing.{hear_all}
use Rattle.group_defs.specs.Signing.{sign_kind, sign_kinds, sign_all}
use Rattle.group_defs.specs.Settle.{deliver_more, settle}
use Rattle.group_defs.specs.Events.{after, run}
use Rattle.journal_defs.specs.Entries.{submit_at, frame_at, of_process_at, event_at, entry_of}
use Rattle.journal_defs.specs.Journals.{behind_gate, record_at}
use Rattle.audit_defs.specs.Sources.{steps_from}
use Rattle.audit_defs.specs.Players.{taking, most_signatures}
use Rattle.conviction_defs.specs.Convictions.{pair_behind}
use Rattle.audit_defs.specs.Audits.{goes_through, audited_in}

unfoldable pub all_opened : ⊤
unfolding digits ℕ_discrete encode_with bytes_discrete list_discrete option_discrete pair_discrete Value-discrete Message-discrete
    Batch-discrete message_at messages_at count_at payload_at update_at value_at report_at init_at echo_at placed_at notify_at end_at last_at
    valued_at content_at statement_in statement_of signature_at signatures_at group_at groups_at all_groups want_at frame_of claims_on
    claims_of_group claims_of_groups claims_of frame_said kept_at all_kept_at View-discrete Letter-discrete Delivered-discrete placed
    least_due next_messages hear_all sign_kind sign_kinds sign_all deliver_more settle after run submit_at frame_at of_process_at event_at
    entry_of behind_gate record_at steps_from taking most_signatures pair_behind goes_through audited_in
all_opened = tt
