-- The row of specs/Whole.antt, computed.
use Rattle.std.proofs.Common.{◌≡◌, refl, ◌++◌}
use Rattle.std.specs.Prelude.{codes}
use native.Mathlib.Decide.{ℕ_discrete}
use Rattle.std.specs.Fmt.{digits}
use Rattle.hex.specs.Hex.{decode_pairs}
use Rattle.sha2.specs.Sha256.{first_words, schedule, rounds, compress, hash_after, digest_bytes, sha256}
use Rattle.byte_defs.specs.Equality.{bytes_discrete, list_discrete, option_discrete, pair_discrete}
use Rattle.text_defs.specs.Words.{begin_with, value_behind, number_of, bytes_of}
use Rattle.kit_defs.specs.KitReading.{members_by, line_by, is_repeated, take_line, finish}
use Rattle.message_defs.specs.Updates.{Value-discrete}
use Rattle.message_defs.specs.Statements.{Message-discrete, Batch-discrete}
use Rattle.message_defs.specs.Frames.{signature_at, signatures_at, group_at, groups_at, all_groups, want_at, frame_of}
use Rattle.message_defs.specs.Reading.{message_at, messages_at, count_at, payload_at, update_at, value_at, echo_at, placed_at, valued_at, content_at, statement_in}
use Rattle.message_defs.specs.Claims.{claims_on, claims_of_group, claims_of_groups, claims_of}
use Rattle.input_defs.specs.Fronts.{front_at}
use Rattle.chain_defs.specs.Advance.{proof_said, advance}
use Rattle.chain_text_defs.specs.Chains.{proof_in, chain_at, chain_of}
use Rattle.chain_rows.specs.Reported.{says}
use Rattle.chain_rows.specs.Whole.{input, Whole}

is_input : chain_of input ≡ says (codes "view 0 : 0\n" ++ codes "view 1 : 0 1\n" ++ codes "stop 7 few 15 0\n") 7
unfolding ℕ_discrete bytes_discrete option_discrete pair_discrete Value-discrete Message-discrete list_discrete Batch-discrete signature_at
    signatures_at group_at groups_at all_groups want_at frame_of message_at messages_at count_at payload_at placed_at echo_at update_at value_at
    valued_at content_at statement_in claims_on claims_of_group claims_of_groups claims_of proof_said advance digits decode_pairs bytes_of
    begin_with value_behind number_of members_by line_by is_repeated take_line finish front_at proof_in chain_at chain_of input first_words schedule
    rounds compress hash_after digest_bytes sha256
is_input = refl

pub whole_row : Whole
whole_row = record { is_input = is_input }
