-- The row of specs/Reported.antt, computed.
use Rattle.std.proofs.Common.{◌≡◌, refl, [], ◌++◌}
use Rattle.std.specs.Prelude.{codes}
use native.Mathlib.Decide.{ℕ_discrete}
use Rattle.byte_defs.specs.Equality.{bytes_discrete, list_discrete, option_discrete, pair_discrete}
use Rattle.std.specs.Fmt.{digits}
use Rattle.hex.specs.Hex.{decode_pairs}
use Rattle.text_defs.specs.Words.{bytes_of}
use Rattle.message_defs.specs.Updates.{Value-discrete}
use Rattle.message_defs.specs.Statements.{Message-discrete, Batch-discrete}
use Rattle.message_defs.specs.Frames.{signature_at, signatures_at, group_at, groups_at, all_groups, want_at, frame_of}
use Rattle.message_defs.specs.Reading.{message_at, messages_at, count_at, payload_at, update_at, value_at, echo_at, placed_at, valued_at, content_at, statement_in}
use Rattle.message_defs.specs.Claims.{claims_on, claims_of_group, claims_of_groups, claims_of}
use Rattle.chain_defs.specs.Advance.{proof_said, advance}
use Rattle.chain_text_defs.specs.Chains.{proof_in, chain_at}
use Rattle.chain_rows.specs.Reported.{s, says, Reported, two_views, again, no_proof, want_line, short_line, no_bytes, odd_digits, upper_case, two_words, other_word, empty_line, no_line_feed, behind_a_view}

is_two_views : chain_at s 14 s.genesis two_views ≡ says (codes "view 1 : 0 1\n") 0
unfolding ℕ_discrete bytes_discrete option_discrete pair_discrete Value-discrete Message-discrete list_discrete Batch-discrete signature_at signatures_at group_at groups_at all_groups want_at frame_of message_at messages_at count_at payload_at placed_at echo_at update_at value_at valued_at content_at statement_in claims_on claims_of_group claims_of_groups claims_of proof_said advance digits decode_pairs bytes_of proof_in chain_at two_views
is_two_views = refl

is_again : chain_at s 14 s.genesis again ≡ says (codes "view 1 : 0 1\n" ++ codes "stop 7 few 15 0\n") 7
unfolding ℕ_discrete bytes_discrete option_discrete pair_discrete Value-discrete Message-discrete list_discrete Batch-discrete signature_at signatures_at group_at groups_at all_groups want_at frame_of message_at messages_at count_at payload_at placed_at echo_at update_at value_at valued_at content_at statement_in claims_on claims_of_group claims_of_groups claims_of proof_said advance digits decode_pairs bytes_of proof_in chain_at again
is_again = refl

is_no_proof : chain_at s 14 s.genesis no_proof ≡ says ([]) 0
unfolding ℕ_discrete bytes_discrete option_discrete pair_discrete Value-discrete Message-discrete list_discrete Batch-discrete signature_at signatures_at group_at groups_at all_groups want_at frame_of message_at messages_at count_at payload_at placed_at echo_at update_at value_at valued_at content_at statement_in claims_on claims_of_group claims_of_groups claims_of proof_said advance digits decode_pairs bytes_of proof_in chain_at no_proof
is_no_proof = refl

is_want_line : chain_at s 14 s.genesis want_line ≡ says (codes "stop 7 notproof 14\n") 7
unfolding ℕ_discrete bytes_discrete option_discrete pair_discrete Value-discrete Message-discrete list_discrete Batch-discrete signature_at signatures_at group_at groups_at all_groups want_at frame_of message_at messages_at count_at payload_at placed_at echo_at update_at value_at valued_at content_at statement_in claims_on claims_of_group claims_of_groups claims_of proof_said advance digits decode_pairs bytes_of proof_in chain_at want_line
is_want_line = refl

is_short_line : chain_at s 14 s.genesis short_line ≡ says (codes "stop 7 frame 14 short\n") 7
unfolding ℕ_discrete bytes_discrete option_discrete pair_discrete Value-discrete Message-discrete list_discrete Batch-discrete signature_at signatures_at group_at groups_at all_groups want_at frame_of message_at messages_at count_at payload_at placed_at echo_at update_at value_at valued_at content_at statement_in claims_on claims_of_group claims_of_groups claims_of proof_said advance digits decode_pairs bytes_of proof_in chain_at short_line
is_short_line = refl

is_no_bytes : chain_at s 14 s.genesis no_bytes ≡ says (codes "stop 7 line 14\n") 7
unfolding ℕ_discrete bytes_discrete option_discrete pair_discrete Value-discrete Message-discrete list_discrete Batch-discrete signature_at signatures_at group_at groups_at all_groups want_at frame_of message_at messages_at count_at payload_at placed_at echo_at update_at value_at valued_at content_at statement_in claims_on claims_of_group claims_of_groups claims_of proof_said advance digits decode_pairs bytes_of proof_in chain_at no_bytes
is_no_bytes = refl

is_odd_digits : chain_at s 14 s.genesis odd_digits ≡ says (codes "stop 7 line 14\n") 7
unfolding ℕ_discrete bytes_discrete option_discrete pair_discrete Value-discrete Message-discrete list_discrete Batch-discrete signature_at signatures_at group_at groups_at all_groups want_at frame_of message_at messages_at count_at payload_at placed_at echo_at update_at value_at valued_at content_at statement_in claims_on claims_of_group claims_of_groups claims_of proof_said advance digits decode_pairs bytes_of proof_in chain_at odd_digits
is_odd_digits = refl

is_upper_case : chain_at s 14 s.genesis upper_case ≡ says (codes "stop 7 line 14\n") 7
unfolding ℕ_discrete bytes_discrete option_discrete pair_discrete Value-discrete Message-discrete list_discrete Batch-discrete signature_at signatures_at group_at groups_at all_groups want_at frame_of message_at messages_at count_at payload_at placed_at echo_at update_at value_at valued_at content_at statement_in claims_on claims_of_group claims_of_groups claims_of proof_said advance digits decode_pairs bytes_of proof_in chain_at upper_case
is_upper_case = refl

is_two_words : chain_at s 14 s.genesis two_words ≡ says (codes "stop 7 line 14\n") 7
unfolding ℕ_discrete bytes_discrete option_discrete pair_discrete Value-discrete Message-discrete list_discrete Batch-discrete signature_at signatures_at group_at groups_at all_groups want_at frame_of message_at messages_at count_at payload_at placed_at echo_at update_at value_at valued_at content_at statement_in claims_on claims_of_group claims_of_groups claims_of proof_said advance digits decode_pairs bytes_of proof_in chain_at two_words
is_two_words = refl

is_other_word : chain_at s 14 s.genesis other_word ≡ says (codes "stop 7 line 14\n") 7
unfolding ℕ_discrete bytes_discrete option_discrete pair_discrete Value-discrete Message-discrete list_discrete Batch-discrete signature_at signatures_at group_at groups_at all_groups want_at frame_of message_at messages_at count_at payload_at placed_at echo_at update_at value_at valued_at content_at statement_in claims_on claims_of_group claims_of_groups claims_of proof_said advance digits decode_pairs bytes_of proof_in chain_at other_word
is_other_word = refl

is_empty_line : chain_at s 14 s.genesis empty_line ≡ says (codes "stop 7 line 14\n") 7
unfolding ℕ_discrete bytes_discrete option_discrete pair_discrete Value-discrete Message-discrete list_discrete Batch-discrete signature_at signatures_at group_at groups_at all_groups want_at frame_of message_at messages_at count_at payload_at placed_at echo_at update_at value_at valued_at content_at statement_in claims_on claims_of_group claims_of_groups claims_of proof_said advance digits decode_pairs bytes_of proof_in chain_at empty_line
is_empty_line = refl

is_no_line_feed : chain_at s 14 s.genesis no_line_feed ≡ says (codes "stop 7 line 14\n") 7
unfolding ℕ_discrete bytes_discrete option_discrete pair_discrete Value-discrete Message-discrete list_discrete Batch-discrete signature_at signatures_at group_at groups_at all_groups want_at frame_of message_at messages_at count_at payload_at placed_at echo_at update_at value_at valued_at content_at statement_in claims_on claims_of_group claims_of_groups claims_of proof_said advance digits decode_pairs bytes_of proof_in chain_at no_line_feed
is_no_line_feed = refl

is_behind_a_view : chain_at s 14 s.genesis behind_a_view ≡ says (codes "view 1 : 0 1\n" ++ codes "stop 7 line 15\n") 7
unfolding ℕ_discrete bytes_discrete option_discrete pair_discrete Value-discrete Message-discrete list_discrete Batch-discrete signature_at signatures_at group_at groups_at all_groups want_at frame_of message_at messages_at count_at payload_at placed_at echo_at update_at value_at valued_at content_at statement_in claims_on claims_of_group claims_of_groups claims_of proof_said advance digits decode_pairs bytes_of proof_in chain_at behind_a_view
is_behind_a_view = refl

pub reported_rows : Reported
reported_rows = record {
  is_two_views = is_two_views;
  is_again = is_again;
  is_no_proof = is_no_proof;
  is_want_line = is_want_line;
  is_short_line = is_short_line;
  is_no_bytes = is_no_bytes;
  is_odd_digits = is_odd_digits;
  is_upper_case = is_upper_case;
  is_two_words = is_two_words;
  is_other_word = is_other_word;
  is_empty_line = is_empty_line;
  is_no_line_feed = is_no_line_feed;
  is_behind_a_view = is_behind_a_view;
}
