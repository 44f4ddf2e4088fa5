-- The row of specs/Frames.antt, computed.
use Rattle.std.proofs.Common.{◌≡◌, refl, [], ◌∷◌}
use Rattle.std.specs.Prelude.{Ok, Err}
use native.Mathlib.Decide.{ℕ_discrete}
use Rattle.byte_defs.specs.Equality.{bytes_discrete, list_discrete, option_discrete, pair_discrete}
use Rattle.message_defs.specs.declared.FrameFault.TheVariants as frames
use Rattle.message_defs.specs.Updates.{Value-discrete}
use Rattle.message_defs.specs.Statements.{Message-discrete, Batch-discrete}
use Rattle.message_defs.specs.Frames.{signature_at, signatures_at, group_at, groups_at, all_groups, want_at, frame_of}
use Rattle.message_defs.specs.Reading.{update_at, value_at, valued_at, content_at, statement_in}
use Rattle.message_defs.specs.Claims.{claims_on, claims_of_group, claims_of_groups, claims_of}
use Rattle.chain_defs.specs.declared.ChainFault.TheVariants as chains
use Rattle.chain_defs.specs.Advance.{proof_said, advance}
use Rattle.chain_rows.specs.Scripts.{s}
use Rattle.chain_rows.specs.Shown.{four}
use Rattle.chain_rows.specs.Frames.{Frames, packed, a_bundle, a_want, want_beyond, nothing_at_all, version_two, fourth_kind, no_groups, cut_off, one_more, notify_in_proof, bad_group_behind, signer_beyond}

is_packed : advance s four packed ≡ Ok (record { number = 1; members = 0 ∷ 1 ∷ 2 ∷ 3 ∷ [] })
unfolding ℕ_discrete bytes_discrete option_discrete pair_discrete Value-discrete Message-discrete list_discrete Batch-discrete signature_at signatures_at group_at groups_at all_groups want_at frame_of update_at value_at valued_at content_at statement_in claims_on claims_of_group claims_of_groups claims_of proof_said advance packed
is_packed = refl

is_a_bundle : advance s four a_bundle ≡ Err chains.NotProof
unfolding ℕ_discrete bytes_discrete option_discrete pair_discrete Value-discrete Message-discrete list_discrete Batch-discrete signature_at signatures_at group_at groups_at all_groups want_at frame_of update_at value_at valued_at content_at statement_in claims_on claims_of_group claims_of_groups claims_of proof_said advance a_bundle
is_a_bundle = refl

is_a_want : advance s four a_want ≡ Err chains.NotProof
unfolding ℕ_discrete bytes_discrete option_discrete pair_discrete Value-discrete Message-discrete list_discrete Batch-discrete signature_at signatures_at group_at groups_at all_groups want_at frame_of update_at value_at valued_at content_at statement_in claims_on claims_of_group claims_of_groups claims_of proof_said advance a_want
is_a_want = refl

is_want_beyond : advance s four want_beyond ≡ Err (chains.Frame frames.Range)
unfolding ℕ_discrete bytes_discrete option_discrete pair_discrete Value-discrete Message-discrete list_discrete Batch-discrete signature_at signatures_at group_at groups_at all_groups want_at frame_of update_at value_at valued_at content_at statement_in claims_on claims_of_group claims_of_groups claims_of proof_said advance want_beyond
is_want_beyond = refl

is_nothing_at_all : advance s four nothing_at_all ≡ Err (chains.Frame frames.Short)
unfolding ℕ_discrete bytes_discrete option_discrete pair_discrete Value-discrete Message-discrete list_discrete Batch-discrete signature_at signatures_at group_at groups_at all_groups want_at frame_of update_at value_at valued_at content_at statement_in claims_on claims_of_group claims_of_groups claims_of proof_said advance nothing_at_all
is_nothing_at_all = refl

is_version_two : advance s four version_two ≡ Err (chains.Frame frames.Version)
unfolding ℕ_discrete bytes_discrete option_discrete pair_discrete Value-discrete Message-discrete list_discrete Batch-discrete signature_at signatures_at group_at groups_at all_groups want_at frame_of update_at value_at valued_at content_at statement_in claims_on claims_of_group claims_of_groups claims_of proof_said advance version_two
is_version_two = refl

is_fourth_kind : advance s four fourth_kind ≡ Err (chains.Frame frames.Kind)
unfolding ℕ_discrete bytes_discrete option_discrete pair_discrete Value-discrete Message-discrete list_discrete Batch-discrete signature_at signatures_at group_at groups_at all_groups want_at frame_of update_at value_at valued_at content_at statement_in claims_on claims_of_group claims_of_groups claims_of proof_said advance fourth_kind
is_fourth_kind = refl

is_no_groups : advance s four no_groups ≡ Err (chains.Frame frames.Count)
unfolding ℕ_discrete bytes_discrete option_discrete pair_discrete Value-discrete Message-discrete list_discrete Batch-discrete signature_at signatures_at group_at groups_at all_groups want_at frame_of update_at value_at valued_at content_at statement_in claims_on claims_of_group claims_of_groups claims_of proof_said advance no_groups
is_no_groups = refl

is_cut_off : advance s four cut_off ≡ Err (chains.Frame frames.Short)
unfolding ℕ_discrete bytes_discrete option_discrete pair_discrete Value-discrete Message-discrete list_discrete Batch-discrete signature_at signatures_at group_at groups_at all_groups want_at frame_of update_at value_at valued_at content_at statement_in claims_on claims_of_group claims_of_groups claims_of proof_said advance cut_off
is_cut_off = refl

is_one_more : advance s four one_more ≡ Err (chains.Frame frames.Trailing)
unfolding ℕ_discrete bytes_discrete option_discrete pair_discrete Value-discrete Message-discrete list_discrete Batch-discrete signature_at signatures_at group_at groups_at all_groups want_at frame_of update_at value_at valued_at content_at statement_in claims_on claims_of_group claims_of_groups claims_of proof_said advance one_more
is_one_more = refl

is_notify_in_proof : advance s four notify_in_proof ≡ Err (chains.Frame frames.Misplaced)
unfolding ℕ_discrete bytes_discrete option_discrete pair_discrete Value-discrete Message-discrete list_discrete Batch-discrete signature_at signatures_at group_at groups_at all_groups want_at frame_of update_at value_at valued_at content_at statement_in claims_on claims_of_group claims_of_groups claims_of proof_said advance notify_in_proof
is_notify_in_proof = refl

is_bad_group_behind : advance s four bad_group_behind ≡ Err (chains.Frame frames.Statement)
unfolding ℕ_discrete bytes_discrete option_discrete pair_discrete Value-discrete Message-discrete list_discrete Batch-discrete signature_at signatures_at group_at groups_at all_groups want_at frame_of update_at value_at valued_at content_at statement_in claims_on claims_of_group claims_of_groups claims_of proof_said advance bad_group_behind
is_bad_group_behind = refl

is_signer_beyond : advance s four signer_beyond ≡ Err (chains.Frame frames.Range)
unfolding ℕ_discrete bytes_discrete option_discrete pair_discrete Value-discrete Message-discrete list_discrete Batch-discrete signature_at signatures_at group_at groups_at all_groups want_at frame_of update_at value_at valued_at content_at statement_in claims_on claims_of_group claims_of_groups claims_of proof_said advance signer_beyond
is_signer_beyond = refl

pub frame_rows : Frames
frame_rows = record {
  is_packed = is_packed;
  is_a_bundle = is_a_bundle;
  is_a_want = is_a_want;
  is_want_beyond = is_want_beyond;
  is_nothing_at_all = is_nothing_at_all;
  is_version_two = is_version_two;
  is_fourth_kind = is_fourth_kind;
  is_no_groups = is_no_groups;
  is_cut_off = is_cut_off;
  is_one_more = is_one_more;
  is_notify_in_proof = is_notify_in_proof;
  is_bad_group_behind = is_bad_group_behind;
  is_signer_beyond = is_signer_beyond;
}
