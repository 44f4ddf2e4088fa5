-- The row of specs/Shown.antt, computed.
use Rattle.std.proofs.Common.{◌≡◌, refl, [], ◌∷◌}
use Rattle.std.specs.Prelude.{Ok, Err}
use native.Mathlib.Decide.{ℕ_discrete}
use Rattle.byte_defs.specs.Equality.{bytes_discrete, list_discrete, option_discrete, pair_discrete}
use Rattle.message_defs.specs.Updates.{Value-discrete}
use Rattle.message_defs.specs.Statements.{Message-discrete, Batch-discrete}
use Rattle.chain_defs.specs.declared.ChainFault.TheVariants as chains
use Rattle.chain_defs.specs.Advance.{shows}
use Rattle.chain_rows.specs.Scripts.{s}
use Rattle.chain_rows.specs.Shown.{four, two, one, Shown, quorum, added, removed, one_less, no_claims, stranger, keyless, twice, forged_one, two_ranks, two_cuts, places, least_rank, impossible, above_impossible, first_counts, first_valid_counts, each_rank_its_first, high_rank, highest_rank, others_passed_over, two_members, last_of_two, last_member}

is_quorum : shows s four quorum ≡ Ok (record { number = 1; members = 0 ∷ 1 ∷ 2 ∷ 3 ∷ [] })
unfolding ℕ_discrete bytes_discrete option_discrete pair_discrete Value-discrete Message-discrete list_discrete Batch-discrete quorum
is_quorum = refl

is_added : shows s four added ≡ Ok (record { number = 1; members = 0 ∷ 1 ∷ 2 ∷ 3 ∷ 4 ∷ [] })
unfolding ℕ_discrete bytes_discrete option_discrete pair_discrete Value-discrete Message-discrete list_discrete Batch-discrete added
is_added = refl

is_removed : shows s four removed ≡ Ok (record { number = 1; members = 0 ∷ 2 ∷ 3 ∷ [] })
unfolding ℕ_discrete bytes_discrete option_discrete pair_discrete Value-discrete Message-discrete list_discrete Batch-discrete removed
is_removed = refl

is_one_less : shows s four one_less ≡ Err (chains.Few 2)
unfolding ℕ_discrete bytes_discrete option_discrete pair_discrete Value-discrete Message-discrete list_discrete Batch-discrete one_less
is_one_less = refl

is_no_claims : shows s four no_claims ≡ Err (chains.Few 0)
unfolding ℕ_discrete bytes_discrete option_discrete pair_discrete Value-discrete Message-discrete list_discrete Batch-discrete no_claims
is_no_claims = refl

is_stranger : shows s four stranger ≡ Err (chains.Few 2)
unfolding ℕ_discrete bytes_discrete option_discrete pair_discrete Value-discrete Message-discrete list_discrete Batch-discrete stranger
is_stranger = refl

is_keyless : shows s four keyless ≡ Err (chains.Few 2)
unfolding ℕ_discrete bytes_discrete option_discrete pair_discrete Value-discrete Message-discrete list_discrete Batch-discrete keyless
is_keyless = refl

is_twice : shows s four twice ≡ Err (chains.Few 2)
unfolding ℕ_discrete bytes_discrete option_discrete pair_discrete Value-discrete Message-discrete list_discrete Batch-discrete twice
is_twice = refl

is_forged_one : shows s four forged_one ≡ Err (chains.Few 2)
unfolding ℕ_discrete bytes_discrete option_discrete pair_discrete Value-discrete Message-discrete list_discrete Batch-discrete forged_one
is_forged_one = refl

is_two_ranks : shows s four two_ranks ≡ Err (chains.Few 2)
unfolding ℕ_discrete bytes_discrete option_discrete pair_discrete Value-discrete Message-discrete list_discrete Batch-discrete two_ranks
is_two_ranks = refl

is_two_cuts : shows s four two_cuts ≡ Err (chains.Few 2)
unfolding ℕ_discrete bytes_discrete option_discrete pair_discrete Value-discrete Message-discrete list_discrete Batch-discrete two_cuts
is_two_cuts = refl

is_places : shows s four places ≡ Err (chains.Few 0)
unfolding ℕ_discrete bytes_discrete option_discrete pair_discrete Value-discrete Message-discrete list_discrete Batch-discrete places
is_places = refl

is_least_rank : shows s four least_rank ≡ Ok (record { number = 1; members = 0 ∷ 1 ∷ 2 ∷ 3 ∷ [] })
unfolding ℕ_discrete bytes_discrete option_discrete pair_discrete Value-discrete Message-discrete list_discrete Batch-discrete least_rank
is_least_rank = refl

is_impossible : shows s four impossible ≡ Err (chains.Few 4)
unfolding ℕ_discrete bytes_discrete option_discrete pair_discrete Value-discrete Message-discrete list_discrete Batch-discrete impossible
is_impossible = refl

is_above_impossible : shows s four above_impossible ≡ Ok (record { number = 1; members = 0 ∷ 1 ∷ 2 ∷ 3 ∷ [] })
unfolding ℕ_discrete bytes_discrete option_discrete pair_discrete Value-discrete Message-discrete list_discrete Batch-discrete above_impossible
is_above_impossible = refl

is_first_counts : shows s four first_counts ≡ Err (chains.Few 2)
unfolding ℕ_discrete bytes_discrete option_discrete pair_discrete Value-discrete Message-discrete list_discrete Batch-discrete first_counts
is_first_counts = refl

is_first_valid_counts : shows s four first_valid_counts ≡ Ok (record { number = 1; members = 0 ∷ 1 ∷ 2 ∷ 3 ∷ [] })
unfolding ℕ_discrete bytes_discrete option_discrete pair_discrete Value-discrete Message-discrete list_discrete Batch-discrete first_valid_counts
is_first_valid_counts = refl

is_each_rank_its_first : shows s four each_rank_its_first ≡ Ok (record { number = 1; members = 0 ∷ 1 ∷ 2 ∷ 3 ∷ [] })
unfolding ℕ_discrete bytes_discrete option_discrete pair_discrete Value-discrete Message-discrete list_discrete Batch-discrete each_rank_its_first
is_each_rank_its_first = refl

is_high_rank : shows s four high_rank ≡ Ok (record { number = 1; members = 0 ∷ 1 ∷ 2 ∷ 3 ∷ [] })
unfolding ℕ_discrete bytes_discrete option_discrete pair_discrete Value-discrete Message-discrete list_discrete Batch-discrete high_rank
is_high_rank = refl

is_highest_rank : shows s four highest_rank ≡ Ok (record { number = 1; members = 0 ∷ 1 ∷ 2 ∷ 3 ∷ [] })
unfolding ℕ_discrete bytes_discrete option_discrete pair_discrete Value-discrete Message-discrete list_discrete Batch-discrete highest_rank
is_highest_rank = refl

is_others_passed_over : shows s four others_passed_over ≡ Ok (record { number = 1; members = 0 ∷ 1 ∷ 2 ∷ 3 ∷ [] })
unfolding ℕ_discrete bytes_discrete option_discrete pair_discrete Value-discrete Message-discrete list_discrete Batch-discrete others_passed_over
is_others_passed_over = refl

is_two_members : shows s two two_members ≡ Err (chains.Few 1)
unfolding ℕ_discrete bytes_discrete option_discrete pair_discrete Value-discrete Message-discrete list_discrete Batch-discrete two_members
is_two_members = refl

is_last_of_two : shows s two last_of_two ≡ Ok (record { number = 6; members = 0 ∷ [] })
unfolding ℕ_discrete bytes_discrete option_discrete pair_discrete Value-discrete Message-discrete list_discrete Batch-discrete last_of_two
is_last_of_two = refl

is_last_member : shows s one last_member ≡ Err (chains.Few 1)
unfolding ℕ_discrete bytes_discrete option_discrete pair_discrete Value-discrete Message-discrete list_discrete Batch-discrete last_member
is_last_member = refl

pub shown_rows : Shown
shown_rows = record {
  is_quorum = is_quorum;
  is_added = is_added;
  is_removed = is_removed;
  is_one_less = is_one_less;
  is_no_claims = is_no_claims;
  is_stranger = is_stranger;
  is_keyless = is_keyless;
  is_twice = is_twice;
  is_forged_one = is_forged_one;
  is_two_ranks = is_two_ranks;
  is_two_cuts = is_two_cuts;
  is_places = is_places;
  is_least_rank = is_least_rank;
  is_impossible = is_impossible;
  is_above_impossible = is_above_impossible;
  is_first_counts = is_first_counts;
  is_first_valid_counts = is_first_valid_counts;
  is_each_rank_its_first = is_each_rank_its_first;
  is_high_rank = is_high_rank;
  is_highest_rank = is_highest_rank;
  is_others_passed_over = is_others_passed_over;
  is_two_members = is_two_members;
  is_last_of_two = is_last_of_two;
  is_last_member = is_last_member;
}
