-- The row of specs/Cuts.antt, computed.
use Rattle.std.proofs.Common.{◌≡◌, refl, true, false, Some}
use native.Mathlib.Decide.{ℕ_discrete}
use Rattle.byte_defs.specs.Equality.{bytes_discrete, list_discrete, option_discrete, pair_discrete}
use Rattle.message_defs.specs.Updates.{Remove, Renew, Value-discrete}
use Rattle.message_defs.specs.Statements.{Message-discrete, Batch-discrete}
use Rattle.group_defs.specs.Values.{is_free, free_value, choose}
use Rattle.group_rows.specs.Scripts.{value}
use Rattle.group_rows.specs.Cuts.{s, with_place, without_place, reported, Cuts}

cut_1 : is_free s with_place (value Renew 1) ≡ true
unfolding ℕ_discrete bytes_discrete option_discrete pair_discrete Value-discrete Message-discrete list_discrete Batch-discrete
cut_1 = refl

cut_0 : is_free s with_place (value Renew 0) ≡ false
unfolding ℕ_discrete bytes_discrete option_discrete pair_discrete Value-discrete Message-discrete list_discrete Batch-discrete
cut_0 = refl

cut_2 : is_free s with_place (value Renew 2) ≡ false
unfolding ℕ_discrete bytes_discrete option_discrete pair_discrete Value-discrete Message-discrete list_discrete Batch-discrete
cut_2 = refl

free_1 : free_value s with_place ≡ Some (value Renew 1)
unfolding ℕ_discrete bytes_discrete option_discrete pair_discrete Value-discrete Message-discrete list_discrete Batch-discrete
free_1 = refl

cut_1024 : is_free s without_place (value Renew 1024) ≡ false
unfolding ℕ_discrete bytes_discrete option_discrete pair_discrete Value-discrete Message-discrete list_discrete Batch-discrete
cut_1024 = refl

free_0 : free_value s without_place ≡ Some (value Renew 0)
unfolding ℕ_discrete bytes_discrete option_discrete pair_discrete Value-discrete Message-discrete list_discrete Batch-discrete
free_0 = refl

free_first : free_value s reported ≡ Some (value (Remove 0) 0)
unfolding ℕ_discrete bytes_discrete option_discrete pair_discrete Value-discrete Message-discrete list_discrete Batch-discrete
free_first = refl

adopted : choose s reported 1 ≡ Some (value Renew 0)
unfolding ℕ_discrete bytes_discrete option_discrete pair_discrete Value-discrete Message-discrete list_discrete Batch-discrete
adopted = refl

pub free_cuts : Cuts
free_cuts = record {
  cut_1 = cut_1;
  cut_0 = cut_0;
  cut_2 = cut_2;
  free_1 = free_1;
  cut_1024 = cut_1024;
  free_0 = free_0;
  free_first = free_first;
  adopted = adopted;
}
