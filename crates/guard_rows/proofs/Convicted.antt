-- The row of specs/Convicted.antt, computed.
use Rattle.std.proofs.Common.{◌≡◌, refl, [], ◌∷◌}
use native.Mathlib.Decide.{ℕ_discrete}
use Rattle.byte_defs.specs.Equality.{bytes_discrete, list_discrete, option_discrete, pair_discrete}
use Rattle.message_defs.specs.Updates.{Value-discrete}
use Rattle.message_defs.specs.Statements.{Message-discrete, Batch-discrete}
use Rattle.conviction_defs.specs.Convictions.{convicted}
use Rattle.guard_rows.specs.Scripts.{s}
use Rattle.guard_rows.specs.Convicted.{Convicted, two_echoes, one_claim, same_twice, two_signers, two_slots, two_views, two_kinds, one_forged, other_forged, forged_between, forged_first, later_pair, other_view, stranger, keyless, two_liars}

is_two_echoes : convicted s two_echoes ≡ 3 ∷ []
unfolding ℕ_discrete bytes_discrete option_discrete pair_discrete Value-discrete Message-discrete list_discrete Batch-discrete two_echoes
is_two_echoes = refl

is_one_claim : convicted s one_claim ≡ []
unfolding ℕ_discrete bytes_discrete option_discrete pair_discrete Value-discrete Message-discrete list_discrete Batch-discrete one_claim
is_one_claim = refl

is_same_twice : convicted s same_twice ≡ []
unfolding ℕ_discrete bytes_discrete option_discrete pair_discrete Value-discrete Message-discrete list_discrete Batch-discrete same_twice
is_same_twice = refl

is_two_signers : convicted s two_signers ≡ []
unfolding ℕ_discrete bytes_discrete option_discrete pair_discrete Value-discrete Message-discrete list_discrete Batch-discrete two_signers
is_two_signers = refl

is_two_slots : convicted s two_slots ≡ []
unfolding ℕ_discrete bytes_discrete option_discrete pair_discrete Value-discrete Message-discrete list_discrete Batch-discrete two_slots
is_two_slots = refl

is_two_views : convicted s two_views ≡ []
unfolding ℕ_discrete bytes_discrete option_discrete pair_discrete Value-discrete Message-discrete list_discrete Batch-discrete two_views
is_two_views = refl

is_two_kinds : convicted s two_kinds ≡ []
unfolding ℕ_discrete bytes_discrete option_discrete pair_discrete Value-discrete Message-discrete list_discrete Batch-discrete two_kinds
is_two_kinds = refl

is_one_forged : convicted s one_forged ≡ []
unfolding ℕ_discrete bytes_discrete option_discrete pair_discrete Value-discrete Message-discrete list_discrete Batch-discrete one_forged
is_one_forged = refl

is_other_forged : convicted s other_forged ≡ []
unfolding ℕ_discrete bytes_discrete option_discrete pair_discrete Value-discrete Message-discrete list_discrete Batch-discrete other_forged
is_other_forged = refl

is_forged_between : convicted s forged_between ≡ 3 ∷ []
unfolding ℕ_discrete bytes_discrete option_discrete pair_discrete Value-discrete Message-discrete list_discrete Batch-discrete forged_between
is_forged_between = refl

is_forged_first : convicted s forged_first ≡ 3 ∷ []
unfolding ℕ_discrete bytes_discrete option_discrete pair_discrete Value-discrete Message-discrete list_discrete Batch-discrete forged_first
is_forged_first = refl

is_later_pair : convicted s later_pair ≡ 3 ∷ []
unfolding ℕ_discrete bytes_discrete option_discrete pair_discrete Value-discrete Message-discrete list_discrete Batch-discrete later_pair
is_later_pair = refl

is_other_view : convicted s other_view ≡ 3 ∷ []
unfolding ℕ_discrete bytes_discrete option_discrete pair_discrete Value-discrete Message-discrete list_discrete Batch-discrete other_view
is_other_view = refl

is_stranger : convicted s stranger ≡ 4 ∷ []
unfolding ℕ_discrete bytes_discrete option_discrete pair_discrete Value-discrete Message-discrete list_discrete Batch-discrete stranger
is_stranger = refl

is_keyless : convicted s keyless ≡ []
unfolding ℕ_discrete bytes_discrete option_discrete pair_discrete Value-discrete Message-discrete list_discrete Batch-discrete keyless
is_keyless = refl

is_two_liars : convicted s two_liars ≡ 1 ∷ 3 ∷ []
unfolding ℕ_discrete bytes_discrete option_discrete pair_discrete Value-discrete Message-discrete list_discrete Batch-discrete two_liars
is_two_liars = refl

pub conviction_rows : Convicted
conviction_rows = record {
  is_two_echoes = is_two_echoes;
  is_one_claim = is_one_claim;
  is_same_twice = is_same_twice;
  is_two_signers = is_two_signers;
  is_two_slots = is_two_slots;
  is_two_views = is_two_views;
  is_two_kinds = is_two_kinds;
  is_one_forged = is_one_forged;
  is_other_forged = is_other_forged;
  is_forged_between = is_forged_between;
  is_forged_first = is_forged_first;
  is_later_pair = is_later_pair;
  is_other_view = is_other_view;
  is_stranger = is_stranger;
  is_keyless = is_keyless;
  is_two_liars = is_two_liars;
}
