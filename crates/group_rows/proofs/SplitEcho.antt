-- The row of specs/SplitEcho.antt, computed.
use Rattle.std.proofs.Common.{◌≡◌, refl, [], ◌∷◌, true, false}
use native.Mathlib.Decide.{ℕ_discrete}
use Rattle.byte_defs.specs.Equality.{bytes_discrete, list_discrete, option_discrete, pair_discrete}
use Rattle.group_defs.specs.Views.{View-discrete}
use Rattle.message_defs.specs.Updates.{Value-discrete}
use Rattle.message_defs.specs.Statements.{Message-discrete, Batch-discrete}
use Rattle.group_defs.specs.Process.{Letter-discrete, Delivered-discrete, start, keyed}
use Rattle.group_defs.specs.Certified.{placed}
use Rattle.group_defs.specs.Due.{least_due, next_messages}
use Rattle.group_defs.specs.Hearing.{hear_all}
use Rattle.group_defs.specs.Signing.{sign_kind, sign_kinds, sign_all}
use Rattle.group_defs.specs.Settle.{deliver_more, settle}
use Rattle.group_defs.specs.Events.{after, run}
use Rattle.group_rows.specs.Scripts.{seen}
use Rattle.group_defs.specs.Accounts.{Bounded, bounded, Agree, agree, sound}
use Rattle.group_defs.specs.Family.{accounts, numbers, Honest, honest}
use Rattle.group_rows.proofs.Premises.{is_well_set, not-honest, not-bounded, not-agreed, four}
use Rattle.safety_laws.proofs.Tested.{bounded_is_tested, honest_is_tested}
use Rattle.group_rows.specs.SplitEcho.{s, turns_0, answers_0, turns_1, answers_1, f, g, SplitEcho}

row_0 : seen s (start s 0 1) turns_0 ≡ answers_0
unfolding ℕ_discrete bytes_discrete option_discrete pair_discrete Value-discrete Message-discrete list_discrete Batch-discrete placed
    next_messages least_due hear_all sign_kind sign_kinds sign_all deliver_more settle after s turns_0 answers_0
row_0 = refl

row_1 : seen s (start s 1 1) turns_1 ≡ answers_1
unfolding ℕ_discrete bytes_discrete option_discrete pair_discrete Value-discrete Message-discrete list_discrete Batch-discrete placed
    next_messages least_due hear_all sign_kind sign_kinds sign_all deliver_more settle after s turns_1 answers_1
row_1 = refl

judged : honest f ∷ bounded (accounts f) (numbers f) ∷ agree (accounts f) ∷ sound (accounts f) (keyed f.setting) ∷ []
    ≡ true ∷ false ∷ false ∷ true ∷ []
unfolding ℕ_discrete bytes_discrete option_discrete pair_discrete Value-discrete Message-discrete list_discrete Batch-discrete placed
    next_messages least_due hear_all sign_kind sign_kinds sign_all deliver_more settle after run View-discrete Letter-discrete
    Delivered-discrete f s turns_0 turns_1
judged = refl

well_set : is_well_set f ≡ true
unfolding f s
well_set = refl

is_honest : Honest f
is_honest = (honest_is_tested f).0 (four judged).0

is_not_bounded : Bounded (accounts f) (numbers f) → ⊥
is_not_bounded = not-bounded f (four judged).1

is_not_agreed : Agree (accounts f) → ⊥
is_not_agreed = not-agreed f (four judged).2

judged_g : honest g ∷ bounded (accounts g) (numbers g) ∷ agree (accounts g) ∷ sound (accounts g) (keyed g.setting) ∷ []
    ≡ false ∷ true ∷ false ∷ false ∷ []
unfolding ℕ_discrete bytes_discrete option_discrete pair_discrete Value-discrete Message-discrete list_discrete Batch-discrete placed
    next_messages least_due hear_all sign_kind sign_kinds sign_all deliver_more settle after run View-discrete Letter-discrete
    Delivered-discrete g s turns_0 turns_1
judged_g = refl

well_set_g : is_well_set g ≡ true
unfolding g s
well_set_g = refl

is_not_honest : Honest g → ⊥
is_not_honest = not-honest g (four judged_g).0

is_bounded : Bounded (accounts g) (numbers g)
is_bounded = (bounded_is_tested (accounts g) (numbers g)).0 (four judged_g).1

lied_of_is_not_agreed : Agree (accounts g) → ⊥
lied_of_is_not_agreed = not-agreed g (four judged_g).2

pub split_echo : SplitEcho
split_echo = record {
  row_0 = row_0;
  row_1 = row_1;
  judged = judged;
  is_honest = is_honest;
  is_not_bounded = is_not_bounded;
  is_not_agreed = is_not_agreed;
  judged_g = judged_g;
  is_not_honest = is_not_honest;
  is_bounded = is_bounded;
  lied_of_is_not_agreed = lied_of_is_not_agreed;
}
