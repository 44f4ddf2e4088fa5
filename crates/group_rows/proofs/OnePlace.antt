-- The row of specs/OnePlace.antt, computed.
use Rattle.std.proofs.Common.{◌≡◌, refl, [], ◌∷◌, true}
use native.Mathlib.Decide.{ℕ_discrete}
use Rattle.byte_defs.specs.Equality.{bytes_discrete, list_discrete, option_discrete, pair_discrete}
use Rattle.group_defs.specs.Views.{View-discrete}
use Rattle.message_defs.specs.Updates.{Value-discrete}
use Rattle.message_defs.specs.Statements.{Message-discrete, Batch-discrete}
use Rattle.group_defs.specs.Process.{Letter-discrete, Delivered-discrete, start, keyed}
use Rattle.group_defs.specs.Certified.{placed}
use Rattle.group_defs.specs.Due.{least_due, next_messages}
use Rattle.group_defs.specs.Hearing.{hear_all}
use Rattle.group_defs.specs.Signing.{sign_kind, sign_kinds, sign_all}
use Rattle.group_defs.specs.Settle.{deliver_more, settle}
use Rattle.group_defs.specs.Events.{after, run}
use Rattle.group_rows.specs.Scripts.{seen}
use Rattle.group_defs.specs.Accounts.{bounded, agree, sound}
use Rattle.group_defs.specs.Family.{accounts, numbers, honest}
use Rattle.group_defs.specs.Laws.{Premises}
use Rattle.group_rows.proofs.Premises.{is_well_set, premises-of, four}
use Rattle.group_rows.specs.OnePlace.{s, turns_0, answers_0, turns_1, answers_1, f, OnePlace}

row_0 : seen s (start s 0 16) turns_0 ≡ answers_0
unfolding ℕ_discrete bytes_discrete option_discrete pair_discrete Value-discrete Message-discrete list_discrete Batch-discrete placed
    next_messages least_due hear_all sign_kind sign_kinds sign_all deliver_more settle after s turns_0 answers_0
row_0 = refl

row_1 : seen s (start s 1 16) turns_1 ≡ answers_1
unfolding ℕ_discrete bytes_discrete option_discrete pair_discrete Value-discrete Message-discrete list_discrete Batch-discrete placed
    next_messages least_due hear_all sign_kind sign_kinds sign_all deliver_more settle after s turns_1 answers_1
row_1 = refl

judged : honest f ∷ bounded (accounts f) (numbers f) ∷ agree (accounts f) ∷ sound (accounts f) (keyed f.setting) ∷ []
    ≡ true ∷ true ∷ true ∷ true ∷ []
unfolding ℕ_discrete bytes_discrete option_discrete pair_discrete Value-discrete Message-discrete list_discrete Batch-discrete placed
    next_messages least_due hear_all sign_kind sign_kinds sign_all deliver_more settle after run View-discrete Letter-discrete
    Delivered-discrete f s turns_0 turns_1
judged = refl

well_set : is_well_set f ≡ true
unfolding f s
well_set = refl

premises : Premises f
premises = premises-of f well_set (four judged).0 (four judged).1

pub one_place : OnePlace
one_place = record { row_0 = row_0; row_1 = row_1; judged = judged; premises = premises }
