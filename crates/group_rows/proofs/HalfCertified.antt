-- The row of specs/HalfCertified.antt, computed.
use Rattle.std.proofs.Common.{◌≡◌, refl, [], ◌∷◌, true, false}
use native.Mathlib.Decide.{ℕ_discrete}
use Rattle.byte_defs.specs.Equality.{bytes_discrete, list_discrete, option_discrete, pair_discrete}
use Rattle.group_defs.specs.Views.{View-discrete}
use Rattle.message_defs.specs.Updates.{Value-discrete}
use Rattle.message_defs.specs.Statements.{Message-discrete, Batch-discrete}
use Rattle.group_defs.specs.Process.{Letter-discrete, Delivered-discrete, start, keyed}
use Rattle.group_defs.specs.Certified.{placed}
use Rattle.group_defs.specs.Due.{least_due, next_messages}
use Rattle.group_defs.specs.Hearing.{hear_all}
use Rattle.group_defs.specs.Signing.{sign_kind, sign_kinds, sign_all}
use Rattle.group_defs.specs.Settle.{deliver_more, settle}
use Rattle.group_defs.specs.Events.{after, run}
use Rattle.group_rows.specs.Scripts.{seen}
use Rattle.group_defs.specs.Accounts.{bounded, agree, sound}
use Rattle.group_defs.specs.Family.{accounts, numbers, honest}
use Rattle.group_rows.specs.HalfCertified.{s, turns_2, answers_2, f, HalfCertified}

row_2 : seen s (start s 2 16) turns_2 ≡ answers_2
unfolding ℕ_discrete bytes_discrete option_discrete pair_discrete Value-discrete Message-discrete list_discrete Batch-discrete placed
    next_messages least_due hear_all sign_kind sign_kinds sign_all deliver_more settle after s turns_2 answers_2
row_2 = refl

judged : honest f ∷ bounded (accounts f) (numbers f) ∷ agree (accounts f) ∷ sound (accounts f) (keyed f.setting) ∷ []
    ≡ true ∷ false ∷ true ∷ true ∷ []
unfolding ℕ_discrete bytes_discrete option_discrete pair_discrete Value-discrete Message-discrete list_discrete Batch-discrete placed
    next_messages least_due hear_all sign_kind sign_kinds sign_all deliver_more settle after run View-discrete Letter-discrete
    Delivered-discrete f s turns_2
judged = refl

pub half_certified : HalfCertified
half_certified = record { row_2 = row_2; judged = judged }
