-- The row of specs/RemovedWithoutCause.antt, computed.
use Rattle.std.proofs.Common.{◌≡◌, refl, [], ◌∷◌, true, false}
use native.Mathlib.Decide.{ℕ_discrete}
use Rattle.byte_defs.specs.Equality.{bytes_discrete, list_discrete, option_discrete, pair_discrete}
use Rattle.group_defs.specs.Views.{View-discrete}
use Rattle.message_defs.specs.Updates.{Value-discrete}
use Rattle.message_defs.specs.Statements.{Message-discrete, Batch-discrete}
use Rattle.group_defs.specs.Process.{Letter-discrete, Delivered-discrete, keyed}
use Rattle.group_defs.specs.Certified.{placed}
use Rattle.group_defs.specs.Due.{least_due, next_messages}
use Rattle.group_defs.specs.Hearing.{hear_all}
use Rattle.group_defs.specs.Signing.{sign_kind, sign_kinds, sign_all}
use Rattle.group_defs.specs.Settle.{deliver_more, settle}
use Rattle.group_defs.specs.Events.{after, run}
use Rattle.group_defs.specs.Accounts.{Bounded, bounded, agree, Sound, sound}
use Rattle.group_defs.specs.Family.{accounts, numbers, Honest, honest}
use Rattle.group_rows.proofs.Premises.{not-bounded, not-sound, four}
use Rattle.safety_laws.proofs.Tested.{honest_is_tested}
use Rattle.group_rows.specs.RemovedWithoutCause.{s, turns_0, f, RemovedWithoutCause}

judged : honest f ∷ bounded (accounts f) (numbers f) ∷ agree (accounts f) ∷ sound (accounts f) (keyed f.setting) ∷ []
    ≡ true ∷ false ∷ true ∷ false ∷ []
unfolding ℕ_discrete bytes_discrete option_discrete pair_discrete Value-discrete Message-discrete list_discrete Batch-discrete placed
    next_messages least_due hear_all sign_kind sign_kinds sign_all deliver_more settle after run View-discrete Letter-discrete
    Delivered-discrete f s turns_0
judged = refl

is_honest : Honest f
is_honest = (honest_is_tested f).0 (four judged).0

is_not_bounded : Bounded (accounts f) (numbers f) → ⊥
is_not_bounded = not-bounded f (four judged).1

is_not_sound : Sound (accounts f) (keyed f.setting) → ⊥
is_not_sound = not-sound f (four judged).3

pub removed_without_cause : RemovedWithoutCause
removed_without_cause = record { judged = judged; is_honest = is_honest; is_not_bounded = is_not_bounded; is_not_sound = is_not_sound }
