-- Where nothing is due: outside the view, and behind the own End.
use Rattle.std.proofs.Common.{◌≡◌, Bool, true, false, refl, ap, ◌∙◌}
use Rattle.std.specs.Prelude.{not}
use Rattle.std.proofs.lemmas.Bool.{both_ways, not-true}
use Rattle.group_defs.specs.Below.{Statement, Echo, Order, Place, Keep}
use Rattle.group_defs.specs.Process.{Setting, Process}
use Rattle.group_defs.specs.Certified.{is_ended}
use Rattle.group_defs.specs.Due.{may_sign, is_due, kind_of}
use Rattle.rule_laws.specs.Least.{is_of_open_view, OutsiderSignsNone, EndedSignsNone}
use Rattle.rule_laws.proofs.Least.{none_of_all}
use Rattle.rule_laws.proofs.Signable.{may-parts}
use Rattle.pool_laws.proofs.Tests.{and-first, and-second}

pub outsider_signs_none : OutsiderSignsNone
outsider_signs_none s p kind outside = none_of_all s p kind (λ st is. never st (may_sign s p st) refl)
  where
    never : (st : Statement) → (b : Bool) → may_sign s p st ≡ b → b ≡ false
    never st true may = absurd (both_ways _ outside ((may-parts s p st may).member))
    never st false may = refl

open-due : (s : Setting) (p : Process) (st : Statement) → is_of_open_view (kind_of st) ≡ true → is_due s p st ≡ true → is_ended p ≡ false
open-due s p (Echo x m b) is due = not-true _ (and-second _ (not (is_ended p)) due)
open-due s p (Order x k b) is due = not-true _
    (and-second _ (not (is_ended p)) (and-first _ _ (and-first _ _ (and-first _ _ (and-first _ _ (and-first _ _ due))))))
open-due s p (Place x k b) is due = not-true _
    (and-second _ (not (is_ended p)) (and-first _ _ (and-first _ _ (and-first _ _ (and-first _ _ due)))))
open-due s p (Keep x k b) is due = not-true _ (and-second _ (not (is_ended p)) due)
open-due s p _ is due = absurd cc

pub ended_signs_none : EndedSignsNone
ended_signs_none s p kind ended open_ = none_of_all s p kind (λ st is. never st is (may_sign s p st) refl)
  where
    never : (st : Statement) → kind_of st ≡ kind → (b : Bool) → may_sign s p st ≡ b → b ≡ false
    never st is true may = absurd (both_ways _ (open-due s p st (ap is_of_open_view is ∙ open_) ((may-parts s p st may).due)) ended)
    never st is false may = refl
