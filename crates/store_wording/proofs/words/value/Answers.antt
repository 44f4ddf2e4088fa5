use Rattle.std.proofs.Common.{◌≡◌, ℕ, ◌+◌, ◌-◌, get_or, sym, subst, refl, rules, arith}
use Rattle.text_codec.proofs.Digits.{SoFar, one_more, whole}
use Rattle.store_wording.proofs.Tags.{too_great}
use Rattle.store_wording.proofs.words.value.Goals as goal

pub returns-in_err-n : goal.returns-in_err-n
returns-in_err-n c = rw c.from_residual.ensures
    (too_great c.digits.n c.args.word.now c.digits.digit-index (get_or c.args.word.now c.digits.digit-index 0 - 48) (search rules) refl
    (omega (arith, c.type_inv.word c.digits.digit-index)) c.in_err-n.ensures c.digits.invariant)

pub digits-preserved : goal.digits-preserved
digits-preserved c = subst (λ (m : ℕ). SoFar m (c.digits.digit-index + 1) c.args.word.now) (sym c.in_ok-n.ensures)
    (one_more c.digits.n c.args.word.now c.digits.digit-index (get_or c.args.word.now c.digits.digit-index 0 - 48) (search rules) refl
    (omega (arith, c.type_inv.word c.digits.digit-index)) c.digits.invariant)

pub returns : goal.returns
returns c = whole c.digits.n c.args.word.now c.digits.digit-index (search rules) c.digits.invariant
