use Rattle.std.proofs.Common.{◌≡◌, ℕ, ◌+◌, List, [], ◌∷◌, ◌++◌, length, take, ap, subst, ◌∙◌, append_assoc, arith}
use Rattle.std.proofs.Math.Seq.{take-append-add}
use Rattle.statements.proofs.spelling.body_into.Goals as goal

-- so many bytes of two parts: the first, and so many of the second
behind : (k n : ℕ) (front out text : List ℕ) → length front ≡ k → take n out ≡ text → take (k + n) (front ++ out) ≡ front ++ text
behind k n front out text len e =
    subst (λ (m : ℕ). take (m + n) (front ++ out) ≡ front ++ text) len (take-append-add front out n ∙ ap (λ (t : List ℕ). front ++ t) e)

pub returns-clause-body : goal.returns-clause-body
returns-clause-body c =
    let len : length c.head_into.new.out ≡ 21 = omega arith in
    behind 21 c.spell_into.result c.head_into.new.out c.spell_into.new.out _ len c.spell_into.ensures.spelled ∙ rw c.head_into.ensures
    (ap (λ (t : List ℕ). 82 ∷ 80 ∷ 66 ∷ 49 ∷ t) (append_assoc c.args.group.now (c.args.signer ∷ []) _))
