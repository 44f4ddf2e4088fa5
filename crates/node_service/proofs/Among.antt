-- Hosted processes, one after the other by rising number.
use Rattle.std.proofs.Common.{◌≡◌, ℕ, List, [], ◌∷◌, ◌++◌, refl, sym, ap, subst, append_assoc, inl, ◌∙◌}
use Rattle.std.specs.Prelude.{◌==◌, IsTrue}
use Rattle.std.proofs.lemmas.Bool.{eq-eqb}
use Rattle.pool_laws.proofs.Members.{mem-behind, mem-list_any}
use Rattle.byte_defs.specs.Members.{has}

-- of these, some are done and the others are left
pub record IsAmong (all left : List ℕ) : Type 0 where
  pub done : List ℕ
  pub splits : all ≡ done ++ left

pub none-done : (all left : List ℕ) → left ≡ all → IsAmong all left
none-done all left same = record { done = []; splits = sym same }

pub one-done : (all left old : List ℕ) (p : ℕ) → old ≡ p ∷ left → IsAmong all old → IsAmong all left
one-done all left old p steps among = record {
  done = among.done ++ p ∷ [];
  splits = among.splits ∙ ap (λ ps. among.done ++ ps) steps ∙ sym (append_assoc among.done (p ∷ []) left);
}

-- the next one is one of them
pub is-one : (all left old : List ℕ) (p : ℕ) → old ≡ p ∷ left → IsAmong all old → IsTrue (has all p)
is-one all left old p steps among =
    subst (λ ps. IsTrue (has ps p)) (sym (among.splits ∙ ap (λ ps. among.done ++ ps) steps))
    (mem-list_any (λ q. q == p) (among.done ++ p ∷ left) p (mem-behind among.done (p ∷ left) p (inl refl)) (eq-eqb p p refl))
