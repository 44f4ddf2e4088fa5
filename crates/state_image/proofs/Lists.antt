-- Lists of what was signed, copied list by list.
use Rattle.std.proofs.Common.{◌≡◌, ℕ, ◌+◌, ◌<◌, ◌≤◌, List, ◌++◌, length, drop, get_or, sym, ap, ◌∙◌, subst}
use Rattle.std.specs.List.{AllByRecursion}
use Rattle.std.proofs.lemmas.List.{append-nil, append_assoc}
use Rattle.message_defs.specs.Statements.{Claim}
use Rattle.message_defs.specs.Spelling.{IsClaim}
use Rattle.sent_claims.proofs.Walks.{drop-at, drop-past}
use Rattle.state_image.specs.States.{SaidBefore, claims_of}
use Rattle.state_image.proofs.Walks.{all-parts}

module _ (lists : List SaidBefore) (i : ℕ) where
  module _ (l : SaidBefore) (lt : i < length lists) (at : l ≡ get_or lists i l) where
    -- from a list on: those of it that stand in no list before it, and then those of the lists behind it
    parts : claims_of (drop i lists) ≡ drop l.from l.claims.claims ++ claims_of (drop (i + 1) lists)
    parts = ap claims_of (drop-at lists i l lt at)

    both : AllByRecursion IsClaim (claims_of (drop i lists))
        → AllByRecursion IsClaim (drop l.from l.claims.claims) × AllByRecursion IsClaim (claims_of (drop (i + 1) lists))
    both all = all-parts IsClaim (drop l.from l.claims.claims) (claims_of (drop (i + 1) lists)) (subst (AllByRecursion IsClaim) parts all)

    pub list-here : AllByRecursion IsClaim (claims_of (drop i lists)) → AllByRecursion IsClaim (drop l.from l.claims.claims)
    list-here all = (both all).0

    pub lists-rest : AllByRecursion IsClaim (claims_of (drop i lists)) → AllByRecursion IsClaim (claims_of (drop (i + 1) lists))
    lists-rest all = (both all).1

    pub list-more : (out out' whole : List Claim) → out' ≡ out ++ drop l.from l.claims.claims → out ++ claims_of (drop i lists) ≡ whole
        → out' ++ claims_of (drop (i + 1) lists) ≡ whole
    list-more out out' whole put so =
        ap (λ ys. ys ++ claims_of (drop (i + 1) lists)) put
        ∙ append_assoc out (drop l.from l.claims.claims) (claims_of (drop (i + 1) lists))
        ∙ ap (λ ys. out ++ ys) (sym parts)
        ∙ so

  pub lists-end : (out whole : List Claim) → length lists ≤ i → out ++ claims_of (drop i lists) ≡ whole → out ≡ whole
  lists-end out whole past so = sym (append-nil out) ∙ ap (λ ls. out ++ claims_of ls) (sym (drop-past lists i past)) ∙ so
