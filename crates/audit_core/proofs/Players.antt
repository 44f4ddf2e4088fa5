-- The processes of a walk beside those of the audit, one after the other.
use Rattle.std.proofs.Common.{◌≡◌, ℕ, zero, suc, ◌+◌, ◌<◌, ◌≤◌, List, [], ◌∷◌, ◌++◌, length, map, get_or, drop, refl, sym, ap, subst, ◌∙◌, arith}
use Rattle.std.specs.List.{AllZip}
use Rattle.std.proofs.lemmas.List.{append-nil, append_assoc, drop_all}
use Rattle.group_defs.specs.Process.{Setting}
use Rattle.audit_defs.specs.Players as plain
use Rattle.audit_cast.specs.Turns.{Player}
use Rattle.audit_cast.specs.Turns.{IsPlayer}

module _ (s : Setting) where
  -- the process of the audit at the same place
  pub record At (cs : List plain.Player) (i : ℕ) (p : Player) : Type 0 where
    pub process : plain.Player
    pub is : IsPlayer s process p
    pub left : drop i cs ≡ process ∷ drop (i + 1) cs

  pub at-place : (cs : List plain.Player) (pls : List Player) (i : ℕ) (p : Player) → AllZip (IsPlayer s) cs pls → i < length pls
      → p ≡ get_or pls i p → At cs i p
  at-place [] [] i p all low is = absurd (omega (arith, low))
  at-place [] (q ∷ qs) i p all low is = absurd all
  at-place (c ∷ cs) [] i p all low is = absurd all
  at-place (c ∷ cs) (q ∷ qs) zero p all low is = record { process = c; is = subst (IsPlayer s c) (sym is) all.0; left = refl }
  at-place (c ∷ cs) (q ∷ qs) (suc i) p all low is =
      let rest = at-place cs qs i p all.1 (omega (arith, low)) is in
      let behind : suc (i + 1) ≡ suc i + 1 = omega arith in
      record { process = rest.process; is = rest.is; left = rest.left ∙ ap (λ n. rest.process ∷ drop n (c ∷ cs)) behind }

  as-many : (cs : List plain.Player) (pls : List Player) → AllZip (IsPlayer s) cs pls → length cs ≡ length pls
  as-many [] [] all = refl
  as-many [] (q ∷ qs) all = absurd all
  as-many (c ∷ cs) [] all = absurd all
  as-many (c ∷ cs) (q ∷ qs) all = ap suc (as-many cs qs all.1)

  -- what is reported of the next process goes after what was reported before
  pub next-reported : {A : Type 0} (f : plain.Player → A) (cs : List plain.Player) (i : ℕ) (p : Player) (at : At cs i p) (before after whole : List A)
      → before ++ map f (drop i cs) ≡ whole → after ≡ before ++ f at.process ∷ [] → after ++ map f (drop (i + 1) cs) ≡ whole
  next-reported f cs i p at before after whole so more = ap (λ xs. xs ++ map f (drop (i + 1) cs)) more
      ∙ append_assoc before (f at.process ∷ []) (map f (drop (i + 1) cs))
      ∙ ap (λ ds. before ++ map f ds) (sym at.left) ∙ so

  -- and where no process is left, all is reported
  pub all-reported : {A : Type 0} (f : plain.Player → A) (cs : List plain.Player) (pls : List Player) (i : ℕ) (reported whole : List A)
      → AllZip (IsPlayer s) cs pls → length pls ≤ i → reported ++ map f (drop i cs) ≡ whole → reported ≡ whole
  all-reported f cs pls i reported whole all past so = sym (append-nil reported)
      ∙ ap (λ ds. reported ++ map f ds) (sym (drop_all i cs (omega (arith, past, as-many cs pls all)))) ∙ so
