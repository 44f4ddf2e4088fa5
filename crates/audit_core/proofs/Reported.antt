-- What is reported of the processes and of the convictions.
use Rattle.std.proofs.Common.{◌≡◌, inl, inr, ℕ, zero, suc, ◌<◌, List, [], ◌∷◌, length, get_or, map, Bool, true, false, Option, Some, None, refl, sym, ap, subst, ◌∙◌, arith}
use Rattle.std.specs.Prelude.{◌==◌, find, if◌then◌else◌}
use Rattle.std.specs.List.{AllByRecursion}
use Rattle.group_defs.specs.Process.{Setting, start}
use Rattle.group_defs.specs.Events.{run}
use Rattle.group_defs.specs.Accounts.{account_of}
use Rattle.group_defs.specs.Family.{Correct, accounts, end_of, handed_to, numbers}
use Rattle.pool_laws.proofs.Members.{Mem}
use Rattle.conviction_defs.specs.Convictions as defs
use Rattle.conviction_defs.specs.Convictions.{convicted}
use Rattle.audit_defs.specs.Players.{Player, correct_of, family_of}
use Rattle.audit_defs.specs.Findings as plain
use Rattle.audit_defs.specs.Findings.{reported_of}
use Rattle.claim_firsts.specs.declared.conviction.Conviction as lent
use Rattle.claim_firsts.specs.Reported.{conviction}
use Rattle.findings_json.specs.declared.findings.Conviction.{Conviction}
use Rattle.findings_json.specs.Views.{reported}
use Rattle.audit_core.specs.Found.{Evidence, Shown, evidence, evidence_of, grounds_by, grounds_of, shown, shown_of}

-- ---- of the processes

module _ (s : Setting) where
  pub accounts-are : (cs : List Player) → ((c : Player) → Mem c cs → c.now ≡ run s (start s c.me c.batch_limit) c.turns)
      → map (λ (c : Player). account_of c.now) cs ≡ accounts (family_of s cs)
  accounts-are [] runs = refl
  accounts-are (c ∷ cs) runs = λ i. account_of (runs c (inl refl) i) ∷ accounts-are cs (λ d m. runs d (inr m)) i

  pub listed-are : (cs : List Player) → map (λ g. g.0) (map (grounds_of s) cs) ≡ numbers (family_of s cs)
  listed-are [] = refl
  listed-are (c ∷ cs) = ap (λ ns. c.me ∷ ns) (listed-are cs)

  abbrev of-correct : Option Correct → List ℕ
  of-correct o = elim o [ None ↦ [] | Some c ↦ convicted s (handed_to c.turns) ]

  abbrev of-grounds : Option (ℕ × List ℕ) → List ℕ
  of-grounds o = elim o [ None ↦ [] | Some g ↦ g.1 ]

  pub grounds-are : (p : ℕ) (cs : List Player) → grounds_by p (map (grounds_of s) cs)
      ≡ of-correct (find (λ (c : Correct). c.me == p) (map correct_of cs))
  grounds-are p [] = refl
  grounds-are p (c ∷ cs) = go (c.me == p) (grounds-are p cs)
    where
      go : (b : Bool) → grounds_by p (map (grounds_of s) cs) ≡ of-correct (find (λ (c : Correct). c.me == p) (map correct_of cs))
          → of-grounds (if b then Some (grounds_of s c) else find (λ (g : ℕ × List ℕ). g.0 == p) (map (grounds_of s) cs))
          ≡ of-correct (if b then Some (correct_of c) else find (λ (c : Correct). c.me == p) (map correct_of cs))
      go true rest = refl
      go false rest = rest

-- ---- of the convictions

pub all-at : {A : Type 0} (P : A → Type 0) (xs : List A) (i : ℕ) (x : A) → AllByRecursion P xs → i < length xs → x ≡ get_or xs i x → P x
all-at P [] i x all low is = absurd (omega (arith, low))
all-at P (y ∷ ys) zero x all low is = subst P (sym is) all.0
all-at P (y ∷ ys) (suc i) x all low is = all-at P ys i x all.1 (omega (arith, low)) is

reported-by : (xs : List Conviction) → map reported xs ≡ map (λ (x : Shown). x.reported) (map shown xs)
reported-by [] = refl
reported-by (x ∷ xs) = ap (λ ts. reported x ∷ ts) (reported-by xs)

reported-from : (cs : List defs.Conviction) → map (λ (x : Shown). x.reported) (map shown_of cs) ≡ map reported_of cs
reported-from [] = refl
reported-from (c ∷ cs) = ap (λ ts. reported_of c ∷ ts) (reported-from cs)

evidence-by : (xs : List Conviction) → map evidence xs ≡ map (λ (x : Shown). x.evidence) (map shown xs)
evidence-by [] = refl
evidence-by (x ∷ xs) = ap (λ es. evidence x ∷ es) (evidence-by xs)

evidence-from : (cs : List defs.Conviction) → map (λ (x : Shown). x.evidence) (map shown_of cs) ≡ map evidence_of cs
evidence-from [] = refl
evidence-from (c ∷ cs) = ap (λ es. evidence_of c ∷ es) (evidence-from cs)

shown-from : (xs : List lent.Conviction) → map (λ x. shown_of (conviction x)) xs ≡ map shown_of (map conviction xs)
shown-from [] = refl
shown-from (x ∷ xs) = ap (λ ss. shown_of (conviction x) ∷ ss) (shown-from xs)

pub all-shown : (own : List Conviction) (xs : List lent.Conviction) (cs : List defs.Conviction)
    → map shown own ≡ map (λ x. shown_of (conviction x)) xs → map conviction xs ≡ cs → map shown own ≡ map shown_of cs
all-shown own xs cs so are = so ∙ shown-from xs ∙ ap (map shown_of) are

module _ (own : List Conviction) (cs : List defs.Conviction) (so : map shown own ≡ map shown_of cs) where
  pub reported-are : map reported own ≡ map reported_of cs
  reported-are = reported-by own ∙ ap (map (λ (x : Shown). x.reported)) so ∙ reported-from cs

  pub evidence-is : map evidence own ≡ map evidence_of cs
  evidence-is = evidence-by own ∙ ap (map (λ (x : Shown). x.evidence)) so ∙ evidence-from cs
