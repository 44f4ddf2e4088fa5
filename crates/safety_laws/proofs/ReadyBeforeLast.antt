-- A Ready stands before a Last of a greater rank, which reports one as late.
use Rattle.std.proofs.Common.{◌≡◌, ◌⊎◌, inl, inr, ℕ, ◌<◌, ◌≤◌, List, [], ◌∷◌, Option, Some, None, Bool, true, false, refl, sym, ap, ◌∙◌, subst, arith, slice_get}
use Rattle.std.specs.Prelude.{if◌then◌else◌, filter_map, fold, ◌==◌, nat_lt, ⊤}
use Rattle.std.proofs.lemmas.Bool.{eqb-true, ltb-true, eq-eqb, ltb-false}
use Rattle.group_defs.specs.Below.{Value, Statement, Last, Ready, Claim, view_of}
use Rattle.group_defs.specs.Process.{Setting, Process, start}
use Rattle.group_defs.specs.Certified.{own, own_rank, rank_said, readied, higher}
use Rattle.group_defs.specs.Due.{may_sign, is_due}
use Rattle.group_defs.specs.Signing.{Signer, own_claim, signs}
use Rattle.group_defs.specs.Events.{Turn, run}
use Rattle.group_defs.specs.Family.{statements_of}
use Rattle.group_defs.specs.Laws.{ReportsReady, ReadyBeforeLast}
use Rattle.std.proofs.lemmas.List.{map-append}
use Rattle.pool_laws.proofs.Counting.{fold-max}
use Rattle.safety_laws.proofs.Induction.{Keeps, run-keeps}
use Rattle.safety_laws.proofs.MaySign.{last-rank, ready-rank}
use Rattle.pool_laws.proofs.Members.{Mem, filter-mem, filter_map-mem, mem-Contains, mem-filter, mem-filter_map, mem-snoc, snoc-mem}
use Rattle.pool_laws.proofs.Places.{Compared, Pairs, ahead, behind, compared, level, pairs-snoc, slice_get-mem}
use Rattle.pool_laws.proofs.Slots.{readied-is}
use Rattle.pool_laws.proofs.Tests.{and-first, and-second}

-- ---- the own Ready of greatest rank

-- what a fold of `higher` gives from best is not below b
abbrev IsHighest : List (ℕ × Value) → Option (ℕ × Value) → ℕ × Value → Type 0
IsHighest bs best b = (of : ℕ × Value) × (fold higher best bs ≡ Some of) × (b.0 ≤ of.0)

-- of two, the higher one
higher-is : (a c : ℕ × Value) → (of : ℕ × Value) × (higher (Some a) c ≡ Some of) × (a.0 ≤ of.0) × (c.0 ≤ of.0)
higher-is a c = go (nat_lt a.0 c.0) refl
  where
    go : (t : Bool) → nat_lt a.0 c.0 ≡ t → (of : ℕ × Value) × ((if t then Some c else Some a) ≡ Some of) × (a.0 ≤ of.0) × (c.0 ≤ of.0)
    go true e = let lt = ltb-true a.0 c.0 e in (c, refl, omega (arith, lt), omega arith)
    go false e = let ge = ltb-false a.0 c.0 e in (a, refl, omega arith, omega (arith, ge))

highest-start : (bs : List (ℕ × Value)) (a b : ℕ × Value) → b.0 ≤ a.0 → IsHighest bs (Some a) b
highest-start [] a b le = (a, refl, le)
highest-start (c ∷ bs) a b le =
    let two = higher-is a c in
    subst (λ o. IsHighest bs o b) (sym two.1) (highest-start bs two.0 b (let up = two.2 in omega (arith, le, up)))

highest-of : (bs : List (ℕ × Value)) (best : Option (ℕ × Value)) (b : ℕ × Value) → Mem b bs → IsHighest bs best b
highest-of [] best b m = absurd m
highest-of (c ∷ bs) None b (inl same) = highest-start bs c b (let e = ap (λ (z : ℕ × Value). z.0) same in omega (arith, e))
highest-of (c ∷ bs) (Some a) b (inl same) =
    let two = higher-is a c in
    subst (λ o. IsHighest bs o b) (sym two.1)
    (highest-start bs two.0 b (let e = ap (λ (z : ℕ × Value). z.0) same in let up = two.3 in omega (arith, e, up)))
highest-of (c ∷ bs) best b (inr m) = highest-of bs (higher best c) b m

-- it is one of them, or was there before
pub highest-mem : (bs : List (ℕ × Value)) (best : Option (ℕ × Value)) (of : ℕ × Value) → fold higher best bs ≡ Some of
    → Mem of bs ⊎ (best ≡ Some of)
highest-mem [] best of e = inr e
highest-mem (c ∷ bs) best of e = elim (highest-mem bs (higher best c) of e) [ inl m ↦ inl (inr m) | inr was ↦ either best was ]
  where
    pick : (a : ℕ × Value) (t : Bool) → (if t then Some c else Some a) ≡ Some of → Mem of (c ∷ bs) ⊎ (Some a ≡ Some of)
    pick a true was = inl (inl cc)
    pick a false was = inr was

    either : (best : Option (ℕ × Value)) → higher best c ≡ Some of → Mem of (c ∷ bs) ⊎ (best ≡ Some of)
    either None was = inl (inl cc)
    either (Some a) was = pick a (nat_lt a.0 c.0) was

-- ---- what a statement owes to an earlier one

abbrev pub Owes : Statement → Statement → Type 0
Owes (Last x r' ready) (Ready y r v) = x ≡ y → r' ≤ r
Owes (Ready x r v) (Last y r' ready) = x ≡ y → (best : ℕ × Value) × (ready ≡ Some best) × (r ≤ best.0) × (best.0 < r')
Owes _ _ = ⊤

module _ (s : Setting) (p : Process) (st : Statement) (may : may_sign s p st ≡ true) where
  due : is_due s p st ≡ true
  due = and-second _ _ may

  current : view_of st ≡ p.pool.view.number
  current = eqb-true _ _ (and-second _ _ (and-first _ _ (and-first _ _ may)))

  pub own-mem : (a : Statement) → Mem a (statements_of p) → view_of a ≡ view_of st → Mem a (own p)
  own-mem a m e = mem-filter (λ st. view_of st == p.pool.view.number) (statements_of p) a m (eq-eqb _ _ (e ∙ current))

pub rank_said-own : (p : Process) (a : Statement) → Mem a (own p) → rank_said a ≤ own_rank p
rank_said-own p a m = fold-max rank_said (own p) 0 a m

pub own_ready-mem : (s : Setting) (p : Process) (y r' : ℕ) (best : ℕ × Value) → may_sign s p (Last y r' (Some best)) ≡ true
    → Mem (Ready y best.0 best.1) (statements_of p)
own_ready-mem s p y r' best may = elim (highest-mem (filter_map readied (own p)) None best (sym (last-rank s p y r' (Some best) may).1)) [
  | inl m ↦ named (filter_map-mem readied (own p) best m)
  | inr was ↦ absurd cc
]
  where
    named : (a : Statement) × Mem a (own p) × (readied a ≡ Some best) → Mem (Ready y best.0 best.1) (statements_of p)
    named found =
        let in_own = filter-mem (λ st. view_of st == p.pool.view.number) (statements_of p) found.0 found.1 in
        subst (λ a. Mem a (statements_of p))
        (readied-is found.0 y best found.2 (eqb-true _ _ in_own.1 ∙ sym (current s p (Last y r' (Some best)) may))) in_own.0

owes : (s : Setting) (p : Process) (a st : Statement) → may_sign s p st ≡ true → Mem a (statements_of p) → Owes a st
owes s p (Last x r' ready) (Ready y r v) may m = λ same.
    let least : own_rank p ≤ r = ready-rank s p y r v may in
    let said = rank_said-own p (Last x r' ready) (own-mem s p (Ready y r v) may (Last x r' ready) m same) in
    omega (arith, least, said)
owes s p (Ready x r v) (Last y r' ready) may m = λ same.
    let above : own_rank p < r' = (last-rank s p y r' ready may).0 in
    let high = highest-of (filter_map readied (own p)) None (r, v)
    (mem-filter_map readied (own p) (Ready x r v) (r, v) (own-mem s p (Last y r' ready) may (Ready x r v) m same) refl) in
    let is : ready ≡ Some high.0 = (last-rank s p y r' ready may).1 ∙ high.1 in
    let there : Mem (Ready y high.0.0 high.0.1)
    (statements_of p) = own_ready-mem s p y r' high.0 (subst (λ o. may_sign s p (Last y r' o) ≡ true) is may) in
    let said = rank_said-own p (Ready y high.0.0 high.0.1) (own-mem s p (Last y r' ready) may (Ready y high.0.0 high.0.1) there refl) in
    (high.0, is, high.2, omega (arith, above, said))
owes s p _ _ may m = tt

-- ---- each run keeps it

abbrev Reports : List Statement → Type 0
Reports sts = (x r' : ℕ) (best : ℕ × Value) → Mem (Last x r' (Some best)) sts → Mem (Ready x best.0 best.1) sts

record InOrder (sts : List Statement) : Type 0 where
  pub pairs : Pairs Owes sts
  pub reports : Reports sts

signing-keeps : (s : Setting) (p : Process) (signer : Signer) (st : Statement) → may_sign s p st ≡ true → InOrder (statements_of p)
    → InOrder (statements_of (signs s signer p st))
signing-keeps s p signer st may ok = subst InOrder (sym (map-append (λ c. c.statement) p.signed (own_claim s signer p st ∷ []))) (record {
  pairs = pairs-snoc Owes (statements_of p) st ok.pairs (λ a m. owes s p a st may m);
  reports = λ x r' best m. elim (snoc-mem (statements_of p) st (Last x r' (Some best)) m) [
    | inl before ↦ mem-snoc (statements_of p) st (Ready x best.0 best.1) (ok.reports x r' best before)
    | inr is ↦ mem-snoc (statements_of p) st (Ready x best.0 best.1)
        (own_ready-mem s p x r' best (subst (λ st. may_sign s p st ≡ true) is may))
  ];
})

keeps : (s : Setting) (from : List Claim) → Keeps s from (λ p. InOrder (statements_of p))
keeps s from = record {
  accepts = λ p payload ok. ok;
  perceives = λ p e ok. ok;
  hears = λ p c m e ok. ok;
  doubts = λ p conflicts ok. ok;
  signs = λ p signer st next none ok. signing-keeps s p signer st next.may ok;
  decides = λ p ok. ok;
  delivers = λ p ds member room e ok. ok;
  installs = λ p d decided whole ok. ok;
  halts = λ p d decided member ok. ok;
}

in_order : (s : Setting) (me limit : ℕ) (turns : List Turn) → InOrder (statements_of (run s (start s me limit) turns))
in_order s me limit turns = run-keeps s (λ p. InOrder (statements_of p)) turns (keeps s _) (start s me limit)
    (record { pairs = λ i j a b lt at. absurd cc; reports = λ x r' best m. absurd m })

pub ready_before_last : ReadyBeforeLast
ready_before_last s me limit turns i j x r r' v ready at_ready at_last lt = go (compared i j)
  where
    sts : List Statement
    sts = statements_of (run s (start s me limit) turns)

    order : InOrder sts
    order = in_order s me limit turns

    reports : (best : ℕ × Value) × (ready ≡ Some best) × (r ≤ best.0) × (best.0 < r')
        → ReportsReady (run s (start s me limit) turns) x r r' ready
    reports found = (
      found.0.0,
      found.0.1,
      found.1,
      found.2,
      found.3,
      mem-Contains sts (Ready x found.0.0 found.0.1)
          (order.reports x r' found.0 (subst (λ o. Mem (Last x r' o) sts) found.1 (slice_get-mem sts j (Last x r' ready) at_last))),
    )

    go : Compared i j → (i < j) × ReportsReady (run s (start s me limit) turns) x r r' ready
    go (ahead first) = (first, reports (order.pairs i j (Ready x r v) (Last x r' ready) first at_ready at_last refl))
    go (level e) = absurd (let is : Some (Ready x r v) ≡ Some (Last x r' ready) = sym at_ready ∙ ap (slice_get sts) e ∙ at_last in cc)
    go (behind last) = absurd (let le = order.pairs j i (Last x r' ready) (Ready x r v) last at_last at_ready refl in omega (arith, le, lt))
