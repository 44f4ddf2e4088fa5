-- A Keep stands before the End of its view, and the End says more.
use Rattle.std.proofs.Common.{◌≡◌, ◌⊎◌, inl, inr, ℕ, ◌<◌, ◌≤◌, List, [], ◌∷◌, ◌++◌, map, length, Some, Bool, true, false, refl, sym, ap, ◌∙◌, subst, arith, slice_get}
use Rattle.std.specs.Prelude.{if◌then◌else◌, is_some, ◌&&◌, ◌==◌, ⊤, option_map}
use Rattle.std.proofs.lemmas.Bool.{eqb-true, eq-eqb}
use Rattle.group_defs.specs.Below.{is_some_and, Value, Batch, Statement, Keep, End, EndAt, Claim, slot_of, view_of, same_slot}
use Rattle.group_defs.specs.Process.{Setting, Process, start}
use Rattle.group_defs.specs.Certified.{placed, is_signed, is_ended, heard_on}
use Rattle.group_defs.specs.Due.{may_sign, same_batch}
use Rattle.group_defs.specs.Signing.{Signer, own_claim, own_heard, signs}
use Rattle.group_defs.specs.Settle.{install}
use Rattle.group_defs.specs.Events.{run}
use Rattle.group_defs.specs.Family.{statements_of}
use Rattle.group_defs.specs.Laws.{KeepsBeforeEnd}
use Rattle.std.proofs.lemmas.List.{map-append}
use Rattle.pool_laws.proofs.Growing.{placed-grows, with_more}
use Rattle.safety_laws.proofs.Induction.{Keeps, run-keeps}
use Rattle.safety_laws.proofs.MaySign.{end-placed}
use Rattle.pool_laws.proofs.Members.{Mem, each-snoc, map-mem, mem-find, snoc-mem}
use Rattle.pool_laws.proofs.Places.{Compared, Pairs, ahead, behind, compared, level, pairs-snoc, slice_get-length}
use Rattle.pool_laws.proofs.Slots.{is-same_slot}
use Rattle.pool_laws.proofs.Tests.{and-first, and-second, both-true, not-both, some-and}

-- ---- what a statement owes to an earlier one

abbrev Owes : Statement → Statement → Type 0
Owes (End x n) (Keep y k b) = x ≡ y → ⊥
Owes (Keep x k b) (End y n) = x ≡ y → k < n
Owes _ _ = ⊤

record InOrder (p : Process) : Type 0 where
  pub pairs : Pairs Owes (statements_of p)
  pub signers : (c : Claim) → Mem c p.signed → c.signer ≡ p.me
  pub views : (st : Statement) → Mem st (statements_of p) → view_of st ≤ p.pool.view.number
  pub placed : (x k : ℕ) (b : Batch) → Mem (Keep x k b) (statements_of p) → x ≡ p.pool.view.number → k < length (placed p.pool)

-- ---- an End that was signed is found

pub is_signed-mem : (p : Process) (st : Statement) → ((c : Claim) → Mem c p.signed → c.signer ≡ p.me) → Mem st (statements_of p)
    → is_signed p (slot_of st) ≡ true
is_signed-mem p st own m =
    let c = map-mem (λ (c : Claim). c.statement) p.signed st m in
    let found = mem-find (λ d. (d.signer == p.me) && same_slot (slot_of d.statement) (slot_of st)) p.signed c.0 c.1
    (both-true _ _ (eq-eqb _ _ (own c.0 c.1)) (is-same_slot (slot_of c.0.statement) (slot_of st) (ap slot_of c.2))) in
    ap (λ o. is_some (option_map (λ (d : Claim). d.statement) o)) found.1

-- ---- signing

module _ (s : Setting) (p : Process) (signer : Signer) where
  abbrev next : Statement → Process
  next st = signs s signer p st

  heard-grows : (c : Claim) → length (placed p.pool) ≤ length (placed (record { view = p.pool.view; heard = own_heard p c }))
  heard-grows c = go (is_some (heard_on p.pool p.me (slot_of c.statement)))
    where
      go : (b : Bool) → length (placed p.pool)
          ≤ length (placed (record { view = p.pool.view; heard = if b then p.pool.heard else p.pool.heard ++ c ∷ [] }))
      go true = omega arith
      go false = placed-grows p.pool (c ∷ [])

  current : (st : Statement) → may_sign s p st ≡ true → view_of st ≡ p.pool.view.number
  current st may = eqb-true _ _ (and-second _ _ (and-first _ _ (and-first _ _ may)))

  slice_get-some : (bs : List Batch) (k : ℕ) (b : Batch) → is_some_and (slice_get bs k) (same_batch b) ≡ true → k < length bs
  slice_get-some bs k b e = let found = some-and (slice_get bs k) (same_batch b) e in slice_get-length bs k found.0 found.1

  keep-placed : (y k : ℕ) (b : Batch) → may_sign s p (Keep y k b) ≡ true → k < length (placed p.pool)
  keep-placed y k b may = slice_get-some (placed p.pool) k b (and-first _ _ (and-second _ _ may))

  owes : InOrder p → (a st : Statement) → may_sign s p st ≡ true → Mem a (statements_of p) → Owes a st
  owes ok (End x n) (Keep y k b) may there = λ same.
      not-both (is_ended p) (ap (λ v. is_signed p (EndAt v))
      (sym (same ∙ current (Keep y k b) may)) ∙ is_signed-mem p (End x n) ok.signers there) (and-second _ _ (and-second _ _ may))
  owes ok (Keep x k b) (End y n) may there = λ same.
      let all : n ≡ length (placed p.pool) = end-placed s p y n may in
      let below = ok.placed x k b there (same ∙ current (End y n) may) in
      omega (arith, all, below)
  owes ok _ _ may there = tt

  with-last : (st : Statement) → statements_of p ++ st ∷ [] ≡ statements_of (next st)
  with-last st = sym (map-append (λ c. c.statement) p.signed (own_claim s signer p st ∷ []))

  was : (st other : Statement) → Mem other (statements_of (next st)) → Mem other (statements_of p) ⊎ (st ≡ other)
  was st other m = snoc-mem (statements_of p) st other (subst (Mem other) (sym (with-last st)) m)

  signing-keeps : (st : Statement) → may_sign s p st ≡ true → InOrder p → InOrder (next st)
  signing-keeps st may ok = record {
    pairs = subst (Pairs Owes) (with-last st) (pairs-snoc Owes (statements_of p) st ok.pairs (λ a m. owes ok a st may m));
    signers = each-snoc (λ (c : Claim). c.signer ≡ p.me) p.signed (own_claim s signer p st) ok.signers refl;
    views = λ other m. below other (was st other m);
    placed = λ x k b there e. let far = kept x k b e (was st (Keep x k b) there) in let more = heard-grows
        (own_claim s signer p st) in omega (arith, far, more);
  }
    where
      below : (other : Statement) → Mem other (statements_of p) ⊎ (st ≡ other) → view_of other ≤ p.pool.view.number
      below other (inl m) = ok.views other m
      below other (inr e) = let now = current st may in let is = ap view_of e in omega (arith, now, is)

      kept : (x k : ℕ) (b : Batch) → x ≡ p.pool.view.number → Mem (Keep x k b) (statements_of p) ⊎ (st ≡ Keep x k b)
          → k < length (placed p.pool)
      kept x k b e (inl there) = ok.placed x k b there e
      kept x k b e (inr is) = keep-placed x k b (subst (λ st. may_sign s p st ≡ true) is may)

-- ---- each run keeps it

heard-keeps : (p : Process) (c : Claim) → InOrder p → InOrder (record p { pool = with_more p.pool (c ∷ []) })
heard-keeps p c ok = record {
  pairs = ok.pairs;
  signers = ok.signers;
  views = ok.views;
  placed = λ x k b there e. let far = ok.placed x k b there e in let more = placed-grows p.pool (c ∷ []) in omega (arith, far, more);
}

-- the new view has a greater number than each statement
installing-keeps : (p : Process) (d : ℕ × Value) → InOrder p → InOrder (install d p)
installing-keeps p d ok = record {
  pairs = ok.pairs;
  signers = ok.signers;
  views = λ st m. let below = ok.views st m in omega (arith, below);
  placed = λ x k b there e. absurd (let below = ok.views (Keep x k b) there in omega (arith, below, e));
}

same-keeps : (p q : Process) → p.signed ≡ q.signed → p.me ≡ q.me → p.pool ≡ q.pool → InOrder p → InOrder q
same-keeps p q signed me pool ok = record {
  pairs = subst (λ cs. Pairs Owes (map (λ c. c.statement) cs)) signed ok.pairs;
  signers = subst (λ n. (c : Claim) → Mem c q.signed → c.signer ≡ n) me
      (subst (λ cs. (c : Claim) → Mem c cs → c.signer ≡ p.me) signed ok.signers);
  views = subst (λ h. (st : Statement) → Mem st (statements_of q) → view_of st ≤ h.view.number) pool
      (subst (λ cs. (st : Statement) → Mem st (map (λ c. c.statement) cs) → view_of st ≤ p.pool.view.number) signed ok.views);
  placed = subst (λ h. (x k : ℕ) (b : Batch) → Mem (Keep x k b) (statements_of q) → x ≡ h.view.number → k < length (placed h)) pool
      (subst (λ cs. (x k : ℕ) (b : Batch) → Mem (Keep x k b) (map (λ c. c.statement) cs) → x ≡ p.pool.view.number
      → k < length (placed p.pool)) signed ok.placed);
}

keeps : (s : Setting) (from : List Claim) → Keeps s from InOrder
keeps s from = record {
  accepts = λ p payload ok. same-keeps p _ refl refl refl ok;
  perceives = λ p e ok. same-keeps p _ refl refl refl ok;
  hears = λ p c m e ok. heard-keeps p c ok;
  doubts = λ p conflicts ok. same-keeps p _ refl refl refl ok;
  signs = λ p signer st next none ok. signing-keeps s p signer st next.may ok;
  decides = λ p ok. same-keeps p _ refl refl refl ok;
  delivers = λ p ds member room e ok. same-keeps p _ refl refl refl ok;
  installs = λ p d decided whole ok. installing-keeps p d ok;
  halts = λ p d decided member ok. same-keeps p _ refl refl refl ok;
}

pub keeps_before_end : KeepsBeforeEnd
keeps_before_end s me limit turns i j x k n b at_keep at_end = go (compared i j)
  where
    sts : List Statement
    sts = statements_of (run s (start s me limit) turns)

    order : InOrder (run s (start s me limit) turns)
    order = run-keeps s InOrder turns (keeps s _) (start s me limit)
        (record {
          pairs = λ i j a b lt at. absurd cc;
          signers = λ c m. absurd m;
          views = λ st m. absurd m;
          placed = λ x k b there. absurd there;
        })

    go : Compared i j → (i < j) × (k < n)
    go (ahead first) = (first, order.pairs i j (Keep x k b) (End x n) first at_keep at_end refl)
    go (level e) = absurd (let is : Some (Keep x k b) ≡ Some (End x n) = sym at_keep ∙ ap (slice_get sts) e ∙ at_end in cc)
    go (behind last) = absurd (order.pairs j i (End x n) (Keep x k b) last at_end at_keep refl)
