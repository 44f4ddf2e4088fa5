-- What is certified at a correct process is backed in the family.
use Rattle.std.proofs.Common.{◌≡◌, inl, inr, ℕ, zero, suc, ◌+◌, ◌-◌, ◌<◌, List, [], ◌∷◌, map, length, Some, Bool, true, false, refl, sym, ap, ◌∙◌, subst, arith, slice_get}
use Rattle.std.specs.Prelude.{◌||◌, ◌==◌, not, Contains, slice_index}
use Rattle.std.specs.List.{list_any}
use Rattle.std.specs.List.Sorted.{IsStrictlyIncreasing}
use Rattle.std.proofs.lemmas.Bool.{eqb-true, leb-true}
use Rattle.std.proofs.lemmas.List.Sums.{length-filter}
use Rattle.group_defs.specs.Views.{View, quorum}
use Rattle.group_defs.specs.Below.{Statement, Claim, same_statement, Slot, slot_of}
use Rattle.group_defs.specs.Process.{Process}
use Rattle.group_defs.specs.Certified.{says, backers, number_of_members, heard_on}
use Rattle.group_defs.specs.Family.{Correct, Family, numbers, end_of, ends, handed, statements_of, IsOwned}
use Rattle.group_defs.specs.Laws.{IsFrom, StoodSo, IsOneView, IsBacked, may_back, CertifiedIsBacked}
use Rattle.pool_laws.proofs.Counting.{length-filter-le}
use Rattle.pool_laws.proofs.Heard.{heard-says, heard_on-said}
use Rattle.pool_laws.proofs.Members.{All-mem, Contains-mem, Mem, each-list_all, map-mem, mem-append, mem-list_any, mem-map}
use Rattle.safety_laws.proofs.OnePerSlot.{own-signers}
use Rattle.pool_laws.proofs.Places.{Compared, ahead, behind, compared, level, mem-slice_get, slice_get-length}
use Rattle.safety_laws.proofs.Quorums.{in-ends, me-end_of}
use Rattle.pool_laws.proofs.Slots.{is-same_statement}

-- ---- each process of a family has a number of its own

increasing-at : (xs : List ℕ) → IsStrictlyIncreasing xs → (d i : ℕ) → i + suc d < length xs → slice_index xs i < slice_index xs (i + suc d)
increasing-at xs up zero i lt = let next : i + suc zero
    ≡ i + 1 = omega arith in subst (λ j. slice_index xs i < slice_index xs j) (sym next) (up i (omega (arith, lt)))
increasing-at xs up (suc d) i lt =
    let before = increasing-at xs up d i (omega (arith, lt)) in
    let step = up (i + suc d) (omega (arith, lt)) in
    let same : (i + suc d) + 1 ≡ i + suc (suc d) = omega arith in
    subst (λ j. slice_index xs i < slice_index xs j) same (omega (arith, before, step))

index-map : (cs : List Correct) (i : ℕ) (c : Correct) → slice_get cs i ≡ Some c → slice_index (map (λ c. c.me) cs) i ≡ c.me
index-map [] i c e = absurd cc
index-map (d ∷ cs) zero c e = let is : d ≡ c = cc in ap (λ (c : Correct). c.me) is
index-map (d ∷ cs) (suc i) c e = index-map cs i c e

length-numbers : (cs : List Correct) → length (map (λ (c : Correct). c.me) cs) ≡ length cs
length-numbers [] = refl
length-numbers (c ∷ cs) = ap suc (length-numbers cs)

module _ (f : Family) (rising : IsStrictlyIncreasing (numbers f)) where
  apart : (i j : ℕ) (a b : Correct) → i < j → slice_get f.correct i ≡ Some a → slice_get f.correct j ≡ Some b → a.me < b.me
  apart i j a b lt at_i at_j =
      let far = slice_get-length f.correct j b at_j in
      let long = length-numbers f.correct in
      let gap : i + suc (j - suc i) ≡ j = omega (arith, lt) in
      let up = increasing-at (numbers f) rising (j - suc i) i (omega (arith, gap, far, long)) in
      let up' : slice_index (numbers f) i < slice_index (numbers f) j = subst
      (λ k. slice_index (numbers f) i < slice_index (numbers f) k) gap up in
      let one = index-map f.correct i a at_i in
      let two = index-map f.correct j b at_j in
      omega (arith, up', one, two)

  pub one-of-number : (a b : Correct) → Mem a f.correct → Mem b f.correct → a.me ≡ b.me → a ≡ b
  one-of-number a b m n e =
      let i = mem-slice_get f.correct a m in
      let j = mem-slice_get f.correct b n in
      go i.0 j.0 i.1 j.1 (compared i.0 j.0)
    where
      go : (i j : ℕ) → slice_get f.correct i ≡ Some a → slice_get f.correct j ≡ Some b → Compared i j → a ≡ b
      go i j at_i at_j (ahead lt) = absurd (let less = apart i j a b lt at_i at_j in omega (arith, less, e))
      go i j at_i at_j (behind lt) = absurd (let less = apart j i b a lt at_j at_i in omega (arith, less, e))
      go i j at_i at_j (level same) = let is : Some a ≡ Some b = sym at_i ∙ ap (slice_get f.correct) same ∙ at_j in cc

-- ---- the law

module _ (f : Family) (v : View) (q : Process) (one : IsOneView f v) (stood : StoodSo f q) where
  -- a claim on st from a correct process p stands in its signed list
  pub own-word : (c : Claim) → IsFrom f.setting (handed f) q.signed c → (p : Process) → Mem p (ends f) → p.me ≡ c.signer
      → Mem c.statement (statements_of p)
  own-word c (inl handed') p m e = Contains-mem (statements_of p) c.statement
      (All-mem (λ (p : Process). p.me ≡ c.signer → Contains (statements_of p) c.statement)
      (ends f) p (All-mem (IsOwned f) (handed f) c one.premises.honest (Contains-mem (handed f) c handed'.0) handed'.1) m e)
  own-word c (inr own) p m e =
      let a = map-mem (end_of f.setting) f.correct p m in
      let b = map-mem (end_of f.setting) f.correct stood.by (Contains-mem (ends f) stood.by stood.correct) in
      let in_by : Mem c stood.by.signed = subst (Mem c) stood.grown.signed.1
      (mem-append q.signed stood.grown.signed.0 c (Contains-mem q.signed c own)) in
      let in_end : Mem c (end_of f.setting b.0).signed = subst (λ (p : Process). Mem c p.signed) (sym b.2) in_by in
      let signer : c.signer ≡ b.0.me = own-signers f.setting b.0.me b.0.batch_limit b.0.turns c in_end ∙ me-end_of f.setting b.0 in
      let number : a.0.me ≡ b.0.me = sym (me-end_of f.setting a.0) ∙ ap (λ (p : Process). p.me) a.2 ∙ e ∙ signer in
      let same : a.0 ≡ b.0 = one-of-number f one.premises.rising a.0 b.0 a.1 b.1 number in
      subst (λ (p : Process). Mem c.statement (statements_of p)) (ap (end_of f.setting) (sym same) ∙ a.2)
      (mem-map (λ (c : Claim). c.statement) (end_of f.setting b.0).signed c in_end)

  -- what was heard of a correct process on a slot stands in its signed list
  pub heard-word : (c : Correct) → Mem c f.correct → (slot : Slot) (st : Statement) → heard_on q.pool c.me slot ≡ Some st
      → Mem st (statements_of (end_of f.setting c)) × (slot_of st ≡ slot)
  heard-word c m slot st e =
      let said = heard_on-said q.pool c.me slot st e in
      let claim = said.0 in
      let word = own-word claim.0 (All-mem (IsFrom f.setting (handed f) q.signed) q.pool.heard claim.0 stood.heard claim.1)
      (end_of f.setting c) (in-ends f c m) (me-end_of f.setting c ∙ sym claim.2) in
      (subst (λ st. Mem st (statements_of (end_of f.setting c))) claim.3 word, said.1)

  pub said-may_back : (st : Statement) (m : ℕ) → says q.pool st m ≡ true → may_back f st m ≡ true
  said-may_back st m e =
      let c = heard-says q.pool st m e in
      let source = All-mem (IsFrom f.setting (handed f) q.signed) q.pool.heard c.0 stood.heard c.1 in
      each-list_all (λ p. not (p.me == m) || list_any (same_statement st) (statements_of p)) (ends f) (λ p at. go p (p.me == m) refl (λ is.
      mem-list_any (same_statement st) (statements_of p) st
      (subst (λ st. Mem st (statements_of p)) c.3 (own-word c.0 source p at (is ∙ sym c.2)))
      (is-same_statement st st refl)))
    where
      go : (p : Process) (b : Bool) → (p.me == m) ≡ b → (p.me ≡ m → list_any (same_statement st) (statements_of p) ≡ true)
          → (not b || list_any (same_statement st) (statements_of p)) ≡ true
      go p true e said = said (eqb-true p.me m e)
      go p false e said = refl

pub certified_is_backed : CertifiedIsBacked
certified_is_backed f v q st one stood at certified =
    let enough = leb-true (quorum (number_of_members q.pool)) (length (backers q.pool st)) certified in
    let grown = length-filter-le (says q.pool st) (may_back f st) q.pool.view.members (said-may_back f v q one stood st) in
    let counted = length-filter (may_back f st) q.pool.view.members in
    subst (λ v. IsBacked f v st) at (omega (arith, enough, grown, counted))
