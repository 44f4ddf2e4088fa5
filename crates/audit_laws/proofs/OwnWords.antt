-- What a process of a family signed: one statement of a slot, and in its own name.
use Rattle.std.proofs.Common.{◌≡◌, ℕ, sym, ap, ◌∙◌, subst}
use Rattle.std.specs.List.Sorted.{IsStrictlyIncreasing}
use Rattle.message_defs.specs.Statements.{Statement, Claim, slot_of}
use Rattle.group_defs.specs.Process.{Process}
use Rattle.group_defs.specs.Family.{Correct, Family, numbers, end_of, ends, statements_of}
use Rattle.pool_laws.proofs.Members.{Mem, map-mem, mem-map}
use Rattle.safety_laws.proofs.CertifiedIsBacked.{one-of-number}
use Rattle.safety_laws.proofs.OneContent.{one-of-slot}
use Rattle.safety_laws.proofs.OnePerSlot.{own-signers}
use Rattle.safety_laws.proofs.Quorums.{me-end_of}

-- a process at the end has signed one statement of a slot
pub one-word : (f : Family) (p : Process) → Mem p (ends f) → (st other : Statement) → Mem st (statements_of p) → Mem other (statements_of p)
    → slot_of st ≡ slot_of other → st ≡ other
one-word f p m st other n o same =
    let c = map-mem (end_of f.setting) f.correct p m in
    one-of-slot f.setting c.0 st other (subst (λ (p : Process). Mem st (statements_of p)) (sym c.2) n)
    (subst (λ (p : Process). Mem other (statements_of p)) (sym c.2) o) same

-- and in its own name
pub own-name : (f : Family) (p : Process) → Mem p (ends f) → (c : Claim) → Mem c p.signed → c.signer ≡ p.me
own-name f p m c n =
    let d = map-mem (end_of f.setting) f.correct p m in
    own-signers f.setting d.0.me d.0.batch_limit d.0.turns c (subst (λ (p : Process). Mem c p.signed) (sym d.2) n)
    ∙ ap (λ (p : Process). p.me) d.2

-- a process at the end has the number of one of the family
pub number-of : (f : Family) (p : Process) → Mem p (ends f) → Mem p.me (numbers f)
number-of f p m =
    let c = map-mem (end_of f.setting) f.correct p m in
    subst (λ q. Mem q (numbers f)) (sym (me-end_of f.setting c.0) ∙ ap (λ (p : Process). p.me) c.2) (mem-map (λ (c : Correct). c.me) f.correct c.0 c.1)

pub of-number : (f : Family) (q : ℕ) → Mem q (numbers f) → (p : Process) × Mem p (ends f) × (p.me ≡ q)
of-number f q m =
    let c = map-mem (λ (c : Correct). c.me) f.correct q m in
    (end_of f.setting c.0, mem-map (end_of f.setting) f.correct c.0 c.1, me-end_of f.setting c.0 ∙ c.2)

-- ---- each has a number of its own

module _ (f : Family) (rising : IsStrictlyIncreasing (numbers f)) where
  pub one-process : (p q : Process) → Mem p (ends f) → Mem q (ends f) → p.me ≡ q.me → p ≡ q
  one-process p q m n e =
      let a = map-mem (end_of f.setting) f.correct p m in
      let b = map-mem (end_of f.setting) f.correct q n in
      let number : a.0.me ≡ b.0.me = sym (me-end_of f.setting a.0) ∙ ap (λ (p : Process). p.me) a.2 ∙ e
      ∙ sym (ap (λ (p : Process). p.me) b.2) ∙ me-end_of f.setting b.0 in
      sym a.2 ∙ ap (end_of f.setting) (one-of-number f rising a.0 b.0 a.1 b.1 number) ∙ b.2
