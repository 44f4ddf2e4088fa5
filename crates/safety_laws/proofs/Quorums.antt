-- Two quorums meet in a correct member.
use Rattle.std.proofs.Common.{◌≡◌, ℕ, ◌+◌, ◌-◌, ◌/◌, ◌<◌, ◌≤◌, List, length, Bool, true, refl, sym, ◌∙◌, subst, arith, false}
use Rattle.std.specs.Prelude.{◌&&◌, ◌||◌, ◌==◌, not, filter, All}
use Rattle.std.specs.List.{list_any}
use Rattle.std.proofs.lemmas.Bool.{eqb-true, eq-eqb}
use Rattle.std.proofs.lemmas.List.Sums.{length-filter}
use Rattle.group_defs.specs.Below.{has, Statement, Claim, same_statement}
use Rattle.group_defs.specs.Views.{View, faulty, quorum}
use Rattle.group_defs.specs.Process.{Setting, Process, start, views_of}
use Rattle.group_defs.specs.Accounts.{Account, account_of, corrupt_in}
use Rattle.group_defs.specs.Family.{Correct, Family, numbers, end_of, ends, accounts, statements_of}
use Rattle.group_defs.specs.Laws.{IsOneView, IsBacked, may_back, QuorumsMeet}
use Rattle.pool_laws.proofs.Counting.{both-count, one-more}
use Rattle.safety_laws.proofs.Induction.{Keeps, run-keeps}
use Rattle.pool_laws.proofs.Members.{All-mem, Contains-mem, Mem, list_all-mem, list_any-mem, map-mem, mem-map}
use Rattle.pool_laws.proofs.Slots.{same_statement-is}
use Rattle.pool_laws.proofs.Tests.{and-first, and-second, not-false}

-- ---- the numbers

meet : (n f a b c d : ℕ) → f ≡ (n - 1) / 3 → 1 ≤ n → n - f ≤ a → n - f ≤ b → a + b ≤ n + c → d ≤ f → d < c
meet n f a b c d e some qa qb all few = omega (arith, e, some, qa, qb, all, few)

pub quorums_meet : QuorumsMeet
quorums_meet members p q some enough enough' =
    let one = length-filter p members in
    let two = length-filter q members in
    let three = length-filter (λ m. p m && q m) members in
    let counted = meet (length members) (faulty (length members)) (length (filter p members)) (length (filter q members))
    (length (filter (λ m. p m && q m) members)) (faulty (length members)) refl some
    (omega (arith, one, enough)) (omega (arith, two, enough')) (both-count p q members) (omega arith) in
    omega (arith, three, counted)

-- ---- the own number stays

stays : (s : Setting) (from : List Claim) (me : ℕ) → Keeps s from (λ p. p.me ≡ me)
stays s from me = record {
  accepts = λ p payload ok. ok;
  perceives = λ p e ok. ok;
  hears = λ p c m e ok. ok;
  doubts = λ p conflicts ok. ok;
  signs = λ p signer st next none ok. ok;
  decides = λ p ok. ok;
  delivers = λ p ds member room e ok. ok;
  installs = λ p d decided whole ok. ok;
  halts = λ p d decided member ok. ok;
}

pub me-end_of : (s : Setting) (c : Correct) → (end_of s c).me ≡ c.me
me-end_of s c = run-keeps s (λ p. p.me ≡ c.me) c.turns (stays s _ c.me) (start s c.me c.batch_limit) refl

-- ---- correct members

pub in-ends : (f : Family) (c : Correct) → Mem c f.correct → Mem (end_of f.setting c) (ends f)
in-ends f c m = mem-map (end_of f.setting) f.correct c m

-- a view that was installed has at most f members that are not correct
pub few-corrupt : (f : Family) (v : View) → IsOneView f v
    → length (filter (λ m. not (has (numbers f) m)) v.members) ≤ faulty (length v.members)
few-corrupt f v one =
    let few = All-mem (λ (v : View). corrupt_in (numbers f) v ≤ faulty (length v.members)) (views_of one.by) v
    (All-mem (λ (a : Account). All (λ (v : View). corrupt_in (numbers f) v ≤ faulty (length v.members)) a.views) (accounts f)
    (account_of one.by) one.premises.bounded (mem-map account_of (ends f) one.by (Contains-mem (ends f) one.by one.correct)))
    (Contains-mem (views_of one.by) v one.installed) in
    subst (λ k. k ≤ faulty (length v.members)) (sym (length-filter (λ m. not (has (numbers f) m)) v.members)) few

-- one of more than f members that pass a test is correct
pub some-correct : (f : Family) (v : View) → IsOneView f v → (p : ℕ → Bool) → faulty (length v.members) < length (filter p v.members)
    → (c : Correct) × Mem c f.correct × (p c.me ≡ true)
some-correct f v one p many = let few = few-corrupt f v one in go
    (one-more p (λ m. not (has (numbers f) m)) v.members (omega (arith, few, many)))
  where
    named : (m : ℕ) → p m ≡ true → (q : ℕ) × Mem q (numbers f) × ((q == m) ≡ true) → (c : Correct) × Mem c f.correct × (p c.me ≡ true)
    named m passes found =
        let c = map-mem (λ (c : Correct). c.me) f.correct found.0 found.1 in
        (c.0, c.1, subst (λ m. p m ≡ true) (sym (c.2 ∙ eqb-true found.0 m found.2)) passes)

    go : (m : ℕ) × Mem m v.members × (p m ≡ true) × (not (has (numbers f) m) ≡ false) → (c : Correct) × Mem c f.correct × (p c.me ≡ true)
    go found = named found.0 found.2 (list_any-mem (λ q. q == found.0) (numbers f) (not-false (has (numbers f) found.0) found.3))

-- two quorums of members share a correct process
pub meeting : (f : Family) (v : View) → IsOneView f v → (p q : ℕ → Bool) → quorum (length v.members) ≤ length (filter p v.members)
    → quorum (length v.members) ≤ length (filter q v.members)
    → (c : Correct) × Mem c f.correct × (p c.me ≡ true) × (q c.me ≡ true)
meeting f v one p q enough enough' =
    let c = some-correct f v one (λ m. p m && q m)
    (meet (length v.members) (faulty (length v.members)) (length (filter p v.members)) (length (filter q v.members))
    (length (filter (λ m. p m && q m) v.members)) (faulty (length v.members)) refl one.view.some enough enough' (both-count p q v.members)
    (omega arith)) in
    (c.0, c.1, and-first (p c.0.me) (q c.0.me) c.2, and-second (p c.0.me) (q c.0.me) c.2)

-- ---- what is backed

-- a correct process of this number has signed what it may back
pub signed-by : (f : Family) (st : Statement) (c : Correct) → Mem c f.correct → may_back f st c.me ≡ true
    → Mem st (statements_of (end_of f.setting c))
signed-by f st c m e =
    let p : Process = end_of f.setting c in
    let test : (not (p.me == c.me) || list_any (same_statement st) (statements_of p))
    ≡ true = list_all-mem (λ p. not (p.me == c.me) || list_any (same_statement st) (statements_of p))
    (ends f) p e (mem-map (end_of f.setting) f.correct c m) in
    let found = list_any-mem (same_statement st) (statements_of p)
    (subst (λ b. (not b || list_any (same_statement st) (statements_of p)) ≡ true) (eq-eqb p.me c.me (me-end_of f.setting c)) test) in
    subst (λ st. Mem st (statements_of p)) (sym (same_statement-is st found.0 found.2)) found.1

pub enough-of : (f : Family) (v : View) (st : Statement) → IsBacked f v st
    → quorum (length v.members) ≤ length (filter (may_back f st) v.members)
enough-of f v st backed = subst (λ k. quorum (length v.members) ≤ k) (sym (length-filter (may_back f st) v.members)) backed

-- a correct member has signed it
pub backer : (f : Family) (v : View) (st : Statement) → IsOneView f v → IsBacked f v st
    → (c : Correct) × Mem c f.correct × Mem st (statements_of (end_of f.setting c))
backer f v st one backed =
    let c = meeting f v one (may_back f st) (may_back f st) (enough-of f v st backed) (enough-of f v st backed) in
    (c.0, c.1, signed-by f st c.0 c.1 c.2)

-- and a correct member of each quorum of this view has
pub backer-in : (f : Family) (v : View) (st : Statement) → IsOneView f v → IsBacked f v st → (p : ℕ → Bool)
    → quorum (length v.members) ≤ length (filter p v.members)
    → (c : Correct) × Mem c f.correct × (p c.me ≡ true) × Mem st (statements_of (end_of f.setting c))
backer-in f v st one backed p enough =
    let c = meeting f v one p (may_back f st) enough (enough-of f v st backed) in
    (c.0, c.1, c.2, signed-by f st c.0 c.1 c.3)
