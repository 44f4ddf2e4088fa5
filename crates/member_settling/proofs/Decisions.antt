-- What decides a view.
use Rattle.std.proofs.Common.{◌≡◌, ℕ, List, Some, None, Bool, true, false, refl, sym, ap, ◌∙◌, subst}
use Rattle.std.specs.Prelude.{if◌then◌else◌, ◌&&◌, is_none, option_and_then}
use Rattle.std.specs.List.{range_with_len}
use Rattle.byte_defs.specs.Members.{has}
use Rattle.message_defs.specs.Updates.{Update, Remove, Add, Renew, Value}
use Rattle.message_defs.specs.Statements.{Statement, Ready, ReadyAt, slot_of, value_of}
use Rattle.group_defs.specs.Views.{View, next_fault, is_possible}
use Rattle.group_defs.specs.Process.{Setting, Pool, keyed}
use Rattle.group_defs.specs.Certified.{certified_on, number_of_members, readied, value_at}
use Rattle.group_defs.specs.Settle.{decided_at, decided_by}
use Rattle.pool_laws.proofs.Heard.{certified_on-is}
use Rattle.pool_laws.proofs.Tests.{some-same, then-some}
use Rattle.safety_laws.proofs.Installed.{first_some-is}

-- its rank's certified Ready has its value, and the value's update is possible
pub record Decides (s : Setting) (h : Pool) (d : ℕ × Value) : Type 0 where
  pub certified : value_at h (ReadyAt h.view.number d.0) ≡ Some d.1
  pub possible : is_possible (keyed s) h.view d.1.update ≡ true

pub decided-is : (s : Setting) (h : Pool) (d : ℕ × Value) → decided_by s h ≡ Some d → Decides s h d
decided-is s h d e =
    let at = first_some-is (decided_at s h) (range_with_len 0 (number_of_members h)) d e in
    let v = then-some (λ v. if is_possible (keyed s) h.view v.update then Some (at.0, v) else None)
    (value_at h (ReadyAt h.view.number at.0)) d at.1 in
    go at.0 v.0 v.1 (is_possible (keyed s) h.view v.0.update) refl v.2
  where
    go : (r : ℕ) (w : Value) → value_at h (ReadyAt h.view.number r) ≡ Some w → (b : Bool) → is_possible (keyed s) h.view w.update ≡ b
        → (if b then Some (r, w) else None) ≡ Some d → Decides s h d
    go r w e true f is = subst (Decides s h) (some-same (r, w) d is) (record { certified = e; possible = f })
    go r w e false f is = absurd cc

-- the same processes have keys
pub same-keys : (ks ls : List ℕ) → ((q : ℕ) → has ks q ≡ has ls q) → (v : View) (u : Update) → is_possible ks v u ≡ is_possible ls v u
same-keys ks ls same v (Remove q) = refl
same-keys ks ls same v (Add q) = ap (λ b. is_none (next_fault v (Add q)) && b) (same q)
same-keys ks ls same v Renew = refl

readied-is : (st : Statement) (x r : ℕ) (v : Value) → slot_of st ≡ ReadyAt x r → value_of st ≡ Some v → readied st ≡ Some (r, v)
readied-is (Ready y q w) x r v e f = let rank : q ≡ r = cc in let is : w ≡ v = cc in λ i. Some (rank i, is i)
readied-is _ x r v e f = absurd cc

-- the certified Ready of the rank that decides
pub ready-decides : (s : Setting) (h : Pool) (ks : List ℕ) (d : ℕ × Value) (st : Statement) → ((q : ℕ) → has (keyed s) q ≡ has ks q)
    → decided_by s h ≡ Some d → certified_on h (ReadyAt h.view.number d.0) ≡ Some st
    → option_and_then (λ (d : ℕ × Value). if is_possible ks h.view d.1.update then Some d else None) (readied st) ≡ decided_by s h
ready-decides s h ks d st same e on =
    let by = decided-is s h d e in
    let said : value_of st ≡ Some d.1 = sym (ap (option_and_then value_of) on) ∙ by.certified in
    let ready : readied st ≡ Some d = readied-is st h.view.number d.0 d.1 (certified_on-is h (ReadyAt h.view.number d.0) st on).1 said in
    let possible : is_possible ks h.view d.1.update ≡ true = sym (same-keys (keyed s) ks same h.view d.1.update) ∙ by.possible in
    ap (option_and_then (λ (d : ℕ × Value). if is_possible ks h.view d.1.update then Some d else None)) ready ∙ ap
    (λ b. if b then Some d else None) possible ∙ sym e

-- it is certified
pub ready-certified : (s : Setting) (h : Pool) (d : ℕ × Value) → decided_by s h ≡ Some d → certified_on h (ReadyAt h.view.number d.0) ≡ None
    → ⊥
ready-certified s h d e none = let by = (decided-is s h d e).certified in let clash : None
    ≡ Some d.1 = sym (ap (option_and_then value_of) none) ∙ by in cc
