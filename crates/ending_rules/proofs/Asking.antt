-- Updates that are asked for.
use Rattle.std.proofs.Common.{◌≡◌, ℕ, ◌≤◌, List, [], ◌∷◌, Bool, true, false, refl, sym, ap, ◌∙◌, arith}
use Rattle.std.specs.Prelude.{◌||◌, not, ◌==◌, nat_lt, if◌then◌else◌}
use Rattle.std.specs.Int.{bit_at}
use Rattle.std.specs.List.{list_any, range_with_len}
use Rattle.std.proofs.lemmas.Bool.{eq-eqb, eqb-true, not-true}
use native.Mathlib.Decide.{ℕ_discrete}
use Rattle.byte_defs.specs.Equality.{is_yes, pair_discrete}
use Rattle.byte_defs.specs.Members.{has}
use Rattle.byte_defs.specs.Orders.{put, numbers_below}
use Rattle.message_defs.specs.Spelling.{IsUpdate}
use Rattle.message_defs.specs.Updates.{Update, Remove, Add, Renew, Update-discrete}
use Rattle.group_defs.specs.Process.{Process}
use Rattle.group_defs.specs.Due.{is_perceived}
use Rattle.group_defs.specs.Events.{perceives, perceived_numbers}
use Rattle.rp_base.specs.Pids.{members, all_numbers, put_once}
use Rattle.rp_base.proofs.Members.{members_none}
use Rattle.pool_laws.proofs.Members.{list_any-mem, filter-mem}
use Rattle.pool_laws.proofs.Places.{mem-range}
use Rattle.pool_laws.proofs.Tests.{yes-is, is-yes}
use Rattle.rule_laws.proofs.Numbers.{same-test}
use Rattle.ending_rules.specs.declared.notifies.Perceived.{Perceived}
use Rattle.ending_rules.specs.Perceiving.{has_update, with_update, IsPerceivedOf}

-- ---- the set

has-put : (p q : ℕ) (ps : List ℕ) → has (put_once p ps) q ≡ ((p == q) || has ps q)
has-put p q [] = refl
has-put p q (a ∷ ps) = go (nat_lt a p) (a == p) refl (has-put p q ps)
  where
    swap : (a b c : Bool) → (a || (b || c)) ≡ (b || (a || c))
    swap true true c = refl
    swap true false c = refl
    swap false b c = refl

    again : (a c : Bool) → (a || c) ≡ (a || (a || c))
    again true c = refl
    again false c = refl

    go : (b e : Bool) → (a == p) ≡ e → has (put_once p ps) q ≡ ((p == q) || has ps q)
        → has (if b then a ∷ put_once p ps else if e then a ∷ ps else p ∷ a ∷ ps) q ≡ ((p == q) || has (a ∷ ps) q)
    go true e is rest = ap (λ t. (a == q) || t) rest ∙ swap (a == q) (p == q) (has ps q)
    go false true is rest = again (a == q) (has ps q) ∙ ap (λ n. (n == q) || ((a == q) || has ps q)) (eqb-true a p is)
    go false false is rest = refl

abbrev same_update : Update → Update → Bool
same_update u v = is_yes (Update-discrete ℕ_discrete u v)

same-process : (f : ℕ → Update) → ((a b : ℕ) → f a ≡ f b → a ≡ b) → (a b : ℕ) → (a == b) ≡ same_update (f a) (f b)
same-process f one a b = same-test _ _ (λ e. is-yes (Update-discrete ℕ_discrete (f a) (f b)) (ap f (eqb-true a b e)))
    (λ e. eq-eqb a b (one a b (yes-is (Update-discrete ℕ_discrete (f a) (f b)) e)))

other-update : (u v : Update) → (u ≡ v → ⊥) → false ≡ same_update u v
other-update u v not = same-test _ _ (λ e. absurd (let clash : false ≡ true = e in cc))
    (λ e. absurd (not (yes-is (Update-discrete ℕ_discrete u v) e)))

-- the set with an update has it, and what it had
pub has-with : (set : Perceived) (u v : Update) → has_update (with_update set u) v ≡ (same_update u v || has_update set v)
has-with set (Remove a) (Remove b) = has-put a b set.remove ∙ ap (λ t. t || has set.remove b) (same-process Remove (λ a b e. cc) a b)
has-with set (Add a) (Add b) = has-put a b set.add ∙ ap (λ t. t || has set.add b) (same-process Add (λ a b e. cc) a b)
has-with set Renew Renew = ap (λ t. t || set.renew) (sym (is-yes (Update-discrete ℕ_discrete Renew Renew) refl))
has-with set (Remove a) (Add b) = ap (λ t. t || has set.add b) (other-update (Remove a) (Add b) (λ e. cc))
has-with set (Remove a) Renew = ap (λ t. t || set.renew) (other-update (Remove a) Renew (λ e. cc))
has-with set (Add a) (Remove b) = ap (λ t. t || has set.remove b) (other-update (Add a) (Remove b) (λ e. cc))
has-with set (Add a) Renew = ap (λ t. t || set.renew) (other-update (Add a) Renew (λ e. cc))
has-with set Renew (Remove b) = ap (λ t. t || has set.remove b) (other-update Renew (Remove b) (λ e. cc))
has-with set Renew (Add b) = ap (λ t. t || has set.add b) (other-update Renew (Add b) (λ e. cc))

-- ---- the process

any-put : {A : Type 0} (key : A → List ℕ) (test : A → Bool) (a : A) (xs : List A)
    → list_any test (put key a xs) ≡ (test a || list_any test xs)
any-put key test a [] = refl
any-put key test a (x ∷ xs) = go (numbers_below (key a) (key x)) (any-put key test a xs)
  where
    swap : (a b c : Bool) → (a || (b || c)) ≡ (b || (a || c))
    swap true true c = refl
    swap true false c = refl
    swap false b c = refl

    go : (b : Bool) → list_any test (put key a xs) ≡ (test a || list_any test xs)
        → list_any test (if b then a ∷ x ∷ xs else x ∷ put key a xs) ≡ (test a || list_any test (x ∷ xs))
    go true rest = refl
    go false rest = ap (λ t. test x || t) rest ∙ swap (test x) (test a) (list_any test xs)

same-pair : (x : ℕ) (u v : Update) → is_yes (pair_discrete ℕ_discrete (Update-discrete ℕ_discrete) (x, u) (x, v)) ≡ same_update u v
same-pair x u v = same-test _ _
    (λ e. is-yes (Update-discrete ℕ_discrete u v)
    (let same = yes-is (pair_discrete ℕ_discrete (Update-discrete ℕ_discrete) (x, u) (x, v)) e in λ i. (same i).1))
    (λ e. is-yes (pair_discrete ℕ_discrete (Update-discrete ℕ_discrete) (x, u) (x, v))
    (let same = yes-is (Update-discrete ℕ_discrete u v) e in λ i. (x, same i)))

-- what the set tells before, the set with the update tells after
pub perceives-reported : (set : Perceived) (p : Process) (u : Update) → IsPerceivedOf set p
    → IsPerceivedOf (with_update set u) (perceives p u)
perceives-reported set p u tells = go (is_perceived p (p.pool.view.number, u)) refl
  where
    x : ℕ
    x = p.pool.view.number

    added : Process
    added = record p { perceived = put perceived_numbers (p.pool.view.number, u) p.perceived }

    absorbed : (a b : Bool) → (a ≡ true → b ≡ true) → b ≡ (a || b)
    absorbed true b so = so refl
    absorbed false b so = refl

    go : (b : Bool) → is_perceived p (p.pool.view.number, u) ≡ b
        → IsPerceivedOf (with_update set u)
        (if b then p else record p { perceived = put perceived_numbers (p.pool.view.number, u) p.perceived })
    go true there v =
        tells v ∙ absorbed (same_update u v) (has_update set v)
        (λ e. sym (tells v) ∙ ap (λ w. is_perceived p (p.pool.view.number, w))
        (sym (yes-is (Update-discrete ℕ_discrete u v) e)) ∙ there) ∙ sym (has-with set u v)
    go false there v =
        any-put perceived_numbers (λ d. is_yes (pair_discrete ℕ_discrete (Update-discrete ℕ_discrete) d (p.pool.view.number, v)))
        (p.pool.view.number, u) p.perceived
        ∙ (λ i. same-pair p.pool.view.number u v i || tells v i)
        ∙ sym (has-with set u v)

-- ---- ranges

-- the processes of a mask are numbered below 64
few-members : (m q : ℕ) → has (members m) q ≡ true → q ≤ 63
unfolding members all_numbers
few-members m q e =
    let at = list_any-mem (λ a. a == q) (members m) e in
    let lt = mem-range 0 64 at.0 (filter-mem (λ a. bit_at m a == 1) (range_with_len 0 64) at.0 at.1).0 in
    let is : at.0 ≡ q = eqb-true at.0 q at.2 in
    omega (arith, lt, is)

module _ (set : Perceived) (a b : ℕ) (remove : members a ≡ set.remove) (add : members b ≡ set.add) where
  pub in-range : (u : Update) → has_update set u ≡ true → IsUpdate u
  in-range (Remove q) e = few-members a q (ap (λ ps. has ps q) remove ∙ e)
  in-range (Add q) e = few-members b q (ap (λ ps. has ps q) add ∙ e)
  in-range Renew e = tt

  -- of empty masks there is none
  pub none-there : a ≡ 0 → b ≡ 0 → not set.renew ≡ true → (u : Update) → has_update set u ≡ false
  none-there a_is b_is renew (Remove q) = ap (λ ps. has ps q) (sym remove ∙ ap members a_is ∙ members_none)
  none-there a_is b_is renew (Add q) = ap (λ ps. has ps q) (sym add ∙ ap members b_is ∙ members_none)
  none-there a_is b_is renew Renew = not-true set.renew renew
