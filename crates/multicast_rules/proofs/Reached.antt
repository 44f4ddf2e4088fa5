-- Where all is signed that could be due, nothing is due.
use Rattle.std.proofs.Common.{◌≡◌, ◌⊎◌, inl, inr, ℕ, zero, suc, ◌+◌, ◌<◌, ◌≤◌, length, Option, Some, None, Bool, true, false, refl, sym, ap, ◌∙◌, arith}
use Rattle.std.specs.Prelude.{not, ◌&&◌, nat_lt, option_map, slice_get}
use Rattle.std.proofs.lemmas.Bool.{both_ways, not-true, cases_lt, cases_order, ltb-false, le-ltb, and_cases, and_left, and_right}
use Rattle.std.proofs.lemmas.Option.{slice_get_past}
use Rattle.message_defs.specs.Limits.{most_places}
use Rattle.message_defs.specs.Statements.{Keep, InitAt, KeepAt}
use Rattle.group_defs.specs.Process.{Inits, Keeps, Setting, Pool, Process}
use Rattle.group_defs.specs.Certified.{placed}
use Rattle.group_defs.specs.Due.{window, least_due}
use Rattle.own_place.specs.declared.own.Own.{Own}
use Rattle.own_place.specs.Owns.{IsOwnOf}
use Rattle.own_place.specs.Signed.{has_slot}
use Rattle.pool_laws.specs.Least.{IsLeastBelow}
use Rattle.multicast_rules.proofs.Waits.{CountsOwn, no-init-due, this-init-due, keep-due}

-- some number is the least, or none is
some-least : (t : ℕ → Bool) (n : ℕ) → (o : Option ℕ) × IsLeastBelow n t o
some-least t zero = (None, λ k from below. absurd (omega (arith, below)))
some-least t (suc n) = more (some-least t n).0 (some-least t n).1 (t n) refl
  where
    more : (o : Option ℕ) → IsLeastBelow n t o → (b : Bool) → t n ≡ b → (o : Option ℕ) × IsLeastBelow (suc n) t o
    more (Some k) least b e = (Some k, (least.0, (let lt = least.1 in omega (arith, lt)), least.2, least.3))
    more None none true e = (Some n, (omega arith, omega arith, e, λ j from below. none j from below))
    more None none false e = (None, λ k from below. last k from below (cases_order k n))
      where
        last : (k : ℕ) → 0 ≤ k → k < suc n → (k ≡ n) ⊎ ((k < n) ⊎ (n < k)) → t k ≡ false
        last k from below (inl same) = ap t same ∙ e
        last k from below (inr (inl lt)) = none k from lt
        last k from below (inr (inr lt)) = absurd (omega (arith, below, lt))

-- a number whose slot is not signed is past those that are
past-signed : (signed : ℕ → Bool) (reached k : ℕ) → ((j : ℕ) → j < reached → signed j ≡ true) → not (signed k) ≡ true → reached ≤ k
past-signed signed reached k below open_ = go (cases_lt k reached)
  where
    go : (k < reached) ⊎ (reached ≤ k) → reached ≤ k
    go (inl lt) = absurd (both_ways (signed k) (not-true (signed k) open_) (below k lt))
    go (inr le) = le

-- after a number that has no payload none has one
none-later : (reached l last earlier accepted : ℕ) → reached ≤ l → not (nat_lt reached last && nat_lt (earlier + reached) accepted) ≡ true
    → (nat_lt l last && nat_lt (earlier + l) accepted) ≡ false
none-later reached l last earlier accepted le e = go (and_cases _ _ (not-true _ e))
  where
    go : (nat_lt reached last ≡ false) ⊎ (nat_lt (earlier + reached) accepted ≡ false)
        → (nat_lt l last && nat_lt (earlier + l) accepted) ≡ false
    go (inl far) = and_left _ _ (le-ltb l last (let few = ltb-false reached last far in omega (arith, few, le)))
    go (inr far) = and_right _ _
        (le-ltb (earlier + l) accepted (let few = ltb-false (earlier + reached) accepted far in omega (arith, few, le)))

pub none-has-payload : (s : Setting) (p : Process) (h : Pool) (own : Own) (r reached delivered accepted : ℕ) → IsOwnOf s p h own
    → own.position ≡ Some r → ((l : ℕ) → l < reached → has_slot own.signed (InitAt h.view.number l) ≡ true)
    → CountsOwn own h delivered → length p.accepted ≡ accepted
    → not (nat_lt reached (delivered + window) && nat_lt (own.earlier + reached) accepted) ≡ true → least_due s p Inits ≡ None
none-has-payload s p h own r reached delivered accepted tells at signed counts all e = go (some-least open_ most_places).0
    (some-least open_ most_places).1
  where
    open_ : ℕ → Bool
    open_ l = not (has_slot own.signed (InitAt h.view.number l))

    go : (o : Option ℕ) → IsLeastBelow most_places open_ o → least_due s p Inits ≡ None
    go None least = no-init-due s p h own r h.view.number refl tells at least
    go (Some l) least = this-init-due s p h own r h.view.number l delivered accepted false refl tells at least counts all
        (sym (none-later reached l (delivered + window) own.earlier accepted
        (past-signed (λ l. has_slot own.signed (InitAt h.view.number l)) reached l signed least.2) e))

pub all-kept : (s : Setting) (p : Process) (h : Pool) (own : Own) (r reached : ℕ) → IsOwnOf s p h own → own.position ≡ Some r
    → own.ended ≡ false → ((k : ℕ) → k < reached → has_slot own.signed (KeepAt h.view.number k) ≡ true) → length (placed h) ≤ reached
    → least_due s p Keeps ≡ None
all-kept s p h own r reached tells at not_ended signed few = go (some-least open_ most_places).0 (some-least open_ most_places).1
  where
    open_ : ℕ → Bool
    open_ k = not (has_slot own.signed (KeepAt h.view.number k))

    go : (o : Option ℕ) → IsLeastBelow most_places open_ o → least_due s p Keeps ≡ None
    go None least = keep-due s p h own r h.view.number None refl tells at not_ended least
    go (Some k) least =
        let le = past-signed (λ k. has_slot own.signed (KeepAt h.view.number k)) reached k signed least.2 in
        keep-due s p h own r h.view.number (Some k) refl tells at not_ended least
        ∙ ap (option_map (Keep h.view.number k)) (slice_get_past (placed h) k (omega (arith, few, le)))
